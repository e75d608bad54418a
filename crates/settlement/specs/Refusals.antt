-- The numbers of the refusals. Assumes nothing.
use Rattle.std.specs.Prelude.{ℕ}
use Rattle.settlement.specs.declared.refusal.Refusal.{Refusal}
use Rattle.settlement.specs.declared.refusal.Refusal.TheVariants.{OutOfBounds, NoNetEnergy, FactorAboveFour}

abbrev pub number_of : Refusal → ℕ
number_of OutOfBounds = 6
number_of NoNetEnergy = 11
number_of FactorAboveFour = 12
