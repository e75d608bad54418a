-- The numbers of the refusals. Assumes nothing.
use Rattle.std.specs.Prelude.{ℕ}
use Rattle.auxiliary.specs.declared.refusal.Refusal.{Refusal}
use Rattle.auxiliary.specs.declared.refusal.Refusal.TheVariants.{OutOfBounds, TooManyRanges, NotRising}

abbrev pub number_of : Refusal → ℕ
number_of OutOfBounds = 6
number_of TooManyRanges = 16
number_of NotRising = 15
