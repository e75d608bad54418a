-- What a judged sample has. Assumes nothing.
use Rattle.std.proofs.Common.{◌≡◌, ℕ, Bool, true, false, Ok, Err, refl, arith}
use Rattle.power.specs.declared.refusal.Refusal.TheVariants.{NoSuchInstant, PowerOutOfBounds}
use Rattle.power.specs.declared.sample.Sample.{Sample}
use Rattle.power.specs.Day.{periods, is_instant, gross_bounds}
use Rattle.power.specs.Taking.{judging}

pub record Judged (s : Sample) : Type 0 where
  pub day : is_instant periods s.instant ≡ true
  pub bounds : gross_bounds s.power ≡ true

pub judged_parts : (s : Sample) → Ok tt ≡ judging s → Judged s
judged_parts s e = by (is_instant periods s.instant) refl (gross_bounds s.power) refl
  where
    by : (d : Bool) → is_instant periods s.instant ≡ d → (b : Bool) → gross_bounds s.power ≡ b → Judged s
    by true p true q = record { day = p; bounds = q }
    by true p false q = let f : Ok tt ≡ Err PowerOutOfBounds = rw (p, q) at e in let z : ◌≡◌ {A = ℕ} 0 1 = cc in absurd (omega arith)
    by false p b q = let f : Ok tt ≡ Err NoSuchInstant = rw p at e in let z : ◌≡◌ {A = ℕ} 0 1 = cc in absurd (omega arith)
