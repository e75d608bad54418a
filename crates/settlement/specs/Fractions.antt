-- Fractions of whole numbers, and how near a whole number lies to one. Assumes nothing.
use Rattle.std.specs.Prelude.{◌≡◌, ℕ, ◌*◌, ◌<◌, ◌≤◌, ℤ, pos, ◌-ℤ◌, ◌*ℤ◌, unsigned_abs}

-- num / den
pub record Fraction : Type 0 where
  pub num : ℤ
  pub den : ℕ

infix 5 ◌over◌
abbrev pub ◌over◌ : ℤ → ℕ → Fraction
n over d = record { num = n; den = d }

-- n/d - m/e = (n × e - m × d) / (d × e)
abbrev pub minus : Fraction → Fraction → Fraction
minus f g = f.num *ℤ pos g.den -ℤ g.num *ℤ pos f.den over f.den * g.den

-- n/d and m/e are the same number
abbrev pub Same : Fraction → Fraction → Type 0
Same f g = f.num *ℤ pos g.den ≡ g.num *ℤ pos f.den

-- |u - f| ≤ b, and f does not divide by 0
pub record Within (b : ℕ) (u : ℤ) (f : Fraction) : Type 0 where
  pub proper : 0 < f.den
  pub near : unsigned_abs (u *ℤ pos f.den -ℤ f.num) ≤ b * f.den

-- the whole number u is at most 1/2 from x/N
abbrev pub Rounds : ℕ → ℤ → ℤ → Type 0
Rounds N u x = 2 * unsigned_abs (u *ℤ pos N -ℤ x) ≤ N
