-- What gross power has above and below a level. Assumes nothing.
use Rattle.std.specs.Prelude.{◌≡◌, ℕ, ◌≤◌, List, ℤ, ◌-ℤ◌, unsigned_abs}
use Rattle.arith.specs.Sums.{int_sum}
use Rattle.power.specs.Course.{GrossPiece}
use Rattle.settlement.specs.declared.area.Areas.{Areas}
use Rattle.settlement.specs.Areas.{areas}

-- the areas of a piece, its gross power held against the level as it is
abbrev pub gross_areas : ℤ → GrossPiece → Areas
gross_areas level p = areas (p.start -ℤ level) (p.end -ℤ level) p.width p.counts

-- the areas r are the sums over the pieces
pub record Sums (level : ℤ) (ps : List GrossPiece) (r : Areas) : Type 0 where
  pub upward : r.upward ≡ int_sum (λ p. (gross_areas level p).upward) ps
  pub downward : r.downward ≡ int_sum (λ p. (gross_areas level p).downward) ps
  pub idle : r.idle ≡ int_sum (λ p. (gross_areas level p).idle) ps

-- each of at most b halves in size
pub record AtMost (b : ℕ) (r : Areas) : Type 0 where
  pub upward : unsigned_abs r.upward ≤ b
  pub downward : unsigned_abs r.downward ≤ b
  pub idle : unsigned_abs r.idle ≤ b
