-- A piece between two net powers: N is the net sum, A the certified sum, Q the level, p and q the net powers. Assumes nothing.
use Rattle.std.specs.Prelude.{ℕ, ◌+◌, Bool, ℤ}
use Rattle.settlement.specs.declared.area.Areas.{Areas}
use Rattle.settlement.specs.Areas.{areas, slack, Near}
use Rattle.settlement.specs.Certifying.{deviation, exact_deviation}

module _ (N : ℕ) (A Q p q : ℤ) (w : ℕ) (counts : Bool) where
  -- its areas, between the deviations of its certified powers
  abbrev pub piece_areas : Areas
  piece_areas = areas (deviation N A Q p) (deviation N A Q q) w counts

  -- the areas r lie within w halves of the exact ones, and within w + 1 where the piece crosses the level
  abbrev pub PieceNear : Areas → Type 0
  PieceNear r = Near (w + slack (deviation N A Q p) (deviation N A Q q)) N (exact_deviation N A Q p) (exact_deviation N A Q q) w counts r
