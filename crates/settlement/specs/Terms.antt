-- Certified power held against the level, by a period's terms. Assumes nothing.
use Rattle.std.specs.Prelude.{ℤ}
use Rattle.power.specs.declared.piece.Piece.{Piece}
use Rattle.settlement.specs.declared.area.Areas.{Areas}
use Rattle.settlement.specs.declared.powers.NetPower.{NetPower}
use Rattle.settlement.specs.declared.terms.Terms.{Terms}
use Rattle.settlement.specs.Certifying.{net_sum_of, certified_sum_of, deviation, exact_deviation}
use Rattle.settlement.specs.Pieces.{piece_areas, PieceNear}

module _ (t : Terms) where
  abbrev pub deviation_by : ℤ → ℤ
  deviation_by p = deviation (net_sum_of t.factor) (certified_sum_of t.factor) t.level.kilowatts p

  -- this over the net sum is the deviation, unrounded
  abbrev pub exact_deviation_by : ℤ → ℤ
  exact_deviation_by p = exact_deviation (net_sum_of t.factor) (certified_sum_of t.factor) t.level.kilowatts p

  -- the areas of a piece of net power, and how near r lies to the exact ones
  abbrev pub areas_by : Piece NetPower → Areas
  areas_by p = piece_areas (net_sum_of t.factor) (certified_sum_of t.factor) t.level.kilowatts p.start.kilowatts p.end.kilowatts p.width p.counts

  abbrev pub NearBy : Piece NetPower → Areas → Type 0
  NearBy p r = PieceNear (net_sum_of t.factor) (certified_sum_of t.factor) t.level.kilowatts p.start.kilowatts p.end.kilowatts p.width p.counts r
