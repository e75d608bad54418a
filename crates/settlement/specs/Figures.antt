-- The reference figures: worked numbers that the definitions give. Assumes nothing.
use Rattle.std.specs.Prelude.{◌≡◌, true, ℤ, pos, neg_ℤ, Some, None}
use Rattle.arith.specs.Interpolation.{interpolation}
use Rattle.settlement.specs.declared.area.Areas.{Areas}
use Rattle.settlement.specs.declared.split.Parts.{Parts}
use Rattle.settlement.specs.declared.refusal.Refusal.TheVariants.{FactorAboveFour}
use Rattle.settlement.specs.Refusals.{number_of}
use Rattle.settlement.specs.Filing.{level}
use Rattle.settlement.specs.Areas.{signed, areas}
use Rattle.settlement.specs.Certifying.{certified_sum_at, uncertified, certified}
use Rattle.settlement.specs.Pieces.{piece_areas}
use Rattle.settlement.specs.Splitting.{split}

abbrev pub areas_are : (upward downward idle : ℤ) → Areas
areas_are u d i = record { upward = u; downward = d; idle = i }

abbrev pub parts_are : (direct scheduled other : ℤ) → Parts
parts_are d s o = record { direct = d; scheduled = s; other = o }

pub record ReferenceFigures : Type 0 where
  -- net 214,800 and 264,800 kW over 120 s
  pub net_energy : signed (pos 214800) (pos 264800) 120 ≡ pos 57552000
  -- 0 kW at second 899 and 1 kW at second 901 give 1 kW at second 900; 0 and -1 give 0
  pub half_up : interpolation (pos 0) (pos 1) (pos 1) (pos 2) ≡ Some (pos 1)
  pub half_up_below : interpolation (pos 0) (neg_ℤ (pos 1)) (pos 1) (pos 2) ≡ Some (pos 0)
  -- deviations over 900 s on both sides of the level
  pub crossing : areas (neg_ℤ (pos 600)) (pos 1400) 900 true ≡ areas_are (pos 882000) (pos 162000) (pos 0)
  pub crossing_floored : areas (neg_ℤ (pos 597)) (pos 1405) 900 true ≡ areas_are (pos 887423) (pos 160223) (pos 0)
  -- 7 kWh below the schedule, with equal weights
  pub shared : split (neg_ℤ (pos 7)) 1 1 ≡ parts_are (neg_ℤ (pos 3)) (neg_ℤ (pos 4)) (pos 0)
  -- a net sum of 7,200 halves: a meter of 4 kWh passes, one of 5 kWh is refused by 12
  pub factor_passes : uncertified (pos 7200) (certified_sum_at (pos 4)) ≡ None
  pub factor_refused : uncertified (pos 7200) (certified_sum_at (pos 5)) ≡ Some FactorAboveFour
  pub factor_number : number_of FactorAboveFour ≡ 12
  -- the first minute of the operator's published quarter of an hour: meter 139,047 kWh, instructed 135,000 kWh
  pub certified_power : certified 1079802000 (certified_sum_at (pos 139047)) (pos 429800) ≡ pos 398489
  pub certified_area : piece_areas 1079802000 (certified_sum_at (pos 139047)) (level (pos 135000)) (pos 429800) (pos 429800) 60 true ≡ areas_are (pos 0) (pos 16981320) (pos 0)
