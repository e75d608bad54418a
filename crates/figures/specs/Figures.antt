-- The reference figures: worked numbers that the definitions give. Assumes nothing.
use Rattle.std.specs.Prelude.{◌≡◌, true, List, [], ◌∷◌, ℤ, pos, neg_ℤ, Some, None, Option}
use Rattle.power.specs.declared.sample.Sample.{Sample}
use Rattle.trace_record.specs.Trace.{point_at}
use Rattle.auxiliary.specs.declared.range.Range.{Range}
use Rattle.auxiliary.specs.declared.declaration.Declaration.{Declaration}
use Rattle.auxiliary.specs.Ranges.{range_of}
use Rattle.auxiliary.specs.Answering.{in_force, declared}
use Rattle.settlement.specs.Figures.{ReferenceFigures as SettlementFigures}

-- a sample under control
abbrev pub sample : (instant power : ℤ) → Sample
sample i p = record { instant = i; power = p; flag = true }

abbrev pub power_of : Option Sample → Option ℤ
power_of None = None
power_of (Some s) = Some s.power

-- the power at second 900 of a trace that has 0 kW at second 899 and another power at second 901
abbrev pub power_at_the_start : ℤ → Option ℤ
power_at_the_start later = power_of (point_at (sample (pos 899) (pos 0) ∷ sample (pos 901) later ∷ []) (pos 900))

-- 200 kW up to 270,000 kW net, 250 kW up to 600,000 kW net
abbrev pub both_ranges : List Range
both_ranges = range_of (pos 270000) (pos 200) ∷ range_of (pos 600000) (pos 250) ∷ []

abbrev pub HasTwoRanges : Declaration → Type 0
HasTwoRanges d = in_force d ≡ both_ranges

pub record ReferenceFigures : Type 0 where
  -- those of the settlement
  pub settled : SettlementFigures
  -- 0 kW at second 899 and 1 kW at second 901 give 1 kW at second 900; 0 and -1 give 0
  pub half_up : power_at_the_start (pos 1) ≡ Some (pos 1)
  pub half_up_below : power_at_the_start (neg_ℤ (pos 1)) ≡ Some (pos 0)
  -- the first range whose gross bound is at least the power, beyond the last the last
  pub range_reached : declared both_ranges (pos 270200) ≡ pos 200
  pub range_passed : declared both_ranges (pos 270201) ≡ pos 250
  pub ranges_passed : declared both_ranges (pos 700000) ≡ pos 250
