-- What a declaration in force answers. Assumes nothing.
use Rattle.std.specs.Prelude.{List, ℤ, pos, Some, None, Option, int_le}
use Rattle.std.specs.List.{find}
use Rattle.std.specs.Option.{option_or}
use Rattle.auxiliary.specs.Ranges.{gross_bound, last_of}
use Rattle.auxiliary.specs.declared.declaration.Declaration.{Declaration}
use Rattle.auxiliary.specs.declared.range.Range.{Range}

abbrev pub in_force : Declaration → List Range
in_force d = d.ranges.listed.items

-- the first range whose gross bound is at least that gross power, in kW
abbrev pub first_reaching : List Range → ℤ → Option Range
first_reaching rs gross = find (λ r. int_le gross (gross_bound r)) rs

-- 0 kW without a range
abbrev pub auxiliary_of : Option Range → ℤ
auxiliary_of None = pos 0
auxiliary_of (Some r) = r.auxiliary

-- the first range that reaches the gross power decides, beyond the last gross bound the last range
abbrev pub declared : List Range → ℤ → ℤ
declared rs gross = auxiliary_of (option_or (first_reaching rs gross) (last_of rs))
