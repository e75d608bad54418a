-- The ranges of a declaration. Assumes nothing.
use Rattle.std.specs.Prelude.{ℕ, ◌+◌, ◌-◌, ◌<◌, Bool, true, List, length, ℤ, ◌+ℤ◌, ◌<ℤ◌, Some, None, Option, int_lt, nat_lt, slice_index_or}
use Rattle.std.specs.List.{slice_get, list_all}
use Rattle.auxiliary.specs.Bounds.{range_bounds}
use Rattle.auxiliary.specs.declared.range.Range.{Range}

-- net bound plus auxiliary power, in kW
abbrev pub gross_bound : Range → ℤ
gross_bound r = r.net_bound +ℤ r.auxiliary

abbrev pub range_of : (net power : ℤ) → Range
range_of net power = record { net_bound = net; auxiliary = power }

abbrev pub within_bounds : Range → Bool
within_bounds r = range_bounds r.net_bound r.auxiliary

-- whether each range is in bounds
abbrev pub all_within_bounds : List Range → Bool
all_within_bounds rs = list_all within_bounds rs

-- the gross bounds rise strictly
abbrev pub Rising : List Range → Type 0
Rising rs = (i : ℕ) (d : Range) → i + 1 < length rs → gross_bound (slice_index_or rs i d) <ℤ gross_bound (slice_index_or rs (i + 1) d)

-- the last range, none without ranges
abbrev pub last_of : List Range → Option Range
last_of rs = slice_get rs (length rs - 1)

-- a declaration has at most ten ranges
abbrev pub has_room : List Range → Bool
has_room rs = nat_lt (length rs) 10

-- a gross bound is above that of the last range, where there is one
abbrev pub above : Option Range → ℤ → Bool
above None gross = true
above (Some r) gross = int_lt (gross_bound r) gross
