-- A value on the straight line between two points. Assumes nothing.
use Rattle.std.specs.Prelude.{ℕ, cond, ◌&&◌, ℤ, pos, negsuc, ◌+ℤ◌, ◌-ℤ◌, ◌*ℤ◌, Some, None, Option, nat_le, nat_lt}
use Rattle.arith.specs.Division.{nearest}

-- the value at `step` of `span` on the line from `start` to `end`, to the nearest whole number
abbrev pub interpolated : (start end : ℤ) (step span : ℕ) → ℤ
interpolated start end step span = start +ℤ nearest ((end -ℤ start) *ℤ pos step) span

-- that value, where the line has some length and the place lies on it
abbrev pub interpolation : (start end step span : ℤ) → Option ℤ
interpolation start end (pos step) (pos span) = cond (nat_lt 0 span && nat_le step span) (Some (interpolated start end step span)) None
interpolation start end (pos step) (negsuc _) = None
interpolation start end (negsuc _) (pos span) = None
interpolation start end (negsuc _) (negsuc _) = None
