-- A day's periods and instants, and the bounds of gross power. Assumes nothing.
use Rattle.std.specs.Prelude.{ℕ, ◌+◌, ◌-◌, ◌*◌, Bool, ℤ, pos, ◌+ℤ◌, ◌*ℤ◌, neg_ℤ}
use Rattle.arith.specs.Ranges.{in_range}

-- the periods of a day, and of no other number
abbrev pub periods : ℕ
periods = 96

abbrev pub is_period : ℕ → ℤ → Bool
is_period n t = in_range (pos 1) (pos n) t

-- a period runs from its start to its end, which is the next one's start
abbrev pub start_of : ℤ → ℤ
start_of t = pos 900 *ℤ t

abbrev pub end_of : ℤ → ℤ
end_of t = pos 900 *ℤ t +ℤ pos 900

-- one period's length lies before the first of n periods, and one after the last
abbrev pub is_instant : ℕ → ℤ → Bool
is_instant n i = in_range (pos 0) (pos (900 * (n + 2) - 1)) i

-- kW
abbrev pub gross_bounds : ℤ → Bool
gross_bounds p = in_range (neg_ℤ (pos 1000000)) (pos 1000000) p
