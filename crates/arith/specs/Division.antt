-- Division of whole numbers, with its floor and its rest. Assumes nothing.
use Rattle.std.specs.Prelude.{◌≡◌, ℕ, ◌-◌, ◌*◌, ◌/◌, ◌%◌, ◌<◌, ℤ, pos, negsuc, ◌+ℤ◌, ◌*ℤ◌}

-- the greatest whole number that is at most z/m (`negsuc a` is -(a + 1))
abbrev pub floor : ℤ → ℕ → ℤ
floor (pos a) m = pos (a / m)
floor (negsuc a) m = negsuc (a / m)

-- what z has over m times that floor
abbrev pub rest : ℤ → ℕ → ℕ
rest (pos a) m = a % m
rest (negsuc a) m = m - 1 - a % m

-- z is q times m and r more, with r from 0 to m less one
pub record Divided (z : ℤ) (m : ℕ) (q : ℤ) (r : ℕ) : Type 0 where
  pub whole : z ≡ q *ℤ pos m +ℤ pos r
  pub less : r < m

-- z/m to the nearest whole number: the floor of z/m + 1/2, so a half goes up
abbrev pub nearest : ℤ → ℕ → ℤ
nearest z m = floor (pos 2 *ℤ z +ℤ pos m) (2 * m)
