-- Tests of whole numbers: in a range, and equal. Assumes nothing.
use Rattle.std.specs.Prelude.{Bool, ◌&&◌, ℤ, int_le}

-- from low to high, both included
abbrev pub in_range : (low high z : ℤ) → Bool
in_range low high z = int_le low z && int_le z high

abbrev pub int_eq : ℤ → ℤ → Bool
int_eq a b = int_le a b && int_le b a
