-- The bounds of a range's numbers, in kW. Assumes nothing.
use Rattle.std.specs.Prelude.{Bool, ◌&&◌, ℤ, pos}
use Rattle.arith.specs.Ranges.{in_range}

abbrev pub net_bounds : ℤ → Bool
net_bounds net = in_range (pos 0) (pos 1000000) net

abbrev pub auxiliary_bounds : ℤ → Bool
auxiliary_bounds power = in_range (pos 0) (pos 50000) power

abbrev pub range_bounds : (net power : ℤ) → Bool
range_bounds net power = net_bounds net && auxiliary_bounds power
