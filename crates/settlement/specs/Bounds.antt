-- The bounds of powers, filed numbers and the factor. Assumes nothing.
use Rattle.std.specs.Prelude.{ℕ, ◌*◌, Bool, ◌&&◌, ℤ, pos, neg_ℤ, int_le}
use Rattle.arith.specs.Ranges.{in_range}

-- gross power of up to 1,000,000 kW either way, less 0 to 50,000 kW of auxiliaries
abbrev pub net_power_bounds : ℤ → Bool
net_power_bounds p = in_range (neg_ℤ (pos 1050000)) (pos 1000000) p

-- four times the instructed energy
abbrev pub level_bounds : ℤ → Bool
level_bounds q = in_range (neg_ℤ (pos 1200000)) (pos 1200000) q

-- a filed energy, in kWh
abbrev pub energy_bounds : ℤ → Bool
energy_bounds e = in_range (neg_ℤ (pos 300000)) (pos 300000) e

abbrev pub weight_bounds : ℤ → Bool
weight_bounds w = in_range (pos 0) (pos 300000) w

abbrev pub meter_bounds : ℤ → Bool
meter_bounds mq = in_range (pos 0) (pos 300000) mq

abbrev pub instruction_bounds : (instructed schedule direct scheduled : ℤ) → Bool
instruction_bounds instructed schedule direct scheduled = energy_bounds instructed && energy_bounds schedule && weight_bounds direct && weight_bounds scheduled

-- the certified sum of a meter in bounds, at most four times the net sum N
abbrev pub factor_bounds : ℕ → ℤ → Bool
factor_bounds N A = in_range (pos 0) (pos 2160000000) A && int_le A (pos (4 * N))
