-- What numbers are after the casts of the code. Assumes nothing.
use Rattle.std.proofs.Common.{◌≡◌, ℕ, ◌<◌, true, ℤ, pos, ◌+ℤ◌, ◌-ℤ◌, ◌*ℤ◌, ◌≤ℤ◌, arith, w32, w64, to_z, of_z}
use Rattle.std.proofs.lemmas.Int.{ints}
use Rattle.arith.proofs.Orders.{range_out}
use Rattle.power.specs.Day.{periods, is_period}
use Rattle.minute_record.specs.Minutes.{first_minute}

-- from one minute of the day to another
pub span_code : (a b : ℤ) → pos 0 ≤ℤ a → a ≤ℤ b → b ≤ℤ pos 1469 → to_z w32 (of_z w32 (to_z w64 (of_z w64 (to_z w64 (of_z w64 b) -ℤ to_z w64 (of_z w64 a))))) ≡ b -ℤ a
span_code a b l m h = omega (arith, ints)

-- a minute of a period
pub place_code : (t : ℤ) (i : ℕ) → is_period periods t ≡ true → i < 15 → to_z w64 (of_z w64 (to_z w64 (of_z w64 (pos 15 *ℤ to_z w64 (of_z w64 t))) +ℤ to_z w64 i)) ≡ first_minute t +ℤ pos i
place_code t i h inside = let b = range_out (pos 1) (pos 96) t h in omega (arith, ints, b.0, b.1)
