-- Laws of the floor: it is between, and it is the only one. Assumes nothing.
use Rattle.std.proofs.Common.{◌≡◌, ℕ, ◌+◌, ◌*◌, ◌/◌, ◌<◌, ◌≤◌, ℤ, pos, negsuc, ◌+ℤ◌, ◌*ℤ◌, nat_abs, ap, ◌∙◌, div-le_self, div-mul-le_self, arith}
use native.Mathlib.Nat.{lt-div-mul-add, div-eq_of_lt-le}
use borrow.Author.Differences.{up as above, down as below}
use lib.Arith.{digits_div}
use Rattle.std.proofs.lemmas.Int.{ints}
use Rattle.arith.specs.Division.{floor}

-- m times the floor is at most z, and less than m under it
pub floor_is : (z : ℤ) (m : ℕ) → 0 < m → (above (floor z m) * m + below z ≤ above z + below (floor z m) * m) × (above z + below (floor z m) * m < above (floor z m) * m + below z + m)
floor_is (pos a) m some = omega (arith, div-mul-le_self a m, lt-div-mul-add {a = a} some)
floor_is (negsuc a) m some = omega (arith, div-mul-le_self a m, lt-div-mul-add {a = a} some)

pub floor_size : (z : ℤ) (m : ℕ) → nat_abs (floor z m) ≤ nat_abs z
floor_size (pos a) m = div-le_self a m
floor_size (negsuc a) m = omega (arith, div-le_self a m)

-- q times m and less than m more: q is the floor
pub floor_only : (z q : ℤ) (m r : ℕ) → z ≡ q *ℤ pos m +ℤ pos r → r < m → floor z m ≡ q
floor_only (pos a) (pos n) m r e less =
    let is : a ≡ n * m + r = omega (arith, ints, ap above e) in
    ap pos (ap (λ x. x / m) is ∙ digits_div n less)
floor_only (pos a) (negsuc n) m r e less = absurd (omega (arith, ints, e))
floor_only (negsuc a) (pos n) m r e less = absurd (omega (arith, ints, e))
floor_only (negsuc a) (negsuc n) m r e less = ap negsuc (div-eq_of_lt-le m (omega (arith, ints, e)) (omega (arith, ints, e)))
