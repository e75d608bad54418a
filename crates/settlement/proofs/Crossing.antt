-- The floor of a product, by the floor and the rest of one factor. Assumes nothing.
use Rattle.std.proofs.Common.{◌≡◌, ℕ, ◌+◌, ◌*◌, ◌/◌, ◌%◌, ◌<◌, ◌≤◌, sym, ap, ◌∙◌, mul-le-mul_left, div-add-mod', div-mul-le_self, le_of_mul-le-mul_right, arith}
use native.Mathlib.Nat.{mul-add-div_right}

-- n × w / m is (n / m) × w and, of the rest, (n % m) × w / m more
pub floor_times : (n w m : ℕ) → 0 < m → n / m * w + n % m * w / m ≡ n * w / m
floor_times n w m some =
    sym (mul-add-div_right some (n / m * w) (n % m * w))
    ∙ ap (λ z. z / m) (omega (arith, ap (λ z. z * w) (div-add-mod' n m)))

-- g × g / m is at most g, where g is at most m
pub square_over : (g m : ℕ) → 0 < m → g ≤ m → g * g / m ≤ g
square_over g m some h = le_of_mul-le-mul_right {k = m} (omega (arith, div-mul-le_self (g * g) m, mul-le-mul_left g h)) some
