-- What numbers are after the casts of the code. Assumes nothing.
use Rattle.std.proofs.Common.{◌≡◌, ℕ, ◌-◌, ◌*◌, ◌^◌, ◌<◌, ◌≤◌, ℤ, pos, negsuc, ◌-ℤ◌, ◌*ℤ◌, nat_abs, refl, mul-le-mul, arith, lit<, w32, w64, SFits, to_z, of_z}
use Rattle.std.proofs.lemmas.Int.{ints, to_z-of_z}

-- a 32-bit number as a 64-bit one
pub widened : (z : ℤ) → SFits w32 z → to_z w64 (of_z w64 (to_z w32 (of_z w32 z))) ≡ z
widened z f = omega (arith, ints)

pub abs_product : (a b : ℤ) → nat_abs (a *ℤ b) ≡ nat_abs a * nat_abs b
abs_product (pos a) (pos b) = refl
abs_product (pos a) (negsuc b) = omega (arith, ints)
abs_product (negsuc a) (pos b) = omega (arith, ints)
abs_product (negsuc a) (negsuc b) = omega (arith, ints)

pub product_size : (a b : ℤ) (m n : ℕ) → nat_abs a ≤ m → nat_abs b ≤ n → nat_abs (a *ℤ b) ≤ m * n
product_size a b m n h k = rw (abs_product a b) (mul-le-mul h k)

-- the product of two terms that are a and b, of at most m and n in size
pub product_code : (e f a b : ℤ) (m n : ℕ) → e ≡ a → f ≡ b → nat_abs a ≤ m → nat_abs b ≤ n → m * n < 2 ^ 63 → SFits w64 (e *ℤ f) × (to_z w64 (of_z w64 (e *ℤ f)) ≡ a *ℤ b)
product_code e f a b m n e-is f-is h k small =
    let size = product_size a b m n h k in
    let fits : SFits w64 (a *ℤ b) = omega (arith, ints) in
    rw (e-is, f-is) (fits, to_z-of_z w64 (a *ℤ b) fits)

-- a natural number, small enough to be one of 64 bits with a sign
pub natural : (n : ℕ) → n < 2 ^ 63 → to_z w64 n ≡ pos n
natural n h = omega (arith, ints)

-- a difference of two 32-bit numbers, times a third
pub rise_code : (a b c : ℤ) → SFits w32 a → SFits w32 b → SFits w32 c
    → SFits w64 (to_z w64 (of_z w64 (to_z w64 (of_z w64 (to_z w32 (of_z w32 b))) -ℤ to_z w64 (of_z w64 (to_z w32 (of_z w32 a))))) *ℤ to_z w64 (of_z w64 (to_z w32 (of_z w32 c))))
    × (to_z w64 (of_z w64 (to_z w64 (of_z w64 (to_z w64 (of_z w64 (to_z w32 (of_z w32 b))) -ℤ to_z w64 (of_z w64 (to_z w32 (of_z w32 a))))) *ℤ to_z w64 (of_z w64 (to_z w32 (of_z w32 c))))) ≡ (b -ℤ a) *ℤ c)
rise_code a b c fa fb fc =
    product_code _ _ (b -ℤ a) c (2 ^ 32 - 1) (2 ^ 31) (omega (arith, ints)) (widened c fc) (omega (arith, ints)) (omega (arith, ints)) (lit< tt)
