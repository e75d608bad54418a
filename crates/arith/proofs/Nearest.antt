-- Laws of the nearest whole number. Assumes nothing.
use Rattle.std.proofs.Common.{◌≡◌, ℕ, zero, suc, ◌+◌, ◌-◌, ◌*◌, ◌<◌, ◌≤◌, ℤ, pos, negsuc, ◌+ℤ◌, ◌*ℤ◌, nat_abs, ◌≤ℤ◌, ◌<ℤ◌, ap, mul-le-mul_right, arith}
use borrow.Author.Differences.{up as above, down as below, sum_is_lem}
use Rattle.std.proofs.lemmas.Int.{ints, by_lt_z}
use Rattle.arith.specs.Division.{nearest, Divided}
use Rattle.arith.proofs.Floors.{floor_only, floor_is}

-- the floor, where the rest is less than half of the divisor
pub nearest_down : (z q : ℤ) (m r : ℕ) → Divided z m q r → 2 * r < m → nearest z m ≡ q
nearest_down z q m r d less = floor_only (pos 2 *ℤ z +ℤ pos m) q (2 * m) (2 * r + m) (omega (arith, ints, d.whole)) (omega arith)

-- one more, where it is half of it or more
pub nearest_up : (z q : ℤ) (m r : ℕ) → Divided z m q r → m ≤ 2 * r → nearest z m ≡ q +ℤ pos 1
nearest_up z q m r d more =
    let next = ap (λ x. x * m) (sum_is_lem q (pos 1)) in
    floor_only (pos 2 *ℤ z +ℤ pos m) (q +ℤ pos 1) (2 * m) (2 * r - m) (omega (arith, ints, d.whole, next)) (omega (arith, d.less))

-- twice the nearest times m lies from 2 * z less m, exclusive, to 2 * z and m more
pub nearest_is : (z : ℤ) (m : ℕ) → 0 < m
    → (2 * m * above (nearest z m) + 2 * below z ≤ 2 * above z + 2 * m * below (nearest z m) + m)
    × (2 * above z + 2 * m * below (nearest z m) < 2 * m * above (nearest z m) + 2 * below z + m)
nearest_is z m some =
    let is = floor_is (pos 2 *ℤ z +ℤ pos m) (2 * m) (omega arith) in
    let twice : above (pos 2 *ℤ z +ℤ pos m) + 2 * below z ≡ 2 * above z + m + below (pos 2 *ℤ z +ℤ pos m) = omega (arith, ints) in
    (omega (arith, is.0, twice), omega (arith, is.1, twice))

-- z/m is at most h, and at least l, by the parts of the whole numbers
abbrev pub Under : (z : ℤ) (m : ℕ) (h : ℤ) → Type 0
Under z m h = above z + below h * m ≤ above h * m + below z

abbrev pub Over : (z : ℤ) (m : ℕ) (l : ℤ) → Type 0
Over z m l = above l * m + below z ≤ above z + below l * m

pub nearest_under : (z : ℤ) (m : ℕ) (h : ℤ) → 0 < m → Under z m h → nearest z m ≤ℤ h
nearest_under z m h some u = by_lt_z h (nearest z m) (λ lt. absurd (no lt)) (λ le. le)
  where
    no : h <ℤ nearest z m → ⊥
    no lt =
        let next : above h + below (nearest z m) + 1 ≤ above (nearest z m) + below h = omega (arith, ints) in
        omega (arith, mul-le-mul_right m next, (nearest_is z m some).0)

pub nearest_over : (z : ℤ) (m : ℕ) (l : ℤ) → 0 < m → Over z m l → l ≤ℤ nearest z m
nearest_over z m l some u = by_lt_z (nearest z m) l (λ lt. absurd (no lt)) (λ le. le)
  where
    no : nearest z m <ℤ l → ⊥
    no lt =
        let next : above (nearest z m) + below l + 1 ≤ above l + below (nearest z m) = omega (arith, ints) in
        omega (arith, mul-le-mul_right m next, (nearest_is z m some).1)

parts_size : (z : ℤ) → (above z ≤ nat_abs z) × (below z ≤ nat_abs z)
parts_size (pos a) = (omega arith, omega arith)
parts_size (negsuc a) = (omega arith, omega arith)

-- a fraction of at most k in size rounds to at most k in size
pub nearest_within : (z : ℤ) (m k : ℕ) → 0 < m → nat_abs z ≤ k * m → nat_abs (nearest z m) ≤ k
nearest_within z m zero some h =
    let parts = parts_size z in
    let high : nearest z m ≤ℤ pos 0 = nearest_under z m (pos 0) some (omega (arith, h, parts.0)) in
    let low : pos 0 ≤ℤ nearest z m = nearest_over z m (pos 0) some (omega (arith, h, parts.1)) in
    omega (arith, ints)
nearest_within z m (suc k) some h =
    let parts = parts_size z in
    let high : nearest z m ≤ℤ pos (suc k) = nearest_under z m (pos (suc k)) some (omega (arith, h, parts.0)) in
    let low : negsuc k ≤ℤ nearest z m = nearest_over z m (negsuc k) some (omega (arith, h, parts.1)) in
    omega (arith, ints)
