-- One turn of a loop that adds up a whole number of each element. Assumes nothing.
use Rattle.std.proofs.Common.{◌≡◌, ℕ, ◌+◌, ◌*◌, ◌^◌, ◌<◌, ◌≤◌, List, length, get_or, take, ℤ, ◌+ℤ◌, nat_abs, sym, ap, ◌∙◌, arith, w64, to_z, of_z}
use Rattle.std.proofs.lemmas.Int.{ints}
use Rattle.arith.specs.Sums.{int_sum}
use Rattle.arith.proofs.Sums.{int_sum_more}

-- s is the sum so far, r the next number
pub turn : {X : Type 0} (f : X → ℤ) (xs : List X) (i : ℕ) (x : X) (s r : ℤ) → i < length xs → i < 15 → x ≡ get_or xs i x
    → s ≡ int_sum f (take i xs) → nat_abs s ≤ 2 ^ 49 * i → r ≡ f x → nat_abs r ≤ 2 ^ 49
    → (to_z w64 (of_z w64 (s +ℤ to_z w64 (of_z w64 r))) ≡ int_sum f (take (i + 1) xs)) × (nat_abs (to_z w64 (of_z w64 (s +ℤ to_z w64 (of_z w64 r)))) ≤ 2 ^ 49 * (i + 1))
turn f xs i x s r within few x-is s-is small r-is low =
    let code : to_z w64 (of_z w64 (s +ℤ to_z w64 (of_z w64 r))) ≡ s +ℤ r = omega (arith, ints) in
    let next : s +ℤ r ≡ int_sum f (take (i + 1) xs) = rw (s-is, r-is ∙ ap f x-is) (sym (int_sum_more f xs i x within)) in
    (code ∙ next, omega (arith, ints, code))
