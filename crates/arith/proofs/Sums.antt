-- Laws of the sum over a list. Assumes nothing.
use Rattle.std.proofs.Common.{◌≡◌, ℕ, suc, ◌+◌, ◌*◌, ◌<◌, ◌≤◌, List, [], ◌∷◌, ◌++◌, length, get_or, take, ℤ, pos, ◌+ℤ◌, nat_abs, ap, ◌∙◌, arith}
use Rattle.std.proofs.lemmas.Int.{ints}
use Rattle.std.proofs.lemmas.List.{take_more}
use Rattle.arith.specs.Sums.{int_sum}

pub int_sum_push : {X : Type 0} (f : X → ℤ) (xs : List X) (x : X) → int_sum f (xs ++ x ∷ []) ≡ int_sum f xs +ℤ f x
int_sum_push f [] x = zeros (f x)
  where
    zeros : (z : ℤ) → z +ℤ pos 0 ≡ pos 0 +ℤ z
    zeros z = omega (arith, ints)
int_sum_push f (y ∷ ys) x = ap (λ z. f y +ℤ z) (int_sum_push f ys x) ∙ joined (f y) (int_sum f ys) (f x)
  where
    joined : (a b c : ℤ) → a +ℤ (b +ℤ c) ≡ (a +ℤ b) +ℤ c
    joined a b c = omega (arith, ints)

-- one more turn of a loop that adds up
pub int_sum_more : {X : Type 0} (f : X → ℤ) (xs : List X) (i : ℕ) (d : X) → i < length xs → int_sum f (take (i + 1) xs) ≡ int_sum f (take i xs) +ℤ f (get_or xs i d)
int_sum_more f xs i d h = ap (int_sum f) (take_more xs i d h) ∙ int_sum_push f (take i xs) (get_or xs i d)

-- each of at most m in size
pub int_sum_size : {X : Type 0} (f : X → ℤ) (m : ℕ) → ((x : X) → nat_abs (f x) ≤ m) → (xs : List X) → nat_abs (int_sum f xs) ≤ m * length xs
int_sum_size f m each [] = omega arith
int_sum_size f m each (x ∷ xs) = step (f x) (int_sum f xs) (length xs) (each x) (int_sum_size f m each xs)
  where
    step : (a b : ℤ) (n : ℕ) → nat_abs a ≤ m → nat_abs b ≤ m * n → nat_abs (a +ℤ b) ≤ m * suc n
    step a b n h k = omega (arith, ints)
