-- The sum of a whole number over a list. Assumes nothing.
use Rattle.std.specs.Prelude.{List, [], ◌∷◌, ℤ, pos, ◌+ℤ◌}

abbrev pub int_sum : {X : Type 0} → (X → ℤ) → List X → ℤ
int_sum f [] = pos 0
int_sum f (x ∷ xs) = f x +ℤ int_sum f xs
