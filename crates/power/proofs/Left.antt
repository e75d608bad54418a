-- What is left of a list from a place on. Assumes nothing.
use Rattle.std.proofs.Common.{◌≡◌, ℕ, ◌+◌, ◌<◌, ◌≤◌, List, [], ◌∷◌, length, drop, get_or, Some, None, refl, ap, ◌∙◌}
use mathlib.Core.Logic.{◌⊎◌, inl, inr}
use Rattle.std.specs.List.{slice_get}
use Rattle.std.proofs.lemmas.List.{drop_more, drop_all}
use Rattle.std.proofs.lemmas.Option.{slice_get_cases}

-- the first part is trivially true: it lets `grind` find the place
pub left_at : {X : Type 0} (xs : List X) (i : ℕ) → (slice_get xs i ≡ slice_get xs i) × (((x : X) × (slice_get xs i ≡ Some x) × (i < length xs) × (drop i xs ≡ x ∷ drop (i + 1) xs)) ⊎ ((slice_get xs i ≡ None) × (drop i xs ≡ [])))
left_at {X} xs i = (refl, by (slice_get_cases xs i).1)
  where
    by : ((x : X) × (i < length xs) × (slice_get xs i ≡ Some x) × (get_or xs i x ≡ x)) ⊎ ((length xs ≤ i) × (slice_get xs i ≡ None)) → ((x : X) × (slice_get xs i ≡ Some x) × (i < length xs) × (drop i xs ≡ x ∷ drop (i + 1) xs)) ⊎ ((slice_get xs i ≡ None) × (drop i xs ≡ []))
    by (inl h) = inl (h.0, h.2, h.1, drop_more xs i h.0 h.1 ∙ ap (λ y. y ∷ drop (i + 1) xs) h.3)
    by (inr h) = inr (h.1, drop_all i xs h.0)
