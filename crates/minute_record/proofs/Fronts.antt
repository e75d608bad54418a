-- The front of a list and its last entry, and what a filter does not keep. Assumes nothing.
use Rattle.std.proofs.Common.{◌≡◌, ℕ, ◌+◌, ◌-◌, ◌<◌, Bool, false, List, [], ◌∷◌, ◌++◌, length, get_or, take, set, ℤ, ◌<ℤ◌, Some, filter, sym, refl, ap, ◌∙◌, subst, arith, length-set}
use Rattle.std.specs.List.{AllByRecursion}
use Rattle.std.proofs.ByRecursion.{All-from_get_or}
use Rattle.std.proofs.lemmas.List.{take_all, take_more, take_more_set, get_or-take, get_or_push, length_push, length-take-le}
use Rattle.keyed_log.specs.Entries.{Rising, last}
use Rattle.keyed_log.proofs.Rises.{rising_far}
use Rattle.keyed_log.proofs.Kept.{last_some}

pub all_front : {X : Type 0} (P : X → Type 0) (xs : List X) (x : X) → AllByRecursion P (xs ++ x ∷ []) → AllByRecursion P xs × P x
all_front P [] x (p, a) = (tt, p)
all_front P (y ∷ xs) x (p, a) = let rest = all_front P xs x a in ((p, rest.0), rest.1)

pub split-last : {X : Type 0} (xs : List X) (x : X) → last xs ≡ Some x → xs ≡ take (length xs - 1) xs ++ x ∷ []
split-last [] x e = absurd (cc)
split-last (y ∷ ys) x e =
    let xs = y ∷ ys in
    let m = length xs - 1 in
    let all : take (m + 1) xs ≡ xs = take_all (m + 1) xs (omega arith) in
    let top = last_some xs y (omega arith) in
    let is : get_or xs m y ≡ x = cc in
    sym all ∙ take_more xs m y (omega arith) ∙ ap (λ z. take m xs ++ z ∷ []) is

pub set_last : {X : Type 0} (xs : List X) (x : X) → 0 < length xs → set xs (length xs - 1) x ≡ take (length xs - 1) xs ++ x ∷ []
set_last xs x some =
    let m = length xs - 1 in
    let long = length-set xs m x in
    sym (take_all (m + 1) (set xs m x) (omega (arith, long))) ∙ take_more_set xs m x (omega arith)

pub last_push : {X : Type 0} (xs : List X) (x : X) → last (xs ++ x ∷ []) ≡ Some x
last_push xs x =
    let long = length_push xs x in
    last_some (xs ++ x ∷ []) x (omega (arith, long)) ∙ ap Some (get_or_push xs x x (length (xs ++ x ∷ []) - 1) (omega (arith, long)))

-- where keys rise, the entries in front of the last are earlier
pub front_earlier : {E : Type 0} (key : E → ℤ) (es : List E) (e : E) → Rising key es → last es ≡ Some e → AllByRecursion (λ x. key x <ℤ key e) (take (length es - 1) es)
front_earlier {E} key es e rising h = All-from_get_or (λ x. key x <ℤ key e) (take (length es - 1) es) e each
  where
    each : (i : ℕ) → i < length (take (length es - 1) es) → key (get_or (take (length es - 1) es) i e) <ℤ key e
    each i l =
        let m = length es - 1 in
        let long = length-take-le m es (omega arith) in
        let inside : i < m = omega (arith, long) in
        let top = last_some es e (omega arith) in
        let is : get_or es m e ≡ e = cc in
        let far = rising_far key es rising i m e inside (omega arith) in
        rw (get_or-take m es i e inside) (subst (λ z. key (get_or es i e) <ℤ key z) is far)

pub kept_nothing : {X : Type 0} (test : X → Bool) (xs : List X) → AllByRecursion (λ x. test x ≡ false) xs → filter test xs ≡ []
kept_nothing test [] a = refl
kept_nothing test (x ∷ xs) (p, a) = rw p (kept_nothing test xs a)
