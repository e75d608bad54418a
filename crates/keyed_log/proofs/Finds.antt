-- What a filter finds in a list, and in a list with one entry more. Assumes nothing.
use Rattle.std.proofs.Common.{◌≡◌, ℕ, zero, suc, ◌-◌, ◌<◌, ◌≤◌, Bool, true, false, List, [], ◌∷◌, ◌++◌, length, get_or, ℤ, ◌≤ℤ◌, ◌<ℤ◌, is_some, Some, None, filter, Option, sym, refl, ◌∙◌, subst, append-nil, arith}
use lib.Signed.{le_z}
use Rattle.std.specs.List.{slice_get, AllByRecursion}
use Rattle.std.proofs.lemmas.List.Elements.{filter-append}
use Rattle.std.proofs.ByRecursion.{all_kept_by, kept_by_passes, All-from_get_or}
use Rattle.std.proofs.lemmas.Int.{ints}
use Rattle.std.proofs.lemmas.Option.{slice_get_within, get_or_from_slice_get, slice_get_cases}
use Rattle.arith.proofs.Orders.{int_lt-true, int_le-true, le_int_le}
use Rattle.keyed_log.specs.Entries.{Rising, first, last, through, onward}
use Rattle.keyed_log.specs.Writing.{later}
use Rattle.keyed_log.proofs.Rises.{rising_to}
use Rattle.keyed_log.proofs.Kept.{last_some}

-- ---- entries of lists
pub nth_all : {X : Type 0} (P : X → Type 0) (xs : List X) (i : ℕ) (x : X) → slice_get xs i ≡ Some x → AllByRecursion P xs → P x
nth_all P [] i x e a = grind arith
nth_all P (y ∷ xs) zero x e (p, a) = let s : y ≡ x = cc in subst P s p
nth_all P (y ∷ xs) (suc i) x e (p, a) = nth_all P xs i x e a

pub nth-append : {X : Type 0} (xs ys : List X) (i : ℕ) (y : X) → slice_get xs i ≡ Some y → slice_get (xs ++ ys) i ≡ Some y
nth-append [] ys i y e = grind arith
nth-append (x ∷ xs) ys zero y e = e
nth-append (x ∷ xs) ys (suc i) y e = nth-append xs ys i y e

pub nth_here : {X : Type 0} (xs : List X) (i : ℕ) (x : X) → Some x ≡ slice_get xs i → (i < length xs) × (get_or xs i x ≡ x)
nth_here xs i x e = (slice_get_within xs i x (sym e), get_or_from_slice_get xs i x x (sym e))

pub nth_none : {X : Type 0} (xs : List X) (i : ℕ) → None ≡ slice_get xs i → length xs ≤ i
nth_none xs i e = grind (arith, slice_get_cases)

pub some_is : {X : Type 0} (o : Option X) → is_some o ≡ true → (x : X) × (o ≡ Some x)
some_is None e = absurd (cc)
some_is (Some x) e = (x, refl)

pub first_none : {X : Type 0} (xs : List X) → first xs ≡ None → length xs ≡ 0
first_none [] e = refl
first_none (x ∷ xs) e = grind arith

pub last_none : {X : Type 0} (xs : List X) → last xs ≡ None → length xs ≡ 0
last_none [] e = refl
last_none (x ∷ xs) e = let s = last_some (x ∷ xs) x (omega arith) in grind arith

-- ---- what a filter keeps
pub kept_not : {X : Type 0} (test : X → Bool) (xs : List X) (x : X) → test x ≡ false → filter test (xs ++ x ∷ []) ≡ filter test xs
kept_not test xs x e = filter-append test xs (x ∷ []) ∙ rw e (append-nil (filter test xs))

pub kept_too : {X : Type 0} (test : X → Bool) (xs : List X) (x : X) → test x ≡ true → filter test (xs ++ x ∷ []) ≡ filter test xs ++ x ∷ []
kept_too test xs x e = filter-append test xs (x ∷ []) ∙ rw e refl

-- where it keeps nothing, nothing passes
pub kept_none : {X : Type 0} (test : X → Bool) (xs : List X) → length (filter test xs) ≡ 0 → AllByRecursion (λ x. test x ≡ false) xs
kept_none test [] e = tt
kept_none test (x ∷ xs) e = by (test x) refl (λ h. kept_none test xs h)
  where
    by : (t : Bool) → test x ≡ t → (length (filter test xs) ≡ 0 → AllByRecursion (λ y. test y ≡ false) xs) → AllByRecursion (λ y. test y ≡ false) (x ∷ xs)
    by true h rest = let z : suc (length (filter test xs)) ≡ 0 = rw h at e in absurd (omega arith)
    by false h rest = (h, rest (rw h at e))

-- what a filter finds passes its test, and has what every entry has
pub found_passes : {X : Type 0} (test : X → Bool) (xs : List X) (i : ℕ) (x : X) → slice_get (filter test xs) i ≡ Some x → test x ≡ true
found_passes test xs i x e = nth_all (λ y. test y ≡ true) (filter test xs) i x e (kept_by_passes test xs)

pub found_has : {X : Type 0} (test : X → Bool) (P : X → Type 0) (xs : List X) (i : ℕ) (x : X) → slice_get (filter test xs) i ≡ Some x → AllByRecursion P xs → P x
found_has test P xs i x e a = nth_all P (filter test xs) i x e (all_kept_by test P xs a)

-- where a stricter filter finds something, a laxer one keeps something
pub laxer : {X : Type 0} (p q : X → Bool) (xs : List X) (i : ℕ) (x : X) → ((y : X) → p y ≡ true → q y ≡ true) → slice_get (filter p xs) i ≡ Some x → length (filter q xs) ≡ 0 → ⊥
laxer p q xs i x weaker e none =
    let passed = weaker x (found_passes p xs i x e) in
    let failed = found_has p (λ y. q y ≡ false) xs i x e (kept_none q xs none) in
    grind arith

-- ---- by a key
module _ {E : Type 0} (key : E → ℤ) (es : List E) where
  pub found_through : (n : ℤ) (i : ℕ) (x : E) → slice_get (through key n es) i ≡ Some x → key x ≤ℤ n
  found_through n i x e = int_le-true (key x) n (found_passes (λ y. le_z (key y) n) es i x e)

  pub found_onward : (n : ℤ) (i : ℕ) (x : E) → slice_get (onward key n es) i ≡ Some x → n ≤ℤ key x
  found_onward n i x e = int_le-true n (key x) (found_passes (λ y. le_z n (key y)) es i x e)

  -- where there is an entry from b on, there is one from an earlier a on
  pub onward_some : (a b : ℤ) (i : ℕ) (y : E) → a ≤ℤ b → slice_get (onward key b es) i ≡ Some y → (x : E) × (first (onward key a es) ≡ Some x)
  onward_some a b i y l e = by (first (onward key a es)) refl
    where
      by : (o : Option E) → first (onward key a es) ≡ o → (x : E) × (first (onward key a es) ≡ Some x)
      by (Some x) f = (x, f)
      by None f = absurd (laxer (λ x. le_z b (key x)) (λ x. le_z a (key x)) es i y (λ x h. let m = int_le-true b (key x) h in le_int_le a (key x) (omega (arith, ints))) e (first_none (onward key a es) f))

  -- where there is an entry up to a, there is one up to a later b
  pub through_some : (a b : ℤ) (i : ℕ) (y : E) → a ≤ℤ b → slice_get (through key a es) i ≡ Some y → (x : E) × (last (through key b es) ≡ Some x)
  through_some a b i y l e = by (last (through key b es)) refl
    where
      by : (o : Option E) → last (through key b es) ≡ o → (x : E) × (last (through key b es) ≡ Some x)
      by (Some x) f = (x, f)
      by None f = absurd (laxer (λ x. le_z (key x) a) (λ x. le_z (key x) b) es i y (λ x h. let m = int_le-true (key x) a h in le_int_le (key x) b (omega (arith, ints))) e (last_none (through key b es) f))

-- every entry is earlier than one whose key rises over the last
pub all_earlier : {E : Type 0} (key : E → ℤ) (es : List E) (e : E) → Rising key es → later key (last es) e ≡ true → AllByRecursion (λ x. key x <ℤ key e) es
all_earlier {E} key es e rising rises = All-from_get_or (λ x. key x <ℤ key e) es e each
  where
    each : (i : ℕ) → i < length es → key (get_or es i e) <ℤ key e
    each i l =
        let m = length es - 1 in
        let x = get_or es m e in
        let top : later key (Some x) e ≡ true = rw (last_some es e (omega arith)) at rises in
        let less : key x <ℤ key e = int_lt-true (key x) (key e) top in
        let low = rising_to key es rising i m e (omega arith) (omega arith) in
        omega (arith, ints)
