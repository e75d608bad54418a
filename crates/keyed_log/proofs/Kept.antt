-- What a filter keeps of entries that a place parts, the last entry, and keys that stay rising. Assumes nothing.
use Rattle.std.proofs.Common.{◌≡◌, ℕ, zero, suc, ◌+◌, ◌-◌, ◌<◌, ◌≤◌, Bool, true, false, ◌&&◌, ◌⊎◌, List, [], ◌∷◌, ◌++◌, length, get_or, take, drop, set, ℤ, ◌<ℤ◌, Some, filter, sym, refl, ap, ◌∙◌, inl, inr, arith, length-set}
use Rattle.std.specs.List.{slice_get}
use Rattle.std.specs.List.Sorted.{IsPartitionPoint}
use lib.Signed.{lt_z, le_z}
use Rattle.std.proofs.lemmas.Bool.{cases_lt, cases_eq}
use Rattle.std.proofs.lemmas.List.{get_or_append_left, get_or_push, length_push, get_or-set_same, get_or-set_other}
use Rattle.std.proofs.lemmas.Option.{slice_get-get_or}
use Rattle.arith.specs.Ranges.{int_eq}
use Rattle.arith.proofs.Orders.{int_lt-true, int_lt-false, int_le-true, int_le-false, le_int_le, lt_int_le, lt_int_lt, le_int_lt, int_eq-true}
use Rattle.keyed_log.specs.Entries.{Rising, last, onward, between}
use Rattle.keyed_log.specs.Writing.{later, same}

-- ---- a test that passes in front of r and fails from r on keeps the front, and its opposite the rest
pub kept_front : {E : Type 0} (test : E → Bool) (es : List E) (r : ℕ) → IsPartitionPoint (λ e. test e ≡ true) (λ e. test e ≡ false) es r → filter test es ≡ take r es
kept_front test [] zero point = refl
kept_front test [] (suc r) point = refl
kept_front test (x ∷ es) zero (passes, fails) = rw (fails 0 x (omega arith) (omega arith)) (kept_front test es zero ((λ k d h i. absurd (omega arith)), (λ k d h i. fails (suc k) d (omega arith) (omega arith))))
kept_front test (x ∷ es) (suc r) (passes, fails) = rw (passes 0 x (omega arith) (omega arith)) (ap (λ l. x ∷ l) (kept_front test es r ((λ k d h i. passes (suc k) d (omega arith) (omega arith)), (λ k d h i. fails (suc k) d (omega arith) (omega arith)))))

pub kept_rest : {E : Type 0} (test : E → Bool) (es : List E) (r : ℕ) → IsPartitionPoint (λ e. test e ≡ false) (λ e. test e ≡ true) es r → filter test es ≡ drop r es
kept_rest test [] zero point = refl
kept_rest test [] (suc r) point = refl
kept_rest test (x ∷ es) zero (fails, passes) = rw (passes 0 x (omega arith) (omega arith)) (ap (λ l. x ∷ l) (kept_rest test es zero ((λ k d h i. absurd (omega arith)), (λ k d h i. passes (suc k) d (omega arith) (omega arith)))))
kept_rest test (x ∷ es) (suc r) (fails, passes) = rw (fails 0 x (omega arith) (omega arith)) (kept_rest test es r ((λ k d h i. fails (suc k) d (omega arith) (omega arith)), (λ k d h i. passes (suc k) d (omega arith) (omega arith))))

pub kept_both : {E : Type 0} (p q : E → Bool) (es : List E) → filter (λ e. p e && q e) es ≡ filter p (filter q es)
kept_both p q [] = refl
kept_both p q (x ∷ es) = grind (arith, kept_both p q es)

-- ---- places
pub nth_drop : {E : Type 0} (es : List E) (r i : ℕ) → slice_get (drop r es) i ≡ slice_get es (r + i)
nth_drop es zero i = let e : i ≡ 0 + i = omega arith in ap (slice_get es) e
nth_drop [] (suc r) i = refl
nth_drop (x ∷ es) (suc r) i = let e : suc (r + i) ≡ suc r + i = omega arith in nth_drop es r i ∙ ap (slice_get (x ∷ es)) e

pub nth-take : {E : Type 0} (es : List E) (r i : ℕ) → i < r → slice_get (take r es) i ≡ slice_get es i
nth-take es zero i h = absurd (omega arith)
nth-take [] (suc r) i h = refl
nth-take (x ∷ es) (suc r) zero h = refl
nth-take (x ∷ es) (suc r) (suc i) h = nth-take es r i (omega arith)

-- ---- what lies from a bound on
module _ {E : Type 0} (key : E → ℤ) (es : List E) (n : ℤ) (r : ℕ) where
  pub onward_at : IsPartitionPoint (λ e. lt_z (key e) n ≡ true) (λ e. lt_z (key e) n ≡ false) es r → onward key n es ≡ drop r es
  onward_at (before, on) = kept_rest (λ e. le_z n (key e)) es r ((λ k d h i. let s = int_lt-true (key (get_or es k d)) n (before k d h i) in lt_int_le n (key (get_or es k d)) s), (λ k d h i. let s = int_lt-false (key (get_or es k d)) n (on k d h i) in le_int_le n (key (get_or es k d)) s))

  past_at : IsPartitionPoint (λ e. le_z (key e) n ≡ true) (λ e. le_z (key e) n ≡ false) es r → filter (λ e. lt_z n (key e)) es ≡ drop r es
  past_at (through, past) = kept_rest (λ e. lt_z n (key e)) es r ((λ k d h i. let s = int_le-true (key (get_or es k d)) n (through k d h i) in le_int_lt n (key (get_or es k d)) s), (λ k d h i. let s = int_le-false (key (get_or es k d)) n (past k d h i) in lt_int_lt n (key (get_or es k d)) s))

-- those after a, among those before b
pub between_at : {E : Type 0} (key : E → ℤ) (es : List E) (a b : ℤ) (high low : ℕ) → IsPartitionPoint (λ e. lt_z (key e) b ≡ true) (λ e. lt_z (key e) b ≡ false) es high → IsPartitionPoint (λ e. le_z (key e) a ≡ true) (λ e. le_z (key e) a ≡ false) (take high es) low → between key a b es ≡ drop low (take high es)
between_at key es a b high low before after =
    kept_both (λ e. lt_z a (key e)) (λ e. lt_z (key e) b) es
    ∙ ap (filter (λ e. lt_z a (key e))) (kept_front (λ e. lt_z (key e) b) es high before)
    ∙ past_at key (take high es) a low after

-- ---- the last entry
pub last_some : {E : Type 0} (es : List E) (d : E) → 0 < length es → last es ≡ Some (get_or es (length es - 1) d)
last_some es d some = slice_get-get_or es (length es - 1) d (omega arith)

-- ---- rising keys stay rising
pub rising_push : {E : Type 0} (key : E → ℤ) (es : List E) (e : E) → Rising key es → later key (last es) e ≡ true → Rising key (es ++ e ∷ [])
rising_push {E} key es e rising rises i d l = by (cases_lt (i + 1) (length es))
  where
    long : i + 1 < length es + 1
    long = rw (length_push es e) at l

    by : (i + 1 < length es) ⊎ (length es ≤ i + 1) → key (get_or (es ++ e ∷ []) i d) <ℤ key (get_or (es ++ e ∷ []) (i + 1) d)
    by (inl m) = let n : i < length es = omega arith in rw (get_or_append_left es (e ∷ []) d i n, get_or_append_left es (e ∷ []) d (i + 1) m) (rising i d m)
    by (inr m) =
        let is : length es ≡ i + 1 = omega (arith, long) in
        let n : i < length es = omega arith in
        let place : length es - 1 ≡ i = omega arith in
        let top : later key (Some (get_or es i d)) e ≡ true = rw (last_some es d (omega arith), place) at rises in
        rw (get_or_append_left es (e ∷ []) d i n, get_or_push es e d (i + 1) is) (int_lt-true (key (get_or es i d)) (key e) top)

pub same_key : {E : Type 0} (key : E → ℤ) (es : List E) (e : E) (d : E) → 0 < length es → same key (last es) e ≡ true → key (get_or es (length es - 1) d) ≡ key e
same_key key es e d some t =
    let x = get_or es (length es - 1) d in
    let alike : int_eq (key x) (key e) ≡ true = rw (last_some es d some) at t in
    int_eq-true (key x) (key e) alike

pub rising_replace : {E : Type 0} (key : E → ℤ) (es : List E) (e : E) → Rising key es → same key (last es) e ≡ true → Rising key (set es (length es - 1) e)
rising_replace {E} key es e rising t i d l =
    rw (key_at i d (omega (arith, long)), key_at (i + 1) d long) (rising i d long)
  where
    long : i + 1 < length es
    long = rw (length-set es (length es - 1) e) at l

    key_at : (k : ℕ) (d : E) → k < length es → key (get_or (set es (length es - 1) e) k d) ≡ key (get_or es k d)
    key_at k d m = by (cases_eq k (length es - 1))
      where
        by : (k ≡ length es - 1) ⊎ (k ≡ length es - 1 → ⊥) → key (get_or (set es (length es - 1) e) k d) ≡ key (get_or es k d)
        by (inl is) = rw (is, get_or-set_same es (length es - 1) e d (omega arith)) (sym (same_key key es e d (omega arith) t))
        by (inr other) = ap key (get_or-set_other es (length es - 1) k e d other)

-- there is a last entry to replace
pub some_last : {E : Type 0} (key : E → ℤ) (es : List E) (e : E) → same key (last es) e ≡ true → 0 < length es
some_last key [] e t = let z : ◌≡◌ {A = ℕ} 0 1 = cc in absurd (omega arith)
some_last key (x ∷ es) e t = omega arith
