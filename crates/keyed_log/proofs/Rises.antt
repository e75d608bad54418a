-- What rising keys say of places: later ones have greater keys, and a bound parts them. Assumes nothing.
use Rattle.std.proofs.Common.{◌≡◌, ℕ, zero, suc, ◌+◌, ◌-◌, ◌<◌, ◌≤◌, ◌⊎◌, min, List, ◌∷◌, length, get_or, take, ℤ, ◌≤ℤ◌, ◌<ℤ◌, inl, inr, arith, length-take}
use Rattle.std.specs.List.Sorted.{IsPartitionedBy}
use lib.Signed.{lt_z, le_z}
use Rattle.std.proofs.lemmas.Bool.{cases_eq}
use Rattle.std.proofs.lemmas.List.{get_or-take}
use Rattle.std.proofs.lemmas.Int.{ints}
use Rattle.arith.proofs.Orders.{int_lt-true, int_le-true, lt_int_lt, le_int_le}
use Rattle.keyed_log.specs.Entries.{Rising}

-- a key is below every later one
rising_by : {E : Type 0} (key : E → ℤ) (es : List E) → Rising key es → (i m : ℕ) (d : E) → i + suc m < length es → key (get_or es i d) <ℤ key (get_or es (i + suc m) d)
rising_by key es rising i zero d h = rising i d h
rising_by key es rising i (suc m) d h =
    let before = rising_by key es rising i m d (omega arith) in
    let next = rising (i + suc m) d (omega arith) in
    let e : i + suc m + 1 ≡ i + suc (suc m) = omega arith in
    let step : key (get_or es (i + suc m) d) <ℤ key (get_or es (i + suc (suc m)) d) = rw e at next in
    omega (arith, ints)

pub rising_tail : {E : Type 0} (key : E → ℤ) (e : E) (es : List E) → Rising key (e ∷ es) → Rising key es
rising_tail key e es rising i d h = let s : suc i + 1 ≡ suc (i + 1) = omega arith in rw s at (rising (suc i) d (omega arith))

pub rising_far : {E : Type 0} (key : E → ℤ) (es : List E) → Rising key es → (i j : ℕ) (d : E) → i < j → j < length es → key (get_or es i d) <ℤ key (get_or es j d)
rising_far key es rising i j d h l =
    let e : i + suc (j - i - 1) ≡ j = omega arith in
    rw e at (rising_by key es rising i (j - i - 1) d (omega arith))

-- the entries of a front keep rising keys
pub rising_front : {E : Type 0} (key : E → ℤ) (es : List E) (r : ℕ) → Rising key es → Rising key (take r es)
rising_front key es r rising i d l =
    let long : i + 1 < min r (length es) = rw (length-take r es) at l in
    rw (get_or-take r es i d (omega arith), get_or-take r es (i + 1) d (omega arith)) (rising i d (omega arith))

-- ---- a key is at most every later one, so that a bound on keys parts the entries
module _ {E : Type 0} (key : E → ℤ) (es : List E) (rising : Rising key es) where
  pub rising_to : (i j : ℕ) (d : E) → i ≤ j → j < length es → key (get_or es i d) ≤ℤ key (get_or es j d)
  rising_to i j d h l = by (cases_eq i j)
    where
      by : (i ≡ j) ⊎ (i ≡ j → ⊥) → key (get_or es i d) ≤ℤ key (get_or es j d)
      by (inl e) = rw e (omega (arith, ints))
      by (inr other) = let s = rising_far key es rising i j d (omega (arith, other)) l in omega (arith, ints)

  pub parted_before : (n : ℤ) → IsPartitionedBy (λ e. lt_z (key e) n) es
  parted_before n i j d h l e =
      let s = rising_to i j d h l in
      let t = int_lt-true (key (get_or es j d)) n e in
      lt_int_lt (key (get_or es i d)) n (omega (arith, ints))

  pub parted_through : (n : ℤ) → IsPartitionedBy (λ e. le_z (key e) n) es
  parted_through n i j d h l e =
      let s = rising_to i j d h l in
      let t = int_le-true (key (get_or es j d)) n e in
      le_int_le (key (get_or es i d)) n (omega (arith, ints))
