-- What the tests of signed numbers say. Assumes nothing.
use Rattle.std.proofs.Common.{◌≡◌, ℕ, Bool, true, false, ℤ, ◌≤ℤ◌, ◌<ℤ◌, refl, arith}
use lib.Signed.{lt_z, le_z}
use Rattle.std.proofs.lemmas.Int.{ints}
use Rattle.std.proofs.lemmas.Bool.{and_parts, and_from}
use Rattle.arith.specs.Ranges.{in_range, int_eq}

pub int_lt-true : (a b : ℤ) → lt_z a b ≡ true → a <ℤ b
int_lt-true a b h = grind (arith, ints)

pub int_lt-false : (a b : ℤ) → lt_z a b ≡ false → b ≤ℤ a
int_lt-false a b h = grind (arith, ints)

pub int_le-true : (a b : ℤ) → le_z a b ≡ true → a ≤ℤ b
int_le-true a b h = grind (arith, ints)

pub int_le-false : (a b : ℤ) → le_z a b ≡ false → b <ℤ a
int_le-false a b h = grind (arith, ints)

pub lt_int_lt : (a b : ℤ) → a <ℤ b → lt_z a b ≡ true
lt_int_lt a b h = grind (arith, ints)

pub le_int_lt : (a b : ℤ) → b ≤ℤ a → lt_z a b ≡ false
le_int_lt a b h = grind (arith, ints)

pub le_int_le : (a b : ℤ) → a ≤ℤ b → le_z a b ≡ true
le_int_le a b h = grind (arith, ints)

pub lt_int_le : (a b : ℤ) → b <ℤ a → le_z a b ≡ false
lt_int_le a b h = grind (arith, ints)

-- a number in a range
pub range_out : (low high z : ℤ) → in_range low high z ≡ true → (low ≤ℤ z) × (z ≤ℤ high)
range_out low high z e =
    let parts = and_parts (le_z low z) (le_z z high) e in
    (int_le-true low z parts.0, int_le-true z high parts.1)

pub range_in : (low high z : ℤ) → low ≤ℤ z → z ≤ℤ high → in_range low high z ≡ true
range_in low high z l h = and_from (le_z low z) (le_z z high) (le_int_le low z l) (le_int_le z high h)

-- equal numbers
pub int_eq-true : (a b : ℤ) → int_eq a b ≡ true → a ≡ b
int_eq-true a b e =
    let parts = and_parts (le_z a b) (le_z b a) e in
    let low = int_le-true a b parts.0 in
    let high = int_le-true b a parts.1 in
    omega (arith, ints)

pub int_eq-same : (a b : ℤ) → a ≡ b → int_eq a b ≡ true
int_eq-same a b e = and_from (le_z a b) (le_z b a) (le_int_le a b (omega (arith, ints))) (le_int_le b a (omega (arith, ints)))

pub int_eq-false : (a b : ℤ) → int_eq a b ≡ false → a ≡ b → ⊥
int_eq-false a b e s = let t = int_eq-same a b s in let z : ◌≡◌ {A = ℕ} 0 1 = cc in omega arith

pub ne_int_eq : (a b : ℤ) → (a ≡ b → ⊥) → int_eq a b ≡ false
ne_int_eq a b h = by (int_eq a b) refl
  where
    by : (t : Bool) → int_eq a b ≡ t → int_eq a b ≡ false
    by true e = absurd (h (int_eq-true a b e))
    by false e = e

-- at most, and another number
pub strictly : (a b : ℤ) → a ≤ℤ b → (a ≡ b → ⊥) → a <ℤ b
strictly a b h apart = by (lt_z a b) refl
  where
    by : (t : Bool) → lt_z a b ≡ t → a <ℤ b
    by true e = int_lt-true a b e
    by false e = let g = int_lt-false a b e in absurd (apart (omega (arith, ints)))
