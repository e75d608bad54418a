use Rattle.std.proofs.Common.{◌≡◌, ℕ, ◌+◌, ◌*◌, ◌/◌, ◌%◌, ◌^◌, ◌<◌, ◌≤◌, ℤ, pos, ◌+ℤ◌, ◌*ℤ◌, ap, ◌∙◌, mul-le-mul_right, mod-lt, mul-le-mul, div-mul-le_self, le_of_mul-le-mul_right, arith, w64, SFits, to_z, of_z}
use Rattle.std.proofs.lemmas.Int.{ints}
use Rattle.arith.proofs.Casts.{product_code, natural}
use Rattle.arith.specs.Division.{floor, rest}
use Rattle.settlement.proofs.Crossing.{floor_times, square_over}
use Rattle.settlement.proofs.piece.crossing.Goals as goal

-- a product of natural numbers through the casts
naturals_code : (a b m n : ℕ) → a ≤ m → b ≤ n → m * n < 2 ^ 63 → m < 2 ^ 63 → n < 2 ^ 63 → SFits w64 (to_z w64 a *ℤ to_z w64 b) × (to_z w64 (of_z w64 (to_z w64 a *ℤ to_z w64 b)) ≡ pos (a * b))
naturals_code a b m n h k small low narrow = product_code _ _ (pos a) (pos b) m n (natural a (omega arith)) (natural b (omega arith)) h k small

same : (n : ℕ) → n < 2 ^ 63 → to_z w64 (of_z w64 (pos n)) ≡ to_z w64 n
same n h = omega (arith, ints)

kept : (n : ℕ) → n < 2 ^ 63 → to_z w64 (of_z w64 (pos n)) ≡ pos n
kept n h = omega (arith, ints)

sum_code : (a b : ℕ) → a ≤ 2 ^ 49 → b ≤ 2 ^ 49 → SFits w64 (pos a +ℤ pos b) × (to_z w64 (of_z w64 (pos a +ℤ pos b)) ≡ pos (a + b))
sum_code a b h k = (omega (arith, ints), omega (arith, ints))

-- the code over its numbers: g above the level, s below it, w the width; q, r and p as the divisions answer them
module _ (g s w : ℕ) (some : 0 < s) (high : g ≤ 2 ^ 31) (low : s < 2 ^ 32) (narrow : w < 2 ^ 16) where
  by_some : 0 < g + s
  by_some = omega arith

  square : SFits w64 (to_z w64 g *ℤ to_z w64 g) × (to_z w64 (of_z w64 (to_z w64 g *ℤ to_z w64 g)) ≡ pos (g * g))
  square = naturals_code g g (2 ^ 31) (2 ^ 31) high high (omega arith) (omega arith) (omega arith)

  left : SFits w64 (to_z w64 (g * g % (g + s)) *ℤ to_z w64 w) × (to_z w64 (of_z w64 (to_z w64 (g * g % (g + s)) *ℤ to_z w64 w)) ≡ pos (g * g % (g + s) * w))
  left = naturals_code (g * g % (g + s)) w (2 ^ 33) (2 ^ 16) (omega (arith, mod-lt (g * g) by_some)) (omega arith) (omega arith) (omega arith) (omega arith)

  quotient_small : g * g / (g + s) ≤ 2 ^ 31
  quotient_small = omega (arith, square_over g (g + s) by_some (omega arith))

  scaled : SFits w64 (to_z w64 (of_z w64 (pos (g * g / (g + s)))) *ℤ to_z w64 w) × (to_z w64 (of_z w64 (to_z w64 (of_z w64 (pos (g * g / (g + s)))) *ℤ to_z w64 w)) ≡ pos (g * g / (g + s) * w))
  scaled = rw (same (g * g / (g + s)) (omega (arith, quotient_small))) (naturals_code (g * g / (g + s)) w (2 ^ 31) (2 ^ 16) quotient_small (omega arith) (omega arith) (omega arith) (omega arith))

  scaled_small : g * g / (g + s) * w ≤ 2 ^ 47
  scaled_small = let less : w ≤ 2 ^ 16 = omega arith in omega (arith, mul-le-mul quotient_small less)

  part_small : g * g % (g + s) * w / (g + s) ≤ 2 ^ 16
  part_small =
      let rest-small : g * g % (g + s) ≤ g + s = omega (arith, mod-lt (g * g) by_some) in
      let whole : g * g % (g + s) * w / (g + s) ≤ w = le_of_mul-le-mul_right {k = g + s} (omega (arith, div-mul-le_self (g * g % (g + s) * w) (g + s), mul-le-mul_right w rest-small)) by_some in
      omega (arith, whole)

  most : g * g * w / (g + s) ≤ 2 ^ 48
  most = omega (arith, floor_times (g * g) w (g + s) by_some, scaled_small, part_small)

  module _ (q p : ℤ) (r : ℕ) (q-is : q ≡ floor (to_z w64 (of_z w64 (to_z w64 g *ℤ to_z w64 g))) (g + s)) (r-is : r ≡ rest (to_z w64 (of_z w64 (to_z w64 g *ℤ to_z w64 g))) (g + s)) where
    quotient : q ≡ pos (g * g / (g + s))
    quotient = rw square.1 at q-is

    remainder : r ≡ g * g % (g + s)
    remainder = rw square.1 at r-is

    rest_fits : SFits w64 (to_z w64 r *ℤ to_z w64 w)
    rest_fits = rw remainder left.0

    scaled_fits : SFits w64 (to_z w64 (of_z w64 q) *ℤ to_z w64 w)
    scaled_fits = rw quotient scaled.0

    module _ (p-is : p ≡ floor (to_z w64 (of_z w64 (to_z w64 r *ℤ to_z w64 w))) (g + s)) where
      part : p ≡ pos (g * g % (g + s) * w / (g + s))
      part = rw (remainder, left.1) at p-is

      sum : SFits w64 (to_z w64 (of_z w64 (to_z w64 (of_z w64 q) *ℤ to_z w64 w)) +ℤ to_z w64 (of_z w64 p))
          × (to_z w64 (of_z w64 (to_z w64 (of_z w64 (to_z w64 (of_z w64 q) *ℤ to_z w64 w)) +ℤ to_z w64 (of_z w64 p))) ≡ pos (g * g * w / (g + s)))
      sum =
          let whole_is : to_z w64 (of_z w64 (to_z w64 (of_z w64 q) *ℤ to_z w64 w)) ≡ pos (g * g / (g + s) * w) = rw quotient scaled.1 in
          let part-is : to_z w64 (of_z w64 p) ≡ pos (g * g % (g + s) * w / (g + s)) = rw part (kept (g * g % (g + s) * w / (g + s)) (omega (arith, part_small))) in
          let code = sum_code (g * g / (g + s) * w) (g * g % (g + s) * w / (g + s)) (omega (arith, scaled_small)) (omega (arith, part_small)) in
          rw (whole_is, part-is) (code.0, code.1 ∙ ap pos (floor_times (g * g) w (g + s) by_some))

pub overflow_mul-above : goal.overflow_mul-above
overflow_mul-above c = (square c.args.above c.args.below c.args.width c.requires.below c.requires.above c.ranges.below.fits c.ranges.width.fits).0

pub overflow_mul-rest : goal.overflow_mul-rest
overflow_mul-rest c =
    rest_fits c.args.above c.args.below c.args.width c.requires.below c.requires.above c.ranges.below.fits c.ranges.width.fits
    c.divide-whole.result.0 (pos 0) c.divide-whole.result.1 c.divide-whole.ensures.floor c.divide-whole.ensures.rest

pub overflow_mul-result : goal.overflow_mul-result
overflow_mul-result c =
    scaled_fits c.args.above c.args.below c.args.width c.requires.below c.requires.above c.ranges.below.fits c.ranges.width.fits
    c.divide-whole.result.0 (pos 0) c.divide-whole.result.1 c.divide-whole.ensures.floor c.divide-whole.ensures.rest

pub overflow_add-result : goal.overflow_add-result
overflow_add-result c =
    (sum c.args.above c.args.below c.args.width c.requires.below c.requires.above c.ranges.below.fits c.ranges.width.fits
    c.divide-whole.result.0 c.divide-part.result.0 c.divide-whole.result.1 c.divide-whole.ensures.floor c.divide-whole.ensures.rest c.divide-part.ensures.floor).0

pub returns : goal.returns
returns c =
    let is = (sum c.args.above c.args.below c.args.width c.requires.below c.requires.above c.ranges.below.fits c.ranges.width.fits
    c.divide-whole.result.0 c.divide-part.result.0 c.divide-whole.result.1 c.divide-whole.ensures.floor c.divide-whole.ensures.rest c.divide-part.ensures.floor).1 in
    record { value = is; bound = rw is (most c.args.above c.args.below c.args.width c.requires.below c.requires.above c.ranges.below.fits c.ranges.width.fits) }
