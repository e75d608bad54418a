use Rattle.std.proofs.Common.{◌≡◌, ℕ, ◌-◌, ◌^◌, ◌<◌, ℤ, pos, negsuc, ◌+ℤ◌, ◌-ℤ◌, ◌*ℤ◌, ◌≤ℤ◌, Some, sym, arith, w32, w64, SFits, to_z, of_z, rules}
use Rattle.std.proofs.lemmas.Int.{ints, to_z-of_z}
use Rattle.arith.specs.Division.{nearest}
use Rattle.arith.specs.Interpolation.{interpolation}
use Rattle.arith.proofs.Lines.{placed}
use Rattle.arith.proofs.Casts.{widened}
use Rattle.arith.proofs.interpolation.interpolate.Goals as goal

-- the sum lies between its ends, so it fits what they fit
module _ (a b step n : ℤ) (m : ℕ) (some : 0 < m) (low : pos 0 ≤ℤ step) (high : step ≤ℤ pos m) (n_is : n ≡ nearest ((b -ℤ a) *ℤ step) m) (fa : SFits w32 a) (fb : SFits w32 b) where
  between : (l h : ℤ) → l ≤ℤ a → l ≤ℤ b → a ≤ℤ h → b ≤ℤ h → (l ≤ℤ (a +ℤ n)) × ((a +ℤ n) ≤ℤ h)
  between = rw n_is (placed a b step m some low high).1

  sum_fits : SFits w32 (a +ℤ n)
  sum_fits =
      let held = between (negsuc (2 ^ 31 - 1)) (pos (2 ^ 31 - 1)) (omega (arith, ints)) (omega (arith, ints)) (omega (arith, ints)) (omega (arith, ints)) in
      omega (arith, ints, held)

  sum_is : SFits w64 n → to_z w64 (of_z w64 (to_z w32 (of_z w32 a))) +ℤ to_z w64 (of_z w64 n) ≡ a +ℤ n
  sum_is fn = rw (widened a fa, to_z-of_z w64 n fn)

  answer : interpolation a b step (pos m) ≡ Some (a +ℤ n)
  answer = rw n_is (placed a b step m some low high).0

-- the module's facts, at the end of the code
module _ (c : goal.After-nearest) where
  span_is : c.args.span ≡ pos c.in_ok-by.by.value
  span_is = omega (arith, ints, c.in_ok-by.ensures)

  low : pos 0 ≤ℤ c.args.step
  low = omega (arith, ints, c.if-step-lt0.false)

  high : c.args.step ≤ℤ pos c.in_ok-by.by.value
  high = let is = span_is in omega (arith, ints, c.if-step-span.false)

  fits_n : SFits w64 c.nearest.result
  fits_n = search rules

  n_is : c.nearest.result ≡ nearest ((c.args.end -ℤ c.args.start) *ℤ c.args.step) c.in_ok-by.by.value
  n_is =
      let f : SFits w64 c.rise.result = search rules in
      let rise-is : c.rise.result ≡ (c.args.end -ℤ c.args.start) *ℤ c.args.step = rw (to_z-of_z w32 c.args.end c.ranges.end, to_z-of_z w32 c.args.start c.ranges.start, to_z-of_z w32 c.args.step c.ranges.step) at c.rise.ensures.value in
      rw (to_z-of_z w64 c.rise.result f, rise-is) at c.nearest.ensures.value

  is : to_z w64 (of_z w64 (to_z w32 (of_z w32 c.args.start))) +ℤ to_z w64 (of_z w64 c.nearest.result) ≡ c.args.start +ℤ c.nearest.result
  is = sum_is c.args.start c.args.end c.args.step c.nearest.result c.in_ok-by.by.value c.in_ok-by.by.positive low high n_is c.ranges.start c.ranges.end fits_n

  narrow : SFits w32 (c.args.start +ℤ c.nearest.result)
  narrow = sum_fits c.args.start c.args.end c.args.step c.nearest.result c.in_ok-by.by.value c.in_ok-by.by.positive low high n_is c.ranges.start c.ranges.end

  wide : SFits w64 (c.args.start +ℤ c.nearest.result)
  wide = let f = narrow in omega (arith, ints)

pub overflow_add-result : goal.overflow_add-result
overflow_add-result c = rw (is c) (wide c)

pub overflow_cast-result-2 : goal.overflow_cast-result-2
overflow_cast-result-2 c = rw (is c, to_z-of_z w64 (c.args.start +ℤ c.nearest.result) (wide c)) (narrow c)

pub returns : goal.returns
returns c =
    let a = c.args.start in let b = c.args.end in let n = c.nearest.result in let m = c.in_ok-by.by.value in
    let code : to_z w32 (of_z w32 (to_z w64 (of_z w64 (to_z w64 (of_z w64 (to_z w32 (of_z w32 a))) +ℤ to_z w64 (of_z w64 n))))) ≡ a +ℤ n = rw (is c, to_z-of_z w64 (a +ℤ n) (wide c)) (to_z-of_z w32 (a +ℤ n) (narrow c)) in
    record {
      value = rw (code, span_is c) (sym (answer a b c.args.step n m c.in_ok-by.by.positive (low c) (high c) (n_is c) c.ranges.start c.ranges.end));
      between = rw code (between a b c.args.step n m c.in_ok-by.by.positive (low c) (high c) (n_is c) c.ranges.start c.ranges.end);
    }
