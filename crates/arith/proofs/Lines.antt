-- A value on the line between two points lies between them. Assumes nothing.
use Rattle.std.proofs.Common.{◌≡◌, ℕ, ◌+◌, ◌*◌, ◌<◌, ◌≤◌, ℤ, pos, negsuc, ◌+ℤ◌, ◌-ℤ◌, ◌*ℤ◌, ◌≤ℤ◌, Some, refl, ap, mul-le-mul_right, mul-le-mul_left, arith}
use borrow.Author.Differences.{up as above, down as below}
use Rattle.std.proofs.lemmas.Int.{ints}
use Rattle.std.proofs.lemmas.Bool.{lt-ltb, le-leb}
use Rattle.arith.specs.Division.{nearest}
use Rattle.arith.specs.Interpolation.{interpolated, interpolation}
use Rattle.arith.proofs.Nearest.{nearest_under, nearest_over}

-- the parts of (b - a) * step
product_parts : (a b : ℤ) (step : ℕ) → above ((b -ℤ a) *ℤ pos step) + (below b + above a) * step ≡ (above b + below a) * step + below ((b -ℤ a) *ℤ pos step)
product_parts a b step =
    let d = b -ℤ a in
    let parts : above d + (below b + above a) ≡ above b + below a + below d = omega (arith, ints) in
    let times = ap (λ z. z * step) parts in
    let product : (above (d *ℤ pos step) + below d * step) ≡ above d * step + below (d *ℤ pos step) = omega (arith, ints) in
    omega (arith, times, product)

-- P - Q rises by at most g over the whole span, so by no more over a step of it
over_step : (P Q zp zm g gz step span : ℕ) → zp + Q * step ≡ P * step + zm → P ≤ Q + g → step ≤ span → gz ≡ 0 → zp + gz * span ≤ g * span + zm
over_step P Q zp zm g gz step span e h within none = rw none (omega (arith, e, mul-le-mul_right step h, mul-le-mul_left g within))

not_below : (d : ℤ) → pos 0 ≤ℤ d → below d ≡ 0
not_below (pos n) h = refl
not_below (negsuc n) h = absurd (omega (arith, ints))

not_above : (d : ℤ) → d ≤ℤ pos 0 → above d ≡ 0
not_above (pos n) h = omega (arith, ints)
not_above (negsuc n) h = refl

-- what holds both ends holds every value on the way
pub interpolated-between : (a b : ℤ) (step span : ℕ) (low high : ℤ) → 0 < span → step ≤ span → low ≤ℤ a → low ≤ℤ b → a ≤ℤ high → b ≤ℤ high → (low ≤ℤ interpolated a b step span) × (interpolated a b step span ≤ℤ high)
interpolated-between a b step span low high some within la lb ah bh =
    let z = (b -ℤ a) *ℤ pos step in
    let parts = product_parts a b step in
    let high-gap : pos 0 ≤ℤ (high -ℤ a) = omega (arith, ints) in
    let low-gap : (low -ℤ a) ≤ℤ pos 0 = omega (arith, ints) in
    let up_to : nearest z span ≤ℤ (high -ℤ a) = nearest_under z span (high -ℤ a) some (over_step (above b + below a) (below b + above a) (above z) (below z) (above (high -ℤ a)) (below (high -ℤ a)) step span parts (omega (arith, ints)) within (not_below (high -ℤ a) high-gap)) in
    let over = over_step (below b + above a) (above b + below a) (below z) (above z) (below (low -ℤ a)) (above (low -ℤ a)) step span (omega (arith, parts)) (omega (arith, ints)) within (not_above (low -ℤ a) low-gap) in
    let from : (low -ℤ a) ≤ℤ nearest z span = nearest_over z span (low -ℤ a) some (omega (arith, over)) in
    (omega (arith, ints), omega (arith, ints))

-- the place at a step from 0 to m, and that it lies between the ends
pub placed : (a b step : ℤ) (m : ℕ) → 0 < m → pos 0 ≤ℤ step → step ≤ℤ pos m
    → (interpolation a b step (pos m) ≡ Some (a +ℤ nearest ((b -ℤ a) *ℤ step) m))
    × ((low high : ℤ) → low ≤ℤ a → low ≤ℤ b → a ≤ℤ high → b ≤ℤ high → (low ≤ℤ (a +ℤ nearest ((b -ℤ a) *ℤ step) m)) × ((a +ℤ nearest ((b -ℤ a) *ℤ step) m) ≤ℤ high))
placed a b (pos s) m some h k =
    let within : s ≤ m = omega (arith, ints) in
    (rw (lt-ltb 0 m some, le-leb s m within) refl, λ low high. interpolated-between a b s m low high some within)
placed a b (negsuc s) m some h k = absurd (omega (arith, ints))
