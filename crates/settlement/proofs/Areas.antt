-- A piece's rounded areas beside its exact ones. Assumes nothing.
use Rattle.std.proofs.Common.{◌≡◌, ℕ, zero, suc, ◌+◌, ◌-◌, ◌*◌, ◌/◌, ◌<◌, ◌≤◌, Bool, true, false, cond, ℤ, pos, negsuc, ◌+ℤ◌, ◌-ℤ◌, ◌*ℤ◌, neg_ℤ, nat_abs, ◌≤ℤ◌, sym, refl, ap, ◌∙◌, subst, zero-le, mul-le-mul_right, add_comm, mul-pos, zero-mul, mul-one, div-mul-le_self, le_of_mul-le-mul_right, arith, lit<}
use native.Mathlib.Nat.{zero-div, add-mul-div_right, lt-div-mul-add}
use borrow.Author.Differences.{up as above, down as below, neg_is, sum_is_lem, product_is}
use lib.Signed.{lt_z}
use Rattle.std.proofs.lemmas.Int.{ints}
use Rattle.settlement.specs.declared.area.Areas.{Areas}
use Rattle.settlement.specs.Fractions.{Within, Rounds, ◌over◌, minus, Same}
use Rattle.settlement.specs.Areas.{signed, upward, downward, areas, slack, crosses, exact_upward, exact_downward, exact_signed, Near, Whole}
use Rattle.settlement.proofs.Shares.{Share, share_times, lipschitz}

-- the upward area as a natural number
abbrev up : ℤ → ℤ → ℕ → ℕ
up (pos a) (pos b) w = (a + b) * w
up (pos g) (negsuc s) w = g * g * w / (g + suc s)
up (negsuc s) (pos g) w = g * g * w / (g + suc s)
up (negsuc a) (negsuc b) w = 0

up_is : (a b : ℤ) (w : ℕ) → upward a b w ≡ pos (up a b w)
up_is (pos a) (pos b) w = refl
up_is (pos g) (negsuc s) w = refl
up_is (negsuc s) (pos g) w = refl
up_is (negsuc a) (negsuc b) w = refl

-- the upward area for a width of 1, as a quotient
abbrev unit_num : ℤ → ℤ → ℕ
unit_num (pos x) (pos y) = x + y
unit_num (pos g) (negsuc s) = g * g
unit_num (negsuc s) (pos g) = g * g
unit_num (negsuc x) (negsuc y) = 0

abbrev unit_den : ℤ → ℤ → ℕ
unit_den (pos x) (pos y) = 1
unit_den (pos g) (negsuc s) = g + suc s
unit_den (negsuc s) (pos g) = g + suc s
unit_den (negsuc x) (negsuc y) = 1

-- whatever the signs, it is P*P/(P+S), where P adds up what the ends are above zero, and S what they are below
unit_share : (x y : ℤ) → Share (above x + above y) (below x + below y) (unit_num x y) (unit_den x y)
unit_share (pos x) (pos y) = record { some = omega arith; law = omega arith; most = omega arith }
unit_share (pos g) (negsuc s) = record { some = omega arith; law = omega arith; most = omega arith }
unit_share (negsuc s) (pos g) = record { some = omega arith; law = omega arith; most = omega arith }
unit_share (negsuc x) (negsuc y) = record { some = omega arith; law = omega arith; most = omega arith }

exact_is : (N : ℕ) (x y : ℤ) (w : ℕ) → exact_upward N x y w ≡ (pos (unit_num x y * w) over N * unit_den x y)
exact_is N (pos x) (pos y) w = ap (λ d. pos ((x + y) * w) over d) (sym (mul-one N))
exact_is N (pos g) (negsuc s) w = refl
exact_is N (negsuc s) (pos g) w = refl
exact_is N (negsuc x) (negsuc y) w = rw (mul-one, zero-mul)

-- how far an end's parts move when it is rounded, in halves of 1/N
end_down : (N : ℕ) (a x : ℤ) → Rounds N a x → (2 * N * above a - 2 * above x) + (2 * below x - 2 * N * below a) ≤ N
end_down N (pos a) (pos x) h = omega (arith, ints)
end_down N (pos a) (negsuc x) h = omega (arith, ints)
end_down N (negsuc a) (pos x) h = omega (arith, ints)
end_down N (negsuc a) (negsuc x) h = omega (arith, ints)

end_up : (N : ℕ) (a x : ℤ) → Rounds N a x → (2 * above x - 2 * N * above a) + (2 * N * below a - 2 * below x) ≤ N
end_up N (pos a) (pos x) h = omega (arith, ints)
end_up N (pos a) (negsuc x) h = omega (arith, ints)
end_up N (negsuc a) (pos x) h = omega (arith, ints)
end_up N (negsuc a) (negsuc x) h = omega (arith, ints)

-- the upward areas for a width of 1 are at most 1 apart: n/e of the rounded ends, and n'/(N*e') of the exact ones
module _ (N : ℕ) (a b x y : ℤ) (ra : Rounds N a x) (rb : Rounds N b y) where
  unit_below : N * unit_num a b * unit_den x y ≤ unit_num x y * unit_den a b + N * (unit_den a b * unit_den x y)
  unit_below =
      let near : (2 * N * (above a + above b) - 2 * (above x + above y)) + (2 * (below x + below y) - 2 * N * (below a + below b)) ≤ 2 * N = omega (arith, end_down N a x ra, end_down N b y rb) in
      omega (arith, lipschitz (2 * N) (share_times (2 * N) (unit_share a b)) (share_times 2 (unit_share x y)) near)

  unit_above : unit_num x y * unit_den a b ≤ N * unit_num a b * unit_den x y + N * (unit_den a b * unit_den x y)
  unit_above =
      let near : (2 * (above x + above y) - 2 * N * (above a + above b)) + (2 * N * (below a + below b) - 2 * (below x + below y)) ≤ 2 * N = omega (arith, end_up N a x ra, end_up N b y rb) in
      omega (arith, lipschitz (2 * N) (share_times 2 (unit_share x y)) (share_times (2 * N) (unit_share a b)) near)

apart_in : (m n t : ℕ) → m ≤ n + t → n ≤ m + t → nat_abs (pos m -ℤ pos n) ≤ t
apart_in m n t h k = omega (arith, ints)

-- from a width of 1 to the width w, and from n*w/e to a whole number u, which is at most r below it
floored : (N w n e m d u r : ℕ) → 0 < N → 0 < e → 0 < d → N * n * d ≤ m * e + N * (e * d) → m * e ≤ N * n * d + N * (e * d) → u * e ≤ n * w → n * w ≤ u * e + r * e → Within (w + r) (pos u) (pos (m * w) over N * d)
floored N w n e m d u r N-some e-some d-some below above low high =
    let not_above : u * (N * d) ≤ m * w + (w + r) * (N * d) = le_of_mul-le-mul_right {k = e} (omega (arith, mul-le-mul_right w below, mul-le-mul_right (N * d) low)) e-some in
    let not_below : m * w ≤ u * (N * d) + (w + r) * (N * d) = le_of_mul-le-mul_right {k = e} (omega (arith, mul-le-mul_right w above, mul-le-mul_right (N * d) high)) e-some in
    record { proper = mul-pos N-some d-some; near = apart_in (u * (N * d)) (m * w) ((w + r) * (N * d)) not_above not_below }

-- what the rounding down does
low : (a b : ℤ) (w : ℕ) → up a b w * unit_den a b ≤ unit_num a b * w
low (pos a) (pos b) w = omega arith
low (pos g) (negsuc s) w = div-mul-le_self (g * g * w) (g + suc s)
low (negsuc s) (pos g) w = div-mul-le_self (g * g * w) (g + suc s)
low (negsuc a) (negsuc b) w = omega arith

high : (a b : ℤ) (w : ℕ) → unit_num a b * w ≤ up a b w * unit_den a b + 1 * unit_den a b
high (pos a) (pos b) w = omega arith
high (pos g) (negsuc s) w = omega (arith, lt-div-mul-add {a = g * g * w} {b = g + suc s} (omega arith))
high (negsuc s) (pos g) w = omega (arith, lt-div-mul-add {a = g * g * w} {b = g + suc s} (omega arith))
high (negsuc a) (negsuc b) w = omega arith

-- it does nothing where the line does not cross zero
flat : (a b : ℤ) (w : ℕ) → pos 0 ≤ℤ (a *ℤ b) → unit_num a b * w ≤ up a b w * unit_den a b + 0 * unit_den a b
flat (pos a) (pos b) w h = omega arith
flat (pos zero) (negsuc s) w h = omega arith
flat (pos (suc g)) (negsuc s) w h = absurd (omega (arith, ints))
flat (negsuc s) (pos zero) w h = omega arith
flat (negsuc s) (pos (suc g)) w h = absurd (omega (arith, ints))
flat (negsuc a) (negsuc b) w h = omega arith

up_near : (N : ℕ) (a b x y : ℤ) (w r : ℕ) → 0 < N → Rounds N a x → Rounds N b y → unit_num a b * w ≤ up a b w * unit_den a b + r * unit_den a b → Within (w + r) (upward a b w) (exact_upward N x y w)
up_near N a b x y w r some ra rb h =
    rw (up_is a b w, exact_is N x y w) (floored N w (unit_num a b) (unit_den a b) (unit_num x y) (unit_den x y) (up a b w) r
    some (unit_share a b).some (unit_share x y).some (unit_below N a b x y ra rb) (unit_above N a b x y ra rb) (low a b w) h)

-- the mirrored line
mirror : (N : ℕ) (a x : ℤ) → Rounds N a x → Rounds N (neg_ℤ a) (neg_ℤ x)
mirror N a x h = omega (arith, ints, ap (λ z. z * N) (neg_is a).0, ap (λ z. z * N) (neg_is a).1)

mirror_flat : (a b : ℤ) → pos 0 ≤ℤ (a *ℤ b) → pos 0 ≤ℤ (neg_ℤ a *ℤ neg_ℤ b)
mirror_flat a b h = omega (arith, ints, rw ((neg_is a).0, (neg_is a).1, (neg_is b).0, (neg_is b).1) at (product_is (neg_ℤ a) (neg_ℤ b)))

upward_near : (N : ℕ) (a b x y : ℤ) (w : ℕ) → 0 < N → Rounds N a x → Rounds N b y → Within (w + slack a b) (upward a b w) (exact_upward N x y w)
upward_near N a b x y w some ra rb = by (crosses a b) refl
  where
    by : (t : Bool) → crosses a b ≡ t → Within (w + cond t 1 0) (upward a b w) (exact_upward N x y w)
    by true e = up_near N a b x y w 1 some ra rb (high a b w)
    by false e = up_near N a b x y w 0 some ra rb (flat a b w (omega (arith, ints, e)))

-- up less down
none : (a b : ℤ) (w : ℕ) → above a ≡ 0 → above b ≡ 0 → up a b w ≡ 0
none (pos a) (pos b) w h k = rw (h, k) (zero-mul w)
none (pos g) (negsuc s) w h k = rw h (simp (zero-mul, zero-div))
none (negsuc s) (pos g) w h k = rw k (simp (zero-mul, zero-div))
none (negsuc a) (negsuc b) w h k = refl

-- g*g*w/(g+s) - s*s*w/(g+s) = (g-s)*w
triangles : (g s w : ℕ) → 0 < g + s → g * g * w / (g + s) + s * w ≡ s * s * w / (s + g) + g * w
triangles g s w some =
    sym (add-mul-div_right (g * g * w) (s * w) some)
    ∙ ap (λ z. z / (g + s)) (omega arith)
    ∙ add-mul-div_right (s * s * w) (g * w) some
    ∙ ap (λ z. s * s * w / z + g * w) (add_comm g s)

signed_is : (a b : ℤ) (w : ℕ) → above (signed a b w) + (below a + below b) * w ≡ below (signed a b w) + (above a + above b) * w
signed_is a b w = omega (arith, ints, ap (λ z. z * w) (sum_is_lem a b))

net_exact : (a b : ℤ) (w : ℕ) → pos (up a b w) -ℤ pos (up (neg_ℤ a) (neg_ℤ b) w) ≡ signed a b w
net_exact (pos a) (pos b) w = omega (arith, ints, signed_is (pos a) (pos b) w, none (neg_ℤ (pos a)) (neg_ℤ (pos b)) w (omega (arith, ints)) (omega (arith, ints)))
net_exact (pos zero) (negsuc s) w = omega (arith, ints, signed_is (pos zero) (negsuc s) w, none (pos 0) (negsuc s) w refl refl)
net_exact (pos (suc g)) (negsuc s) w = omega (arith, ints, signed_is (pos (suc g)) (negsuc s) w, triangles (suc g) (suc s) w (omega arith))
net_exact (negsuc s) (pos zero) w = omega (arith, ints, signed_is (negsuc s) (pos zero) w, none (negsuc s) (pos 0) w refl refl)
net_exact (negsuc s) (pos (suc g)) w = omega (arith, ints, signed_is (negsuc s) (pos (suc g)) w, triangles (suc g) (suc s) w (omega arith))
net_exact (negsuc a) (negsuc b) w = omega (arith, ints, signed_is (negsuc a) (negsuc b) w)

-- what lies below is what lies above of the line turned over
pub mirrored : (a b : ℤ) (w : ℕ) → downward a b w ≡ upward (neg_ℤ a) (neg_ℤ b) w
mirrored a b w = rw (up_is a b w, up_is (neg_ℤ a) (neg_ℤ b) w, ← net_exact a b w) (less (up a b w) (up (neg_ℤ a) (neg_ℤ b) w))
  where
    less : (m n : ℕ) → pos m -ℤ (pos m -ℤ pos n) ≡ pos n
    less m n = omega (arith, ints)

-- the same of the exact areas, for a width of 1, whatever is divided by
unit_net : (x y : ℤ) → unit_num x y * unit_den (neg_ℤ x) (neg_ℤ y) + (below x + below y) * (unit_den x y * unit_den (neg_ℤ x) (neg_ℤ y)) ≡ unit_num (neg_ℤ x) (neg_ℤ y) * unit_den x y + (above x + above y) * (unit_den x y * unit_den (neg_ℤ x) (neg_ℤ y))
unit_net (pos zero) (pos zero) = omega arith
unit_net (pos zero) (pos (suc y)) = omega arith
unit_net (pos (suc x)) (pos zero) = omega arith
unit_net (pos (suc x)) (pos (suc y)) = omega arith
unit_net (pos zero) (negsuc y) = omega arith
unit_net (pos (suc x)) (negsuc y) = omega arith
unit_net (negsuc x) (pos zero) = omega arith
unit_net (negsuc x) (pos (suc y)) = omega arith
unit_net (negsuc x) (negsuc y) = omega arith

-- (A - B)*N = s*C, in natural numbers
difference : (A B N C : ℕ) (s : ℤ) → A * N + below s * C ≡ B * N + above s * C → (pos A -ℤ pos B) *ℤ pos N ≡ s *ℤ pos C
difference A B N C s h = omega (arith, ints, ap (λ z. z * N) (sum_is_lem (pos A) (neg_ℤ (pos B))), ap (λ z. z * N) (neg_is (pos B)).0, ap (λ z. z * N) (neg_is (pos B)).1)

-- n*w/(N*e) - m*w/(N*d) = s/N, where n/e - m/d = P - S and s = (P - S)*w
net_of : (N w n e m d P S : ℕ) (s : ℤ) → n * d + S * (e * d) ≡ m * e + P * (e * d) → above s + S * w ≡ below s + P * w
    → (pos (n * w * (N * d)) -ℤ pos (m * w * (N * e))) *ℤ pos N ≡ s *ℤ pos (N * e * (N * d))
net_of N w n e m d P S s h k = difference (n * w * (N * d)) (m * w * (N * e)) N (N * e * (N * d)) s (omega (arith, ap (λ z. z * (w * N * N)) h, ap (λ z. z * (N * e * (N * d))) k))

pub exact_net : (N : ℕ) (x y : ℤ) (w : ℕ) → Same (minus (exact_upward N x y w) (exact_downward N x y w)) (exact_signed N x y w)
exact_net N x y w = rw (exact_is N x y w, exact_is N (neg_ℤ x) (neg_ℤ y) w)
    (net_of N w (unit_num x y) (unit_den x y) (unit_num (neg_ℤ x) (neg_ℤ y)) (unit_den (neg_ℤ x) (neg_ℤ y)) (above x + above y) (below x + below y) (signed x y w) (unit_net x y) (signed_is x y w))

-- ---- how near
mirror_crosses : (a b : ℤ) → crosses (neg_ℤ a) (neg_ℤ b) ≡ crosses a b
mirror_crosses a b = ap (λ z. lt_z z (pos 0)) (turned a b)
  where
    turned : (a b : ℤ) → neg_ℤ a *ℤ neg_ℤ b ≡ a *ℤ b
    turned a b = omega (arith, ints, rw ((neg_is a).0, (neg_is a).1, (neg_is b).0, (neg_is b).1) at (product_is (neg_ℤ a) (neg_ℤ b)))

downward_near : (N : ℕ) (a b x y : ℤ) (w : ℕ) → 0 < N → Rounds N a x → Rounds N b y → Within (w + slack a b) (downward a b w) (exact_downward N x y w)
downward_near N a b x y w some ra rb =
    rw (mirrored a b w, ← mirror_crosses a b) (upward_near N (neg_ℤ a) (neg_ℤ b) (neg_ℤ x) (neg_ℤ y) w some (mirror N a x ra) (mirror N b y rb))

-- an end by its parts, in halves of 1/N
end_out : (N : ℕ) (a x : ℤ) → Rounds N a x → (2 * (above a * N + below x) ≤ 2 * (below a * N + above x) + N) × (2 * (below a * N + above x) ≤ 2 * (above a * N + below x) + N)
end_out N a x h = (omega (arith, ints), omega (arith, ints))

near_in : (s t : ℤ) (N m : ℕ) → above s * N + below t ≤ below s * N + above t + m → below s * N + above t ≤ above s * N + below t + m → nat_abs (s *ℤ pos N -ℤ t) ≤ m
near_in s t N m h k = omega (arith, ints)

signed_near : (N : ℕ) (a b x y : ℤ) (w : ℕ) → 0 < N → Rounds N a x → Rounds N b y → Within w (signed a b w) (exact_signed N x y w)
signed_near N a b x y w some ra rb =
    let ea = end_out N a x ra in
    let eb = end_out N b y rb in
    let high-side : (above a + above b) * N + (below x + below y) ≤ (below a + below b) * N + (above x + above y) + N = omega (arith, ea.0, eb.0) in
    let low-side : (below a + below b) * N + (above x + above y) ≤ (above a + above b) * N + (below x + below y) + N = omega (arith, ea.1, eb.1) in
    let sa = ap (λ z. z * N) (signed_is a b w) in
    let sx = signed_is x y w in
    record {
      proper = some;
      near = near_in (signed a b w) (signed x y w) N (w * N)
          (omega (arith, sa, sx, mul-le-mul_right w high-side)) (omega (arith, sa, sx, mul-le-mul_right w low-side));
    }

nothing : (b : ℕ) → Within b (pos 0) (pos 0 over 1)
nothing b = record { proper = lit< tt; near = zero-le }

pub near : (N : ℕ) (a b x y : ℤ) (w : ℕ) (counts : Bool) → 0 < N → Rounds N a x → Rounds N b y → Near (w + slack a b) N x y w counts (areas a b w counts)
near N a b x y w true some ra rb = record { upward_near = upward_near N a b x y w some ra rb; downward_near = downward_near N a b x y w some ra rb; idle_near = nothing w; exact_net = exact_net N x y w }
near N a b x y w false some ra rb = record { upward_near = nothing (w + slack a b); downward_near = nothing (w + slack a b); idle_near = signed_near N a b x y w some ra rb; exact_net = exact_net N x y w }

pub whole : (a b : ℤ) (w : ℕ) (counts : Bool) → Whole a b w (areas a b w counts)
whole a b w true = record { sum = back (upward a b w) (signed a b w); above = rw (up_is a b w) (not_negative (up a b w)); below = rw (mirrored a b w, up_is (neg_ℤ a) (neg_ℤ b) w) (not_negative (up (neg_ℤ a) (neg_ℤ b) w)) }
  where
    back : (u s : ℤ) → u -ℤ (u -ℤ s) +ℤ pos 0 ≡ s
    back u s = omega (arith, ints)

    not_negative : (n : ℕ) → pos 0 ≤ℤ pos n
    not_negative n = omega (arith, ints)
whole a b w false = record { sum = alone (signed a b w); above = omega (arith, ints); below = omega (arith, ints) }
  where
    alone : (s : ℤ) → pos 0 -ℤ pos 0 +ℤ s ≡ s
    alone s = omega (arith, ints)

-- the laws of whatever is the areas
pub near_of : (N : ℕ) (a b x y : ℤ) (w : ℕ) (counts : Bool) (r : Areas) → 0 < N → Rounds N a x → Rounds N b y → r ≡ areas a b w counts → Near (w + slack a b) N x y w counts r
near_of N a b x y w counts r some ra rb is = subst (λ (z : Areas). Near (w + slack a b) N x y w counts z) (sym is) (near N a b x y w counts some ra rb)

pub whole_of : (a b : ℤ) (w : ℕ) (counts : Bool) (r : Areas) → r ≡ areas a b w counts → Whole a b w r
whole_of a b w counts r is = subst (λ (z : Areas). Whole a b w z) (sym is) (whole a b w counts)
