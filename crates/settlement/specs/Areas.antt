-- The areas of a piece: a straight line from one deviation to another over w seconds. Assumes nothing.
-- They are in halves, so a triangle of height h over w seconds has the area h × w.
use Rattle.std.specs.Prelude.{◌≡◌, ℕ, suc, ◌+◌, ◌*◌, ◌/◌, ◌^◌, ◌≤◌, Bool, cond, ℤ, pos, negsuc, ◌+ℤ◌, ◌-ℤ◌, ◌*ℤ◌, neg_ℤ, ◌≤ℤ◌, int_lt, unsigned_abs}
use Rattle.settlement.specs.declared.area.Areas.{Areas}
use Rattle.settlement.specs.Fractions.{Fraction, ◌over◌, minus, Same, Within}

-- what lies below the level counted as negative
abbrev pub signed : ℤ → ℤ → ℕ → ℤ
signed a b w = (a +ℤ b) *ℤ pos w

-- what lies above the level; where the line crosses it, from g above to s below or back, the triangle on g, rounded down
-- (`negsuc s` is -(s + 1); an end on the level makes no triangle, 0 × 0 × w / s)
abbrev pub upward : ℤ → ℤ → ℕ → ℤ
upward (pos a) (pos b) w = signed (pos a) (pos b) w
upward (pos g) (negsuc s) w = pos (g * g * w / (g + suc s))
upward (negsuc s) (pos g) w = pos (g * g * w / (g + suc s))
upward (negsuc a) (negsuc b) w = pos 0

-- what lies below it
abbrev pub downward : ℤ → ℤ → ℕ → ℤ
downward a b w = upward a b w -ℤ signed a b w

-- a piece that counts has upward and downward areas, one that does not has its signed area as idle
abbrev pub areas : ℤ → ℤ → ℕ → Bool → Areas
areas a b w counts = cond counts (record { upward = upward a b w; downward = downward a b w; idle = pos 0 }) (record { upward = pos 0; downward = pos 0; idle = signed a b w })

-- the ends lie on opposite sides of the level
abbrev pub crosses : ℤ → ℤ → Bool
crosses a b = int_lt (a *ℤ b) (pos 0)

-- the allowance for the floor: 1 where the line crosses the level, else none
abbrev pub slack : ℤ → ℤ → ℕ
slack a b = cond (crosses a b) 1 0

-- ---- exact: the ends are x/N and y/N, and nothing is rounded
abbrev pub exact_upward : ℕ → ℤ → ℤ → ℕ → Fraction
exact_upward N (pos x) (pos y) w = signed (pos x) (pos y) w over N
exact_upward N (pos g) (negsuc s) w = pos (g * g * w) over N * (g + suc s)
exact_upward N (negsuc s) (pos g) w = pos (g * g * w) over N * (g + suc s)
exact_upward N (negsuc x) (negsuc y) w = pos 0 over N

-- what lies below is what lies above of the line turned over
abbrev pub exact_downward : ℕ → ℤ → ℤ → ℕ → Fraction
exact_downward N x y w = exact_upward N (neg_ℤ x) (neg_ℤ y) w

abbrev pub exact_signed : ℕ → ℤ → ℤ → ℕ → Fraction
exact_signed N x y w = signed x y w over N

-- how near the areas r of a piece lie to the exact ones: b halves for upward and downward, w for idle;
-- and the exact upward less the exact downward area is the exact signed area
pub record Near (b N : ℕ) (x y : ℤ) (w : ℕ) (counts : Bool) (r : Areas) : Type 0 where
  pub upward_near : Within b r.upward (cond counts (exact_upward N x y w) (pos 0 over 1))
  pub downward_near : Within b r.downward (cond counts (exact_downward N x y w) (pos 0 over 1))
  pub idle_near : Within w r.idle (cond counts (pos 0 over 1) (exact_signed N x y w))
  pub exact_net : Same (minus (exact_upward N x y w) (exact_downward N x y w)) (exact_signed N x y w)

-- the areas r add up to the signed area, and what lies above and below is never negative
pub record Whole (a b : ℤ) (w : ℕ) (r : Areas) : Type 0 where
  pub sum : r.upward -ℤ r.downward +ℤ r.idle ≡ signed a b w
  pub above : pos 0 ≤ℤ r.upward
  pub below : pos 0 ≤ℤ r.downward

-- areas of at most 2^49 halves in size, so that thousands of them add up in 64 bits
pub record Small (r : Areas) : Type 0 where
  pub upward_size : unsigned_abs r.upward ≤ 2 ^ 49
  pub downward_size : unsigned_abs r.downward ≤ 2 ^ 49
  pub idle_size : unsigned_abs r.idle ≤ 2 ^ 49
