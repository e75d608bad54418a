-- The nearest whole number is at most one half from the fraction. Assumes nothing.
use Rattle.std.proofs.Common.{◌≡◌, ℕ, ◌*◌, ◌<◌, ℤ, pos, ◌-ℤ◌, ◌*ℤ◌, neg_ℤ, refl, ap, arith}
use borrow.Author.Differences.{neg_is, sum_is_lem}
use Rattle.std.proofs.lemmas.Int.{ints}
use Rattle.arith.specs.Division.{nearest}
use Rattle.arith.proofs.Nearest.{nearest_is}
use Rattle.settlement.specs.Fractions.{Rounds}
use Rattle.settlement.specs.Certifying.{certified, deviation, exact_deviation}

pub nearest_rounds : (r z : ℤ) (N : ℕ) → 0 < N → r ≡ nearest z N → Rounds N r z
nearest_rounds r z N some is = let near = nearest_is z N some in rw is (omega (arith, ints, near))

-- both less a whole number
rounds_less : (N : ℕ) (u x Q : ℤ) → Rounds N u x → Rounds N (u -ℤ Q) (x -ℤ Q *ℤ pos N)
rounds_less N u x Q h = omega (arith, ints, ap (λ z. z * N) (sum_is_lem u (neg_ℤ Q)), ap (λ z. z * N) (neg_is Q).0, ap (λ z. z * N) (neg_is Q).1)

pub deviation_rounds : (r : ℤ) (N : ℕ) (A Q p : ℤ) → 0 < N → r ≡ deviation N A Q p → Rounds N r (exact_deviation N A Q p)
deviation_rounds r N A Q p some is = rw is (rounds_less N (certified N A p) (p *ℤ A) Q (nearest_rounds (certified N A p) (p *ℤ A) N some refl))
