-- Certified power and its deviation from the level: N is the net sum, A the certified sum, Q the level, p a net power. Assumes nothing.
use Rattle.std.specs.Prelude.{◌≡◌, ℕ, cond, ℤ, pos, ◌-ℤ◌, ◌*ℤ◌, Some, None, Ok, Err, Option, Result, int_le, int_lt}
use Rattle.arith.specs.Division.{nearest}
use Rattle.settlement.specs.declared.refusal.Refusal.{Refusal}
use Rattle.settlement.specs.declared.refusal.Refusal.TheVariants.{NoNetEnergy, FactorAboveFour}
use Rattle.settlement.specs.declared.factor.Factor.{Factor}

-- the certified meter in halves: 7,200 halves are 1 kWh
abbrev pub certified_sum_at : ℤ → ℤ
certified_sum_at mq = pos 7200 *ℤ mq

-- the first condition that refuses to certify a period
abbrev pub uncertified : (N A : ℤ) → Option Refusal
uncertified N A = cond (int_le N (pos 0)) (Some NoNetEnergy) (cond (int_lt (pos 4 *ℤ N) A) (Some FactorAboveFour) None)

-- the factor's N and A
abbrev pub net_sum_of : Factor → ℕ
net_sum_of f = f.net_sum.value

abbrev pub certified_sum_of : Factor → ℤ
certified_sum_of f = f.certified_sum

-- the factor A/N where neither condition refuses it
abbrev pub FactorOf : (N mq : ℤ) → Result Factor Refusal → Type 0
FactorOf N mq (Ok f) = (uncertified N (certified_sum_at mq) ≡ None) × (N ≡ pos (net_sum_of f)) × (certified_sum_of f ≡ certified_sum_at mq)
FactorOf N mq (Err e) = uncertified N (certified_sum_at mq) ≡ Some e

-- p × A / N to the nearest kW
abbrev pub certified : (N : ℕ) (A p : ℤ) → ℤ
certified N A p = nearest (p *ℤ A) N

abbrev pub deviation : (N : ℕ) (A Q p : ℤ) → ℤ
deviation N A Q p = certified N A p -ℤ Q

-- p × A / N - Q, unrounded, is this over N
abbrev pub exact_deviation : (N : ℕ) (A Q p : ℤ) → ℤ
exact_deviation N A Q p = p *ℤ A -ℤ Q *ℤ pos N
