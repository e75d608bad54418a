-- What an auxiliary rule keeps. Assumes nothing.
use Rattle.std.specs.Prelude.{◌≡◌, true, ℤ, pos, refl}
use Rattle.auxiliary.specs.Bounds.{auxiliary_bounds}

-- drawn u gross: the auxiliary power that the rule u gives at a gross power, in kW
pub record RuleLaws {U : Type 0} (drawn : U → ℤ → ℤ) : Type 0 where
  pub bounds : (u : U) (gross : ℤ) → auxiliary_bounds (drawn u gross) ≡ true

-- 0 kW at each gross power keeps them
pub none_laws : {U : Type 0} → RuleLaws {U = U} (λ _ _. pos 0)
none_laws = record { bounds = λ _ _. refl }
