-- A declaration in force keeps the laws of an auxiliary rule. Assumes nothing.
use Rattle.std.specs.Prelude.{◌≡◌, ℕ, zero, suc, ◌-◌, Bool, true, List, [], ◌∷◌, length, ℤ, Some, None, filter, Option, int_le, refl}
use Rattle.std.proofs.Common.{sym, subst}
use Rattle.std.specs.List.{slice_get, position_or_len}
use Rattle.std.specs.Option.{option_or}
use Rattle.std.proofs.lemmas.Bool.{and_parts, and_from, cond_both}
use Rattle.std.proofs.lemmas.List.Folds.{find_at}
use Rattle.auxiliary.specs.Bounds.{net_bounds, auxiliary_bounds}
use Rattle.auxiliary.specs.Rules.{RuleLaws}
use Rattle.auxiliary.specs.Ranges.{gross_bound, within_bounds, all_within_bounds, last_of}
use Rattle.auxiliary.specs.Answering.{in_force, first_reaching, auxiliary_of, declared}
use Rattle.auxiliary.specs.declared.declaration.Declaration.{Declaration}
use Rattle.auxiliary.specs.declared.range.Range.{Range}

-- the auxiliary power of a range, or 0 kW, is in bounds
abbrev In : Option Range → Type 0
In o = auxiliary_bounds (auxiliary_of o) ≡ true

nth_in : (rs : List Range) (i : ℕ) → all_within_bounds rs ≡ true → In (slice_get rs i)
nth_in [] i all = refl
nth_in (r ∷ rs) zero all =
    (and_parts (net_bounds r.net_bound) (auxiliary_bounds r.auxiliary) (and_parts (within_bounds r) (all_within_bounds rs) all).0).1
nth_in (r ∷ rs) (suc i) all = nth_in rs i (and_parts (within_bounds r) (all_within_bounds rs) all).1

kept_within : (p : Range → Bool) (rs : List Range) → all_within_bounds rs ≡ true → all_within_bounds (filter p rs) ≡ true
kept_within p [] all = refl
kept_within p (r ∷ rs) all =
    let parts = and_parts (within_bounds r) (all_within_bounds rs) all in
    let rest = kept_within p rs parts.1 in
    let Held : List Range → Type 0 = λ xs. all_within_bounds xs ≡ true in
    cond_both (p r) (r ∷ filter p rs) (filter p rs) Held (λ _. and_from (within_bounds r) (all_within_bounds (filter p rs)) parts.0 rest) (λ _. rest)

first_in : (rs : List Range) (gross : ℤ) → all_within_bounds rs ≡ true → In (first_reaching rs gross)
first_in rs gross all =
    let reaches : Range → Bool = λ r. int_le gross (gross_bound r) in
    subst In (sym (find_at reaches rs)) (nth_in rs (position_or_len reaches rs) all)

either_in : (first last : Option Range) → In first → In last → In (option_or first last)
either_in None last a b = b
either_in (Some r) last a b = a

declared_in : (rs : List Range) (gross : ℤ) → all_within_bounds rs ≡ true → auxiliary_bounds (declared rs gross) ≡ true
declared_in rs gross all =
    either_in (first_reaching rs gross) (last_of rs) (first_in rs gross all) (nth_in rs (length rs - 1) all)

pub declared_laws : RuleLaws (λ (d : Declaration) gross. declared (in_force d) gross)
declared_laws = record { bounds = λ d gross. declared_in (in_force d) gross d.ranges.bounded }
