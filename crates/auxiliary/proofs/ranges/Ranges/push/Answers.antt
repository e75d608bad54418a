use Rattle.std.proofs.Common.{◌≡◌, true, List, [], ◌∷◌, ◌++◌, arith}
use Rattle.std.proofs.lemmas.List.{get_or_append_left, get_or_push, length_push}
use Rattle.std.proofs.lemmas.List.Folds.{list_all-append}
use Rattle.std.proofs.lemmas.Option.{slice_get-get_or}
use Rattle.arith.proofs.Orders.{int_lt-true}
use Rattle.auxiliary.specs.Ranges.{gross_bound, within_bounds, all_within_bounds, last_of, Rising, above}
use Rattle.auxiliary.specs.declared.range.Range.{Range}
use Rattle.auxiliary.proofs.ranges.Ranges.push.Goals as goal

bounded_push : (rs : List Range) (r : Range) → all_within_bounds rs ≡ true → within_bounds r ≡ true → all_within_bounds (rs ++ r ∷ []) ≡ true
bounded_push rs r bounded bounds = rw (list_all-append within_bounds rs (r ∷ []), bounded, bounds)

rising_push : (rs : List Range) (r : Range) → Rising rs → above (last_of rs) (gross_bound r) ≡ true → Rising (rs ++ r ∷ [])
rising_push rs r rising higher i d within =
    grind (arith, get_or_append_left, get_or_push, length_push, slice_get-get_or, int_lt-true, rising i d)

pub invariant_of-self-clause-bounded : goal.invariant_of-self-clause-bounded
invariant_of-self-clause-bounded c =
    rw c.push.ensures.items (bounded_push c.args.self.now.listed.items c.args.range c.args.self.now.bounded c.requires.bounds)

pub invariant_of-self-clause-rising : goal.invariant_of-self-clause-rising
invariant_of-self-clause-rising c =
    rw c.push.ensures.items (rising_push c.args.self.now.listed.items c.args.range c.args.self.now.rising c.requires.higher)
