-- A draft's ranges, and what adding one answers and leaves. Assumes nothing.
use Rattle.std.specs.Prelude.{Bool, true, false, List, [], ◌∷◌, ◌++◌, ℤ, Ok, Err, Result}
use Rattle.auxiliary.specs.Bounds.{range_bounds}
use Rattle.auxiliary.specs.Ranges.{gross_bound, range_of, last_of, has_room, above}
use Rattle.auxiliary.specs.declared.draft.Draft.{Draft}
use Rattle.auxiliary.specs.declared.range.Range.{Range}
use Rattle.auxiliary.specs.declared.refusal.Refusal.{Refusal}
use Rattle.auxiliary.specs.declared.refusal.Refusal.TheVariants.{OutOfBounds, TooManyRanges, NotRising}

abbrev pub ranges_of : Draft → List Range
ranges_of d = d.ranges.listed.items

-- refused where the test fails
abbrev unless : Bool → Refusal → Result Range Refusal → Result Range Refusal
unless true e r = r
unless false e r = Err e

-- the range of a net bound and an auxiliary power, in kW, or the first reason why it cannot follow
abbrev pub accepting : List Range → (net power : ℤ) → Result Range Refusal
accepting rs net power =
    unless (range_bounds net power) OutOfBounds
    (unless (has_room rs) TooManyRanges
    (unless (above (last_of rs) (gross_bound (range_of net power))) NotRising
    (Ok (range_of net power))))

abbrev answered : Result Range Refusal → Result (Unit {0}) Refusal
answered (Ok r) = Ok tt
answered (Err e) = Err e

abbrev with_taken : List Range → Result Range Refusal → List Range
with_taken rs (Ok r) = rs ++ r ∷ []
with_taken rs (Err e) = rs

-- what adding a range answers
abbrev pub adding : List Range → (net power : ℤ) → Result (Unit {0}) Refusal
adding rs net power = answered (accepting rs net power)

-- the ranges afterwards: the new one last, or as before where it is refused
abbrev pub added : List Range → (net power : ℤ) → List Range
added rs net power = with_taken rs (accepting rs net power)
