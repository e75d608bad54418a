-- What a trace of samples means for a period. Assumes nothing.
use Rattle.std.specs.Prelude.{ℕ, Bool, cond, ◌&&◌, ◌||◌, List, [], ◌∷◌, ◌++◌, ℤ, ◌-ℤ◌, is_some, Some, None, Option, nat_le, unsigned_abs}
use Rattle.arith.specs.Interpolation.{interpolated}
use Rattle.arith.specs.Ranges.{int_eq}
use Rattle.keyed_log.specs.Entries.{first, last, through, onward, between}
use Rattle.power.specs.declared.sample.Sample.{Sample}
use Rattle.power.specs.Day.{periods, is_period, start_of, end_of}
use Rattle.power.specs.Course.{GrossPiece, Course}

abbrev pub instant : Sample → ℤ
instant s = s.instant

-- the seconds from one instant to a later one
abbrev pub seconds : ℤ → ℤ → ℕ
seconds a b = unsigned_abs (b -ℤ a)

-- the point at the instant b, from the last sample at or before it and the first at or after it:
-- a sample that lies there, else between the two, with the larger flag
abbrev pub boundary : ℤ → Sample → Sample → Sample
boundary b x y = cond (int_eq x.instant b) x record { instant = b; power = interpolated x.power y.power (seconds x.instant b) (seconds x.instant y.instant); flag = x.flag || y.flag }

abbrev pub boundary_if : ℤ → Option Sample → Option Sample → Option Sample
boundary_if b None y = None
boundary_if b (Some x) None = None
boundary_if b (Some x) (Some y) = Some (boundary b x y)

abbrev pub point_at : List Sample → ℤ → Option Sample
point_at ss b = boundary_if b (last (through instant b ss)) (first (onward instant b ss))

abbrev pub joined_if : Option Sample → List Sample → Option Sample → Option (List Sample)
joined_if None inside q = None
joined_if (Some p) inside None = None
joined_if (Some p) inside (Some q) = Some (p ∷ (inside ++ q ∷ []))

-- the points from a to b: at a, every sample strictly between, and at b
abbrev pub points_between : List Sample → ℤ → ℤ → Option (List Sample)
points_between ss a b = joined_if (point_at ss a) (between instant a b ss) (point_at ss b)

abbrev pub points : List Sample → ℤ → Option (List Sample)
points ss t = cond (is_period periods t) (points_between ss (start_of t) (end_of t)) None

-- the piece between two points; it counts when both flags are set and it is no longer than the critical time
abbrev pub piece : ℕ → Sample → Sample → GrossPiece
piece critical p q = record { start = p.power; end = q.power; width = seconds p.instant q.instant; counts = p.flag && q.flag && nat_le (seconds p.instant q.instant) critical }

-- the pieces between neighbours
abbrev pub pieces_from : ℕ → Sample → List Sample → List GrossPiece
pieces_from critical p [] = []
pieces_from critical p (q ∷ qs) = piece critical p q ∷ pieces_from critical q qs

abbrev pub pieces : ℕ → List Sample → List GrossPiece
pieces critical [] = []
pieces critical (p ∷ ps) = pieces_from critical p ps

abbrev pub pieces_if : ℕ → Option (List Sample) → Course
pieces_if critical None = None
pieces_if critical (Some ps) = Some (pieces critical ps)

abbrev pub trace_course : ℕ → List Sample → ℤ → Course
trace_course critical ss t = pieces_if critical (points ss t)

-- a sample lies at or before the period's start, and one at or after its end
abbrev pub trace_covers : List Sample → ℤ → Bool
trace_covers ss t = is_period periods t && (is_some (last (through instant (start_of t) ss)) && is_some (first (onward instant (end_of t) ss)))
