-- What recorded minutes mean for a period. Assumes nothing.
use Rattle.std.specs.Prelude.{◌≡◌, ℕ, zero, suc, ◌+◌, ◌-◌, ◌*◌, ◌<◌, ◌≤◌, Bool, true, false, cond, ◌&&◌, List, [], ◌∷◌, length, ℤ, pos, ◌+ℤ◌, ◌-ℤ◌, ◌*ℤ◌, Some, None, Option, int_le, nat_le, slice_index_or, unsigned_abs}
use Rattle.arith.specs.Division.{floor, nearest}
use Rattle.arith.specs.Interpolation.{interpolation}
use Rattle.arith.specs.Ranges.{in_range, int_eq}
use Rattle.keyed_log.specs.Entries.{first, last, through, onward}
use Rattle.power.specs.Day.{periods, is_period, is_instant}
use Rattle.power.specs.Course.{GrossPiece, Course}
use Rattle.minute_record.specs.declared.minute.Minute.{Minute}

-- s
abbrev pub minute_seconds : ℕ
minute_seconds = 60

abbrev pub period_minutes : ℕ
period_minutes = 15

-- a recorded minute's key: minutes from the day's instant 0
abbrev pub number : Minute → ℤ
number e = e.minute

-- the minute of an instant
abbrev pub minute_of : ℤ → ℤ
minute_of instant = floor instant minute_seconds

-- a recorded minute's power: the nearest mean of its samples, kW
abbrev pub mean : Minute → ℤ
mean e = nearest e.sum e.count

-- a minute's piece is flat
abbrev pub flat : Bool → ℤ → GrossPiece
flat counts power = record { start = power; end = power; width = minute_seconds; counts = counts }

abbrev pub flat_if : Bool → Option ℤ → Option GrossPiece
flat_if counts None = None
flat_if counts (Some power) = Some (flat counts power)

-- the piece of minute m, where x is the last recorded minute at or before it and y the first at or after it:
-- its own where it is recorded, else between the two by minute number, with its flag set when both of theirs are
abbrev pub minute_piece : ℤ → Minute → Minute → Option GrossPiece
minute_piece m x y = cond (int_eq x.minute m) (Some (flat x.flag (mean x))) (flat_if (x.flag && y.flag) (interpolation (mean x) (mean y) (m -ℤ x.minute) (y.minute -ℤ x.minute)))

abbrev pub piece_if : ℤ → Option Minute → Option Minute → Option GrossPiece
piece_if m None y = None
piece_if m (Some x) None = None
piece_if m (Some x) (Some y) = minute_piece m x y

-- the piece of minute m, where minutes are recorded on both sides of it or it is recorded itself
abbrev pub piece_of : List Minute → ℤ → Option GrossPiece
piece_of ms m = piece_if m (last (through number m ms)) (first (onward number m ms))

abbrev pub cons_if : Option GrossPiece → Course → Course
cons_if None ps = None
cons_if (Some p) None = None
cons_if (Some p) (Some ps) = Some (p ∷ ps)

-- the pieces of n minutes, from minute m on
abbrev pub pieces_of : List Minute → ℤ → ℕ → Course
pieces_of ms m zero = Some []
pieces_of ms m (suc n) = cons_if (piece_of ms m) (pieces_of ms (m +ℤ pos 1) n)

abbrev pub first_minute : ℤ → ℤ
first_minute t = pos period_minutes *ℤ t

-- the first minute after a period's last
abbrev pub next_minute : ℤ → ℤ
next_minute t = pos period_minutes *ℤ t +ℤ pos period_minutes

-- a recorded minute lies at or before the period's first, and two lie after its last
abbrev pub minutes_cover : List Minute → ℤ → Bool
minutes_cover ms t = is_period periods t && (nat_le 1 (length (through number (first_minute t) ms)) && nat_le 2 (length (onward number (next_minute t) ms)))

abbrev pub minute_course : List Minute → ℤ → Course
minute_course ms t = cond (minutes_cover ms t) (pieces_of ms (first_minute t) period_minutes) None

-- a minute of the day
abbrev pub is_minute : ℤ → Bool
is_minute m = in_range (pos 0) (pos (period_minutes * (periods + 2) - 1)) m

-- a recorded minute is one of the day, has samples, and their sum is one of powers up to 1,000,000 kW either way
abbrev pub is_sampled : Minute → Bool
is_sampled e = is_minute e.minute && (nat_le 1 e.count && nat_le (unsigned_abs e.sum) (1000000 * e.count))

abbrev pub Sampled : List Minute → Type 0
Sampled ms = (i : ℕ) (d : Minute) → i < length ms → is_sampled (slice_index_or ms i d) ≡ true

-- so few samples that one more is no overflow: a minute has no more of them than seconds
abbrev pub Growing : Minute → Type 0
Growing e = (unsigned_abs e.sum ≤ 1000000 * minute_seconds) × (e.count ≤ minute_seconds)

-- the last instant taken lies in the last recorded minute, which has no more samples than seconds up to that instant
abbrev pub is_recent : Option ℤ → Option Minute → Bool
is_recent None None = true
is_recent None (Some e) = false
is_recent (Some n) None = false
is_recent (Some n) (Some e) = is_instant periods n && (int_eq (minute_of n) e.minute && int_le (pos minute_seconds *ℤ e.minute +ℤ pos e.count) (n +ℤ pos 1))
