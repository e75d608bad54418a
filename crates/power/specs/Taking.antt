-- What taking a sample answers. Assumes nothing.
use Rattle.std.specs.Prelude.{◌≡◌, ℕ, ◌<◌, Bool, true, cond, ◌&&◌, List, length, Ok, Err, Result, slice_index_or}
use Rattle.keyed_log.specs.declared.refusal.Refusal.{Refusal as LogRefusal}
use Rattle.keyed_log.specs.declared.refusal.Refusal.TheVariants.{NotRising, Full as LogFull}
use Rattle.power.specs.declared.refusal.Refusal.{Refusal}
use Rattle.power.specs.declared.refusal.Refusal.TheVariants.{NoSuchInstant, PowerOutOfBounds, NotLater, Full}
use Rattle.power.specs.declared.sample.Sample.{Sample}
use Rattle.power.specs.Day.{periods, is_instant, gross_bounds}

abbrev pub number_of : Refusal → ℕ
number_of NoSuchInstant = 1
number_of PowerOutOfBounds = 2
number_of NotLater = 3
number_of Full = 4

abbrev pub Answer : Type 0
Answer = Result (Unit {0}) Refusal

-- the log's refusal, under the same number
abbrev pub from_log : LogRefusal → Refusal
from_log NotRising = NotLater
from_log LogFull = Full

abbrev pub of_log : Result (Unit {0}) LogRefusal → Answer
of_log (Ok x) = Ok x
of_log (Err l) = Err (from_log l)

-- the sample by itself: its instant, then its power
abbrev pub judging : Sample → Answer
judging s = cond (is_instant periods s.instant) (cond (gross_bounds s.power) (Ok tt) (Err PowerOutOfBounds)) (Err NoSuchInstant)

-- the first answer where it refuses, else the second
abbrev pub and_then : Answer → Answer → Answer
and_then (Ok _) next = next
and_then (Err e) next = Err e

-- a sample's numbers are within bounds
abbrev pub is_bounded : Sample → Bool
is_bounded s = is_instant periods s.instant && gross_bounds s.power

abbrev pub Bounded : List Sample → Type 0
Bounded ss = (i : ℕ) (d : Sample) → i < length ss → is_bounded (slice_index_or ss i d) ≡ true
