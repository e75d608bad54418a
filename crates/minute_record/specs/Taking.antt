-- What taking a sample answers, and what is then recorded. Assumes nothing.
use Rattle.std.specs.Prelude.{ℕ, ◌+◌, ◌-◌, Bool, true, false, cond, ◌&&◌, List, [], ◌∷◌, ◌++◌, length, take, ℤ, ◌+ℤ◌, Some, None, Ok, Err, Option, int_lt, nat_lt, slice_set}
use Rattle.arith.specs.Ranges.{int_eq}
use Rattle.keyed_log.specs.Entries.{last}
use Rattle.power.specs.declared.refusal.Refusal.TheVariants.{NotLater, Full}
use Rattle.power.specs.declared.sample.Sample.{Sample}
use Rattle.power.specs.Taking.{Answer, judging, and_then}
use Rattle.minute_record.specs.declared.minute.Minute.{Minute}
use Rattle.minute_record.specs.Minutes.{minute_of}

-- the instant is later than the last one taken, if there is one
abbrev pub is_later : Option ℤ → ℤ → Bool
is_later None i = true
is_later (Some n) i = int_lt n i

-- there is a last recorded minute, and the instant is of it
abbrev pub grows : Option Minute → ℤ → Bool
grows None i = false
grows (Some e) i = int_eq e.minute (minute_of i)

-- a recorded minute with one sample more
abbrev pub grown : Minute → Sample → Minute
grown e s = record { minute = e.minute; sum = e.sum +ℤ s.power; count = e.count + 1; flag = e.flag && s.flag }

-- the recorded minute of its first sample
abbrev pub begun : Sample → Minute
begun s = record { minute = minute_of s.instant; sum = s.power; count = 1; flag = s.flag }

-- the sample's entry: the last recorded minute with it, where it is of that minute, else a new one
abbrev pub entry_with : Option Minute → Sample → Minute
entry_with None s = begun s
entry_with (Some e) s = cond (grows (Some e) s.instant) (grown e s) (begun s)

-- the place of that entry: the last one, or the next
abbrev pub place_of : List Minute → Sample → ℕ
place_of ms s = cond (grows (last ms) s.instant) (length ms - 1) (length ms)

-- only a new minute needs a further entry, of which there are `room`
abbrev pub entering : List Minute → ℕ → Sample → Answer
entering ms room s = cond (grows (last ms) s.instant) (Ok tt) (cond (nat_lt (length ms) room) (Ok tt) (Err Full))

-- taking s after the instant `latest`, with the minutes ms recorded in memory for `room` of them
abbrev pub taking : Option ℤ → List Minute → ℕ → Sample → Answer
taking latest ms room s = and_then (judging s) (cond (is_later latest s.instant) (entering ms room s) (Err NotLater))

-- the recorded minutes after the answer
abbrev pub entered : Answer → List Minute → Sample → List Minute
entered (Ok _) ms s = take (place_of ms s) ms ++ entry_with (last ms) s ∷ []
entered (Err _) ms s = ms

-- the borrowed slots after the answer: that of the sample's entry is written, or none
abbrev pub written : Answer → List Minute → List Minute → Sample → List Minute
written (Ok _) slots ms s = slice_set slots (place_of ms s) (entry_with (last ms) s)
written (Err _) slots ms s = slots

-- the last instant taken after the answer
abbrev pub latest_after : Answer → Option ℤ → Sample → Option ℤ
latest_after (Ok _) latest s = Some s.instant
latest_after (Err _) latest s = latest
