-- A quarter of an hour, put together statement by statement. Assumes nothing.
use Rattle.std.specs.Prelude.{◌≡◌, ◌+◌, cond, map, replicate, pos, is_some, Some, None, Ok, Err, Option, Result, nat_le, nat_lt, slice_set}
use Rattle.settlement.specs.declared.metered.Metered.{Metered}
use Rattle.settlement.specs.declared.powers.Level.{Level}
use Rattle.quarter_hour.specs.declared.draft.Draft.{Draft}
use Rattle.quarter_hour.specs.declared.draft.QuarterHour.{QuarterHour}
use Rattle.quarter_hour.specs.declared.draft.Statement.{Statement}
use Rattle.quarter_hour.specs.declared.draft.Statement.TheVariants.{Meter, Instructed, Minute}
use Rattle.quarter_hour.specs.declared.draft.Incomplete.{Incomplete}
use Rattle.quarter_hour.specs.declared.draft.Incomplete.TheVariants.{MeterTwice, InstructedTwice, SixteenthMinute, NoMeter, NoInstructed, FewMinutes}

-- no meter, no instructed energy, and zeros in the places of the minutes
pub record NothingSaid (d : Draft) : Type 0 where
  pub no_meter : d.metered ≡ None
  pub no_level : d.level ≡ None
  pub no_net : map (λ m. m.net.kilowatts) d.minutes ≡ replicate 15 (pos 0)
  pub no_upward : map (λ m. m.upward) d.minutes ≡ replicate 15 0
  pub no_downward : map (λ m. m.downward) d.minutes ≡ replicate 15 0
  pub none : d.count ≡ 0

-- the draft with one statement more: a meter and an instructed energy once, fifteen minutes in their places
abbrev pub taking : Draft → Statement → Result Draft Incomplete
taking d (Meter m) = cond (is_some d.metered) (Err MeterTwice) (Ok (record { metered = Some m; level = d.level; minutes = d.minutes; count = d.count }))
taking d (Instructed q) = cond (is_some d.level) (Err InstructedTwice) (Ok (record { metered = d.metered; level = Some q; minutes = d.minutes; count = d.count }))
taking d (Minute x) = cond (nat_le 15 d.count) (Err SixteenthMinute) (Ok (record { metered = d.metered; level = d.level; minutes = slice_set d.minutes d.count x; count = d.count + 1 }))

abbrev pub answered : Result Draft Incomplete → Result (Unit {0}) Incomplete
answered (Ok d) = Ok tt
answered (Err e) = Err e

-- a refused statement leaves the draft as it was
abbrev pub drafted : Draft → Result Draft Incomplete → Draft
drafted before (Ok d) = d
drafted before (Err e) = before

abbrev whole : Option Metered → Option Level → Draft → Result QuarterHour Incomplete
whole None q d = Err NoMeter
whole (Some m) None d = Err NoInstructed
whole (Some m) (Some q) d = cond (nat_lt d.count 15) (Err FewMinutes) (Ok (record { metered = m; level = q; minutes = d.minutes }))

-- the first thing that is wanting, or the whole
abbrev pub finishing : Draft → Result QuarterHour Incomplete
finishing d = whole d.metered d.level d
