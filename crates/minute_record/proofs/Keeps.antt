-- What an accepted sample leaves of the meaning. Assumes nothing.
use Rattle.std.proofs.Common.{◌≡◌, true, List, ℤ, Ok, Option, refl, inl, inr}
use Rattle.keyed_log.specs.Entries.{Rising, last}
use Rattle.power.specs.declared.sample.Sample.{Sample}
use Rattle.power.specs.Course.{Stays}
use Rattle.minute_record.specs.declared.minute.Minute.{Minute}
use Rattle.minute_record.specs.Minutes.{number, is_recent, minute_course}
use Rattle.minute_record.specs.MinuteStays.{minute_stays, minute_swaps}
use Rattle.minute_record.specs.Taking.{is_later, grown, begun, entered}
use Rattle.minute_record.proofs.Entered.{Way, ways}

pub stays_after : (latest : Option ℤ) (ms : List Minute) (s : Sample) → Rising number ms → is_recent latest (last ms) ≡ true → is_later latest s.instant ≡ true → (t : ℤ) → Stays (minute_course ms t) (minute_course (entered (Ok tt) ms s) t)
stays_after latest ms s rising near after t = by (ways latest ms s rising near after)
  where
    by : Way ms s → Stays (minute_course ms t) (minute_course (entered (Ok tt) ms s) t)
    by (inl w) = rw (w.is, w.was) (minute_swaps w.front w.e (grown w.e s) t w.earlier refl)
    by (inr w) = rw w.is (minute_stays ms (begun s) t w.earlier)
