-- The minute record as a power record: its meaning, its rule of taking, its laws. Assumes nothing.
use Rattle.std.specs.Prelude.{◌≡◌, List, length, ℤ}
use Rattle.std.proofs.Common.{arith}
use Rattle.keyed_log.specs.Logs.{held, memory}
use Rattle.power.specs.declared.sample.Sample.{Sample}
use Rattle.power.specs.Taking.{Answer}
use Rattle.power.specs.Course.{Course, RecordLaws}
use Rattle.minute_record.specs.declared.minute.Minute.{Minute}
use Rattle.minute_record.specs.declared.minute_record.MinuteRecord.{MinuteRecord}
use Rattle.minute_record.specs.Minutes.{minute_course}
use Rattle.minute_record.specs.Taking.{taking, entered, written, latest_after}
use Rattle.minute_record.specs.MinuteLaws.{minute_lawful, minute_outside}

abbrev pub minutes : MinuteRecord → List Minute
minutes r = held r.log

abbrev pub meaning : MinuteRecord → ℤ → Course
meaning r t = minute_course (minutes r) t

-- taking s from the record r answers a and leaves the record r'
pub record Takes (r : MinuteRecord) (s : Sample) (a : Answer) (r' : MinuteRecord) : Type 0 where
  pub answer : a ≡ taking r.latest (minutes r) (length (memory r.log)) s
  pub kept : minutes r' ≡ entered a (minutes r) s
  pub slots : memory r'.log ≡ written a (memory r.log) (minutes r) s
  pub latest : r'.latest ≡ latest_after a r.latest s

pub minute_laws : RecordLaws {R = MinuteRecord} meaning 0
minute_laws = record {
  bounded = omega arith;
  lawful = λ r t. minute_lawful (minutes r) t r.sampled;
  outside = λ r t. minute_outside (minutes r) t;
}
