-- The trace record as a power record: its meaning, its rule of taking, its laws. Assumes nothing.
use Rattle.std.specs.Prelude.{◌≡◌, List, length, ℤ}
use Rattle.std.proofs.Common.{arith}
use Rattle.keyed_log.specs.Logs.{held, memory}
use Rattle.keyed_log.specs.Writing.{appended, append_slots}
use Rattle.power.specs.declared.sample.Sample.{Sample}
use Rattle.power.specs.Taking.{Answer}
use Rattle.power.specs.Course.{Course, RecordLaws}
use Rattle.trace_record.specs.declared.trace.TraceRecord.{TraceRecord}
use Rattle.trace_record.specs.Trace.{trace_course}
use Rattle.trace_record.specs.Taking.{taking}
use Rattle.trace_record.specs.Laws.{trace_lawful, trace_outside}

abbrev pub samples : TraceRecord → List Sample
samples r = held r.log

abbrev pub meaning : TraceRecord → ℤ → Course
meaning r t = trace_course r.critical (samples r) t

-- taking s from the record r answers a and leaves the record r'
pub record Takes (r : TraceRecord) (s : Sample) (a : Answer) (r' : TraceRecord) : Type 0 where
  pub answer : a ≡ taking (samples r) (length (memory r.log)) s
  pub kept : samples r' ≡ appended a (samples r) s
  pub slots : memory r'.log ≡ append_slots a (memory r.log) (length (samples r)) s
  pub critical : r'.critical ≡ r.critical

pub trace_laws : RecordLaws {R = TraceRecord} meaning 900
trace_laws = record {
  bounded = omega arith;
  lawful = λ r t. trace_lawful r.critical (samples r) t r.log.rising r.bounded;
  outside = λ r t. trace_outside r.critical (samples r) t;
}
