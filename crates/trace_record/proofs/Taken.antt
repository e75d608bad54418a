-- What taking a sample leaves of a trace. Assumes nothing.
use Rattle.std.proofs.Common.{◌≡◌, ℕ, true, List, length, Ok, Err, refl, arith}
use Rattle.std.proofs.lemmas.Grind.{common_steps}
use Rattle.keyed_log.specs.Entries.{last}
use Rattle.keyed_log.specs.Logs.{memory}
use Rattle.keyed_log.specs.Writing.{later}
use Rattle.power.specs.declared.sample.Sample.{Sample}
use Rattle.power.specs.Taking.{Answer}
use Rattle.power.specs.Course.{Keeps}
use Rattle.trace_record.specs.declared.trace.TraceRecord.{TraceRecord}
use Rattle.trace_record.specs.Trace.{instant}
use Rattle.trace_record.specs.Taking.{taking}
use Rattle.trace_record.specs.Records.{samples, meaning, Takes}
use Rattle.trace_record.specs.Laws.{trace_stays}

-- an accepted sample is later than the last
taking-later : (ss : List Sample) (room : ℕ) (s : Sample) → Ok tt ≡ taking ss room s → later instant (last ss) s ≡ true
taking-later ss room s e = grind (arith, common_steps)

-- a refusal changes no meaning, an acceptance no covered period
pub taken : (r : TraceRecord) (s : Sample) (a : Answer) (r' : TraceRecord) → Takes r s a r' → Keeps a (meaning r) (meaning r')
taken r s (Ok u) r' t = λ period. rw (t.critical, t.kept) (trace_stays r.critical (samples r) s period r.log.rising (taking-later (samples r) (length (memory r.log)) s t.answer))
taken r s (Err x) r' t = λ period. rw (t.critical, t.kept) refl
