use Rattle.std.proofs.Common.{sym, w64, to_z, of_z}
use Rattle.trace_record.specs.Laws.{found_before, found_after}
use Rattle.trace_record.specs.Records.{samples}
use Rattle.trace_record.proofs.trace.TraceRecord.point_at.Goals as goal

pub invariant_of-point_at : goal.invariant_of-point_at
invariant_of-point_at c =
    let r = c.args.self.now in
    let b = to_z w64 (of_z w64 c.args.instant) in
    record {
      starts = (found_before (samples r) r.bounded b c.in_ok-from.from (sym c.in_ok-from.ensures)).0;
      ends = (found_after (samples r) r.bounded b c.in_ok-to.to (sym c.in_ok-to.ensures)).0;
    }

pub point_at-requires : goal.point_at-requires
point_at-requires c =
    let r = c.args.self.now in
    let b = to_z w64 (of_z w64 c.args.instant) in
    record {
      after = (found_before (samples r) r.bounded b c.in_ok-from.from (sym c.in_ok-from.ensures)).1;
      before = (found_after (samples r) r.bounded b c.in_ok-to.to (sym c.in_ok-to.ensures)).1;
    }
