use Rattle.std.proofs.Common.{Some, ap, ◌∙◌, sym, w64}
use Rattle.std.proofs.lemmas.Int.{to_z-of_z}
use Rattle.trace_record.specs.Trace.{points, trace_course}
use Rattle.trace_record.specs.Laws.{trace_lawful, neighbours}
use Rattle.trace_record.specs.Records.{samples}
use Rattle.trace_record.proofs.Places.{entry_past, piece_both}
use Rattle.trace_record.proofs.trace.TraceRecord.piece_at.Goals as goal

pub returns-then-place-ge-MOST_PIECES : goal.returns-then-place-ge-MOST_PIECES
returns-then-place-ge-MOST_PIECES c =
    let r = c.args.self.now in
    let t = c.args.period in
    entry_past (trace_course r.critical (samples r) t) c.args.place (trace_lawful r.critical (samples r) t r.log.rising r.bounded) c.if-place-ge-MOST_PIECES.true

pub invariant_of-piece : goal.invariant_of-piece
invariant_of-piece c =
    let r = c.args.self.now in
    let t = c.args.period in
    let is = to_z-of_z w64 t c.ranges.period in
    let by = neighbours (samples r) t r.log.rising r.bounded c.args.place c.in_ok-from.from c.in_ok-to.to (sym (rw is at c.in_ok-from.ensures)) (sym (rw is at c.in_ok-to.ensures)) in
    record { starts = by.from; ends = by.to }

pub piece-requires : goal.piece-requires
piece-requires c =
    let r = c.args.self.now in
    let t = c.args.period in
    let is = to_z-of_z w64 t c.ranges.period in
    let by = neighbours (samples r) t r.log.rising r.bounded c.args.place c.in_ok-from.from c.in_ok-to.to (sym (rw is at c.in_ok-from.ensures)) (sym (rw is at c.in_ok-to.ensures)) in
    record { climbs = by.climbs; near = by.near }

pub returns : goal.returns
returns c =
    let r = c.args.self.now in
    let t = c.args.period in
    let is = to_z-of_z w64 t c.ranges.period in
    ap Some c.piece.ensures ∙ piece_both r.critical (points (samples r) t) c.args.place c.in_ok-from.from c.in_ok-to.to (rw is at c.in_ok-from.ensures) (rw is at c.in_ok-to.ensures)
