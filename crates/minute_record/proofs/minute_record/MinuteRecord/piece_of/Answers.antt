use Rattle.std.proofs.Common.{sym, w64, to_z, of_z}
use Rattle.minute_record.specs.MinuteRecords.{minutes}
use Rattle.minute_record.specs.MinuteLaws.{last_through, first_onward}
use Rattle.minute_record.proofs.minute_record.MinuteRecord.piece_of.Goals as goal

pub invariant_of-piece : goal.invariant_of-piece
invariant_of-piece c =
    let r = c.args.self.now in
    let m = to_z w64 (of_z w64 c.args.minute) in
    let before = last_through (minutes r) r.sampled m c.in_ok-before.before (sym c.in_ok-before.ensures) in
    let after = first_onward (minutes r) r.sampled m c.in_ok-after.after (sym c.in_ok-after.ensures) in
    record { before_sampled = before.0; after_sampled = after.0; at_or_after = before.1; at_or_before = after.1 }
