use Rattle.std.proofs.Common.{◌≡◌, sym, ◌∙◌, rules}
use Rattle.trace_record.specs.Trace.{trace_covers}
use Rattle.trace_record.specs.Records.{samples}
use Rattle.trace_record.proofs.Covering.{course_covered}
use Rattle.trace_record.proofs.trace.TraceRecord.is_covered.Goals as goal

pub returns-clause-meaning : goal.returns-clause-meaning
returns-clause-meaning c =
    let r = c.args.self.now in
    let rule : c.lies_around.result ≡ trace_covers (samples r) c.args.period = search rules in
    rule ∙ sym (course_covered r.critical (samples r) c.args.period)
