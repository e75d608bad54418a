use Rattle.trace_record.proofs.Taken.{taken}
use Rattle.trace_record.proofs.trace.TraceRecord.take_sample.Goals as goal

pub returns-clause-keeps : goal.returns-clause-keeps
returns-clause-keeps c = taken c.args.self.now c.args.sample c.enter.result c.enter.new.self c.enter.ensures
