use Rattle.std.proofs.Common.{rules}
use Rattle.minute_record.proofs.Places.{covered_means}
use Rattle.minute_record.proofs.minute_record.MinuteRecord.is_covered.Goals as goal

pub returns-then-not-is_empty-clause-meaning : goal.returns-then-not-is_empty-clause-meaning
returns-then-not-is_empty-clause-meaning c = covered_means c.args.self.now c.args.period _ (search rules)

pub returns-else-not-is_empty-clause-meaning : goal.returns-else-not-is_empty-clause-meaning
returns-else-not-is_empty-clause-meaning c = covered_means c.args.self.now c.args.period _ (search rules)
