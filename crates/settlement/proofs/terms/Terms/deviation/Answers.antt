use Rattle.std.proofs.Common.{rules}
use Rattle.settlement.proofs.Rounding.{deviation_rounds}
use Rattle.settlement.proofs.terms.Terms.deviation.Goals as goal

pub returns-clause-near : goal.returns-clause-near
returns-clause-near c =
    let f = c.args.self.factor in
    deviation_rounds _ f.net_sum.value f.certified_sum c.args.self.level.kilowatts c.args.net.kilowatts f.net_sum.positive (search rules)
