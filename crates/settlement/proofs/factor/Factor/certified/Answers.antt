use Rattle.std.proofs.Common.{◌*ℤ◌, rules}
use Rattle.settlement.proofs.Rounding.{nearest_rounds}
use Rattle.settlement.proofs.factor.Factor.certified.Goals as goal

pub returns-clause-near : goal.returns-clause-near
returns-clause-near c =
    let f = c.args.self in
    nearest_rounds _ (c.args.net.kilowatts *ℤ f.certified_sum) f.net_sum.value f.net_sum.positive (search rules)
