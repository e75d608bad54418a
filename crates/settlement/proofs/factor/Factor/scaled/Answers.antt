use Rattle.std.proofs.Common.{◌*◌, rules}
use Rattle.arith.proofs.Casts.{product_size}
use Rattle.settlement.proofs.factor.Factor.scaled.Goals as goal

pub returns-clause-bound : goal.returns-clause-bound
returns-clause-bound c =
    let f = c.args.self in
    let size = product_size c.args.net.kilowatts f.certified_sum 1050000 (4 * f.net_sum.value) (search rules) (search rules) in
    search rules
