use Rattle.std.proofs.Common.{rules}
use Rattle.settlement.proofs.Areas.{near_of, whole_of}
use Rattle.settlement.proofs.piece.areas.Goals as goal

pub returns-clause-whole : goal.returns-clause-whole
returns-clause-whole c =
    let p = c.args.piece in
    whole_of p.start p.end p.width p.counts _ (search rules)

pub returns-clause-near : goal.returns-clause-near
returns-clause-near c N x y some ra rb =
    let p = c.args.piece in
    near_of N p.start p.end x y p.width p.counts _ some ra rb (search rules)
