use Rattle.std.proofs.Common.{refl, rules}
use Rattle.settlement.specs.Terms.{deviation_by, exact_deviation_by}
use Rattle.settlement.proofs.Areas.{near_of}
use Rattle.settlement.proofs.Rounding.{deviation_rounds}
use Rattle.settlement.proofs.terms.Terms.areas.Goals as goal

pub returns-clause-near : goal.returns-clause-near
returns-clause-near c =
    let t = c.args.self in let f = t.factor in let N = f.net_sum in
    let p = c.args.piece.start.kilowatts in let q = c.args.piece.end.kilowatts in
    let from = deviation_rounds (deviation_by t p) N.value f.certified_sum t.level.kilowatts p N.positive refl in
    let to = deviation_rounds (deviation_by t q) N.value f.certified_sum t.level.kilowatts q N.positive refl in
    near_of N.value _ _ (exact_deviation_by t p) (exact_deviation_by t q) c.args.piece.width c.args.piece.counts _ N.positive from to (search rules)
