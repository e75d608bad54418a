use Rattle.std.proofs.Common.{◌≡◌, length, arith, rules}
use Rattle.quarter_hour.specs.Working.{upward_of, downward_of}
use Rattle.quarter_hour.proofs.Adding.{turn}
use Rattle.quarter_hour.proofs.working.totals.Goals as goal

pub loop-minute-preserved : goal.loop-minute-preserved
loop-minute-preserved c =
    let f = c.args.terms.factor in let Q = c.args.terms.level.kilowatts in
    let fifteen : length c.args.minutes.now ≡ 15 = search rules in
    let r = c.areas-areas.result in
    let small = c.areas-areas.ensures.small in
    let up = turn (upward_of f.net_sum.value f.certified_sum Q) c.args.minutes.now c.loop-minute.minute-index c.minute-item.result _ r.upward
    (omega arith) c.loop-minute-test.true c.minute-item.is c.loop-minute.invariant.0 c.loop-minute.invariant.2 (search rules) small.upward_size in
    let down = turn (downward_of f.net_sum.value f.certified_sum Q) c.args.minutes.now c.loop-minute.minute-index c.minute-item.result _ r.downward
    (omega arith) c.loop-minute-test.true c.minute-item.is c.loop-minute.invariant.1 c.loop-minute.invariant.3 (search rules) small.downward_size in
    (up.0, down.0, up.1, down.1)
