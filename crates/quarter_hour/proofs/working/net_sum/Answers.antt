use Rattle.std.proofs.Common.{◌≡◌, length, arith, rules}
use Rattle.quarter_hour.specs.Working.{energy}
use Rattle.quarter_hour.proofs.Adding.{turn}
use Rattle.quarter_hour.proofs.working.net_sum.Goals as goal

pub loop-minute-preserved : goal.loop-minute-preserved
loop-minute-preserved c =
    let fifteen : length c.args.minutes.now ≡ 15 = search rules in
    turn energy c.args.minutes.now c.loop-minute.minute-index c.minute-item.result _ c.net_energy-sum.result
    (omega arith) c.loop-minute-test.true c.minute-item.is c.loop-minute.invariant.0 c.loop-minute.invariant.1
    (search rules) (omega (arith, c.net_energy-sum.ensures.bound))
