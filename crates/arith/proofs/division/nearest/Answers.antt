use Rattle.std.proofs.Common.{rules}
use Rattle.arith.proofs.Nearest.{nearest_up, nearest_down}
use Rattle.arith.proofs.division.nearest.Goals as goal

pub returns-then-half_or_more : goal.returns-then-half_or_more
returns-then-half_or_more c =
    let up = nearest_up c.args.a c.divide-floor.result.0 c.args.by.value c.divide-floor.result.1 in
    search rules

pub returns-else-half_or_more : goal.returns-else-half_or_more
returns-else-half_or_more c =
    let down = nearest_down c.args.a c.divide-floor.result.0 c.args.by.value c.divide-floor.result.1 in
    search rules
