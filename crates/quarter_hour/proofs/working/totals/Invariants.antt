use Rattle.std.proofs.Common.{◌≡◌, ◌*◌, ◌^◌, ◌≤◌, take, nat_abs}
use Rattle.arith.specs.Sums.{int_sum}
use Rattle.quarter_hour.specs.Working.{upward_of, downward_of}
use Rattle.quarter_hour.proofs.working.totals.Given as goal

-- what has been added up, and room for the rest
abbrev pub invariant-loop-minute : goal.invariant-loop-minute
invariant-loop-minute l =
    (l.upward ≡ int_sum (upward_of l.terms.factor.net_sum.value l.terms.factor.certified_sum l.terms.level.kilowatts) (take l.minute-index l.minutes))
    × (l.downward ≡ int_sum (downward_of l.terms.factor.net_sum.value l.terms.factor.certified_sum l.terms.level.kilowatts) (take l.minute-index l.minutes))
    × (nat_abs l.upward ≤ 2 ^ 49 * l.minute-index)
    × (nat_abs l.downward ≤ 2 ^ 49 * l.minute-index)
