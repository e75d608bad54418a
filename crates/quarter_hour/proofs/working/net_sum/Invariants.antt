use Rattle.std.proofs.Common.{◌≡◌, ◌*◌, ◌^◌, ◌≤◌, take, nat_abs}
use Rattle.arith.specs.Sums.{int_sum}
use Rattle.quarter_hour.specs.Working.{energy}
use Rattle.quarter_hour.proofs.working.net_sum.Given as goal

-- what has been added up, and room for the rest
abbrev pub invariant-loop-minute : goal.invariant-loop-minute
invariant-loop-minute l = (l.sum ≡ int_sum energy (take l.minute-index l.minutes)) × (nat_abs l.sum ≤ 2 ^ 49 * l.minute-index)
