use Rattle.std.proofs.Common.{◌-ℤ◌, nat_abs, rules}
use Rattle.settlement.proofs.Parts.{shared}
use Rattle.settlement.proofs.instruction.Instruction.split.Goals as goal

pub returns-clause-value : goal.returns-clause-value
returns-clause-value c =
    let x = c.args.self in
    let parts = shared (x.instructed -ℤ x.market_schedule) (nat_abs x.direct_weight) (nat_abs x.scheduled_weight) in
    search rules
