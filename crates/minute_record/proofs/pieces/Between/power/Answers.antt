use Rattle.std.proofs.Common.{arith, w32}
use Rattle.std.proofs.lemmas.Int.{ints, to_z-of_z}
use Rattle.minute_record.specs.MinuteLaws.{day_bounds}
use Rattle.minute_record.proofs.Casts.{span_code}
use Rattle.minute_record.proofs.pieces.Between.power.Goals as goal

pub overflow_cast-self-2 : goal.overflow_cast-self-2
overflow_cast-self-2 c =
    let x = day_bounds c.args.self.before c.args.self.before_sampled in
    let y = day_bounds c.args.self.after c.args.self.after_sampled in
    omega (arith, ints)

pub returns : goal.returns
returns c =
    let at = c.args.self in
    let x = day_bounds at.before at.before_sampled in
    let y = day_bounds at.after at.after_sampled in
    let before = to_z-of_z w32 c.mean.result (record { sfits = c.mean.type_inv }) in
    let after = to_z-of_z w32 c.mean-2.result (record { sfits = c.mean-2.type_inv }) in
    let step = span_code at.before.minute at.minute x.0 at.at_or_after (omega (arith, ints)) in
    let span = span_code at.before.minute at.after.minute x.0 (omega (arith, ints)) y.1 in
    cc
