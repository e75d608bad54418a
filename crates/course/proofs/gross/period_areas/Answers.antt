use Rattle.std.proofs.Common.{length, to_z, of_z, w64}
use Rattle.course.proofs.Adding.{turn_lawful, sums_more, at_most_more, at_most_fits}
use Rattle.course.proofs.gross.period_areas.Goals as goal

pub piece_areas-requires : goal.piece_areas-requires
piece_areas-requires g c =
    let r = c.args.power.now in
    let t = to_z w64 (of_z w64 c.args.period) in
    (turn_lawful g.R.PowerRecord.unequal (g.R.PowerRecord.course r t) (g.R.PowerRecord.laws.lawful r t) (cc) c.loop-piece.yielded _ _ c.in-Some.piece c.loop-piece.yielded_by c.in-Some.ensures.steps).1

pub plus-sum-requires-clause-sum : goal.plus-sum-requires-clause-sum
plus-sum-requires-clause-sum g c =
    let r = c.args.power.now in
    let t = to_z w64 (of_z w64 c.args.period) in
    let turn = turn_lawful g.R.PowerRecord.unequal (g.R.PowerRecord.course r t) (g.R.PowerRecord.laws.lawful r t) (cc) c.loop-piece.yielded _ _ c.in-Some.piece c.loop-piece.yielded_by c.in-Some.ensures.steps in
    at_most_fits (length c.loop-piece.yielded) c.loop-piece.sum turn.0 c.loop-piece.invariant.1

pub loop-piece-preserved : goal.loop-piece-preserved
loop-piece-preserved g c =
    let e = c.plus-sum.ensures in (
      sums_more c.args.level.kilowatts c.loop-piece.yielded c.in-Some.piece c.loop-piece.sum c.piece_areas.result c.plus-sum.result c.loop-piece.invariant.0 c.piece_areas.ensures.value e.upward e.downward e.idle,
      at_most_more c.args.level.kilowatts c.loop-piece.yielded c.in-Some.piece c.loop-piece.sum c.piece_areas.result c.plus-sum.result c.loop-piece.invariant.1 c.piece_areas.ensures.small e.upward e.downward e.idle,
    )
