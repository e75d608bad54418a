use Rattle.std.proofs.Common.{arith}
use Rattle.std.proofs.lemmas.Int.{ints}
use Rattle.course.proofs.gross.plus.Goals as goal

pub returns : goal.returns
returns c =
    let a = c.requires.sum in
    let b = c.requires.small in
    record {
      upward = omega (arith, ints, a.upward, b.upward_size);
      downward = omega (arith, ints, a.downward, b.downward_size);
      idle = omega (arith, ints, a.idle, b.idle_size);
    }
