use Rattle.std.proofs.Common.{◌*◌, ◌^◌, length}
use Rattle.course.specs.Gross.{Sums, AtMost}
use Rattle.course.proofs.gross.period_areas.Given as goal

-- the sums over the pieces so far, each at most 2^49 halves
abbrev pub invariant-loop-piece : goal.invariant-loop-piece
invariant-loop-piece g l = Sums l.level.kilowatts l.yielded l.sum × AtMost (2 ^ 49 * length l.yielded) l.sum
