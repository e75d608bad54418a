use Rattle.arith.proofs.Casts.{rise_code}
use Rattle.arith.proofs.interpolation.rise.Goals as goal

pub overflow_mul-result : goal.overflow_mul-result
overflow_mul-result c = (rise_code c.args.start c.args.end c.args.step c.ranges.start c.ranges.end c.ranges.step).0

pub returns : goal.returns
returns c = record { value = (rise_code c.args.start c.args.end c.args.step c.ranges.start c.ranges.end c.ranges.step).1 }
