use Rattle.std.proofs.Common.{arith}
use Rattle.std.proofs.lemmas.Grind.{common_steps}
use lib.Seq.{take-set-lt}
use Rattle.keyed_log.proofs.log.Log.replace_last.Goals as goal

pub returns-clause-held : goal.returns-clause-held
returns-clause-held g c = grind (arith, common_steps, take-set-lt)
