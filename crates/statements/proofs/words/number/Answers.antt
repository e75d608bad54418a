use Rattle.std.proofs.Common.{inr, rules}
use Rattle.statements.proofs.Steps.{BeginsWithWord-from_step}
use Rattle.statements.proofs.words.number.Goals as goal

pub returns : goal.returns
returns c = inr (c.in_ok-word.word.now, search (rules, BeginsWithWord-from_step), search rules)
