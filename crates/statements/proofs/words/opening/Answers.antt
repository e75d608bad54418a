use Rattle.std.specs.Str.Iter.{split_whitespace_rest}
use Rattle.std.proofs.Common.{inr, rules}
use Rattle.statements.proofs.Steps.{BeginsWithWord-from_step}
use Rattle.statements.proofs.words.opening.Goals as goal

pub returns-then-starts_with-clause-nothing : goal.returns-then-starts_with-clause-nothing
returns-then-starts_with-clause-nothing c =
    inr (c.in_ok-word.word.now, split_whitespace_rest c.next.new.self, search (rules, BeginsWithWord-from_step), search rules)

pub returns-clause-word : goal.returns-clause-word
returns-clause-word c = search (rules, BeginsWithWord-from_step)
