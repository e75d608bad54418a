-- A step over a text's words, in the words of the contracts.
use Rattle.std.proofs.Common.{List, ℕ, Bor, Some}
use Rattle.std.specs.Str.Iter.{split_whitespace_rest, split_whitespace_steps}
use Rattle.std.specs.declared.str.SplitWhitespace.{SplitWhitespace}
use Rattle.statements.specs.Words.{BeginsWithWord}

pub BeginsWithWord-from_step : (before : SplitWhitespace) (word : Bor (List ℕ)) (after : SplitWhitespace) → split_whitespace_steps before (Some word) after
    → BeginsWithWord (split_whitespace_rest before) word.now (split_whitespace_rest after)
BeginsWithWord-from_step before word after (gap, parts, some, blank, whole, ends) =
    record { gap = gap; parts = parts; blank = blank; some = some; whole = whole; ends = ends }
