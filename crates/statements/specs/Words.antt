-- What the words of a line are, and which numbers they write. Assumes nothing.
use Rattle.std.specs.Prelude.{◌≡◌, ℕ, ◌<◌, ◌⊎◌, List, ◌++◌, length, ℤ, Err, Result, slice_index, IsOkUnless}
use Rattle.std.specs.Char.{is_whitespace, is_not_whitespace}
use Rattle.std.specs.Int.{w64}
use Rattle.std.specs.Str.{NoCharPasses, EmptyOrStartsWithPassing}
use Rattle.std.specs.Str.Parse.{ParsesSigned}
use Rattle.statements.specs.declared.fault.Malformed.{Malformed}
use Rattle.statements.specs.declared.fault.Malformed.TheVariants.{MissingNumber, NotANumber}

-- no word is left: white space alone, or nothing
abbrev pub IsBlank : List ℕ → Type 0
IsBlank text = NoCharPasses is_not_whitespace text

-- behind white space the text goes on with a word, up to the next white space or to its end, and then with the rest
pub record BeginsWithWord (text word rest : List ℕ) : Type 0 where
  pub gap : List ℕ
  pub parts : text ≡ gap ++ (word ++ rest)
  pub blank : IsBlank gap
  pub some : 0 < length word
  pub whole : NoCharPasses is_whitespace word
  pub ends : (after : List ℕ) × EmptyOrStartsWithPassing is_whitespace rest after

-- a word is left
abbrev pub HasWord : List ℕ → Type 0
HasWord text = (word : List ℕ) × (rest : List ℕ) × BeginsWithWord text word rest

-- a word that begins with #
abbrev pub IsComment : List ℕ → Type 0
IsComment word = slice_index word 0 ≡ 35

-- no word, or a comment
abbrev pub SaysNothing : List ℕ → Type 0
SaysNothing line = IsBlank line ⊎ ((word : List ℕ) × (rest : List ℕ) × BeginsWithWord line word rest × IsComment word)

-- the whole number of 64 bits that the word writes in decimal digits, behind a sign or none
abbrev pub Writes : List ℕ → Result ℤ Malformed → Type 0
Writes word r = ParsesSigned w64 10 word r × IsOkUnless r NotANumber

-- the next word is read as a number, and the rest is left; with no word nothing changes
abbrev pub ReadsNumber : (text : List ℕ) → Result ℤ Malformed → (left : List ℕ) → Type 0
ReadsNumber text r left = (IsBlank text × (r ≡ Err MissingNumber) × (left ≡ text))
    ⊎ ((word : List ℕ) × BeginsWithWord text word left × Writes word r)
