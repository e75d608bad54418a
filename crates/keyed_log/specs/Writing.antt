-- What a log answers to an entry, and what it then holds. Assumes nothing.
use Rattle.std.specs.Prelude.{ℕ, ◌-◌, Bool, true, false, cond, List, [], ◌∷◌, ◌++◌, length, ℤ, Some, None, Ok, Err, Option, Result, int_lt, nat_lt, slice_set}
use Rattle.keyed_log.specs.declared.refusal.Refusal.{Refusal}
use Rattle.keyed_log.specs.declared.refusal.Refusal.TheVariants.{NotRising, Full}
use Rattle.arith.specs.Ranges.{int_eq}
use Rattle.keyed_log.specs.Entries.{last}

abbrev pub number_of : Refusal → ℕ
number_of NotRising = 3
number_of Full = 4

abbrev pub Answer : Type 0
Answer = Result (Unit {0}) Refusal

-- e has a later key than the last entry, if there is one
abbrev pub later : {E : Type 0} → (E → ℤ) → Option E → E → Bool
later key None e = true
later key (Some x) e = int_lt (key x) (key e)

-- there is a last entry, and e has its key
abbrev pub same : {E : Type 0} → (E → ℤ) → Option E → E → Bool
same key None e = false
same key (Some x) e = int_eq (key x) (key e)

-- appending e to es, in memory for `room` entries
abbrev pub appending : {E : Type 0} → (E → ℤ) → List E → ℕ → E → Answer
appending key es room e = cond (later key (last es) e) (cond (nat_lt (length es) room) (Ok tt) (Err Full)) (Err NotRising)

-- replacing the last of es by e
abbrev pub replacing : {E : Type 0} → (E → ℤ) → List E → E → Answer
replacing key es e = cond (same key (last es) e) (Ok tt) (Err NotRising)

-- the entries after the answer, whatever the refusals are
abbrev pub appended : {X E : Type 0} → Result (Unit {0}) X → List E → E → List E
appended (Ok _) es e = es ++ e ∷ []
appended (Err _) es e = es

abbrev pub replaced : {X E : Type 0} → Result (Unit {0}) X → List E → E → List E
replaced (Ok _) es e = slice_set es (length es - 1) e
replaced (Err _) es e = es

-- the borrowed slots after the answer: one slot behind `count` entries is written, or that of the last of them
abbrev pub append_slots : {X E : Type 0} → Result (Unit {0}) X → List E → ℕ → E → List E
append_slots (Ok _) slots count e = slice_set slots count e
append_slots (Err _) slots count e = slots

abbrev pub replace_slots : {X E : Type 0} → Result (Unit {0}) X → List E → ℕ → E → List E
replace_slots (Ok _) slots count e = slice_set slots (count - 1) e
replace_slots (Err _) slots count e = slots
