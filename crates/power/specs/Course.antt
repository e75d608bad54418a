-- What a power record may mean for a period, and what taking a sample leaves of it. Assumes nothing.
use Rattle.std.specs.Prelude.{◌≡◌, ℕ, ◌≤◌, Bool, true, false, not, List, [], length, ℤ, Some, None, Ok, Err, sum_by, count_by, Option}
use Rattle.std.specs.List.{AllByRecursion}
use Rattle.arith.specs.Ranges.{int_eq}
use Rattle.power.specs.declared.piece.Piece.{Piece}
use Rattle.power.specs.Day.{periods, is_period, gross_bounds}
use Rattle.power.specs.Taking.{Answer}

-- a piece of gross power
abbrev pub GrossPiece : Type 0
GrossPiece = Piece ℤ

-- the pieces of a covered period; none where it is not covered
abbrev pub Course : Type 0
Course = Option (List GrossPiece)

-- the list, empty where there is none
abbrev pub listed : {X : Type 0} → Option (List X) → List X
listed None = []
listed (Some xs) = xs

-- a piece lasts, and both its ends are within bounds
pub record LawfulPiece (p : GrossPiece) : Type 0 where
  pub lasts : 1 ≤ p.width
  pub from : gross_bounds p.start ≡ true
  pub to : gross_bounds p.end ≡ true

-- the ends differ
abbrev pub sloped : GrossPiece → Bool
sloped p = not (int_eq p.start p.end)

-- 1 to 900 pieces that fill the 900 seconds, at most `most` of them with unequal ends
pub record Lawful (most : ℕ) (ps : List GrossPiece) : Type 0 where
  pub some : 1 ≤ length ps
  pub few : length ps ≤ 900
  pub pieces : AllByRecursion LawfulPiece ps
  pub whole : sum_by (λ p. p.width) ps ≡ 900
  pub slopes : count_by sloped ps ≤ most

abbrev pub LawfulIf : ℕ → Course → Type 0
LawfulIf most None = Unit {0}
LawfulIf most (Some ps) = Lawful most ps

-- what holds of every record of a kind, whatever it has taken
pub record RecordLaws {R : Type 0} (course : R → ℤ → Course) (most : ℕ) : Type 0 where
  pub bounded : most ≤ 900
  pub lawful : (r : R) (t : ℤ) → LawfulIf most (course r t)
  pub outside : (r : R) (t : ℤ) → is_period periods t ≡ false → course r t ≡ None

-- a covered period keeps its pieces
abbrev pub Stays : Course → Course → Type 0
Stays None after = Unit {0}
Stays (Some ps) after = after ≡ Some ps

-- a refusal changes no meaning, an acceptance changes no covered period
abbrev pub Keeps : Answer → (before after : ℤ → Course) → Type 0
Keeps (Ok _) before after = (t : ℤ) → Stays (before t) (after t)
Keeps (Err _) before after = (t : ℤ) → after t ≡ before t
