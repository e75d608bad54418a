-- Entries of the points of a period, and of the pieces between them. Assumes nothing.
use Rattle.std.proofs.Common.{◌≡◌, ℕ, zero, suc, ◌+◌, ◌≤◌, List, [], ◌∷◌, Some, None, Option, sym, refl, ap, ◌∙◌, arith}
use Rattle.std.specs.List.{slice_get}
use Rattle.std.proofs.lemmas.Option.{slice_get_past}
use Rattle.power.specs.declared.sample.Sample.{Sample}
use Rattle.power.specs.Course.{GrossPiece, Course, LawfulIf, listed}
use Rattle.trace_record.specs.Trace.{piece, pieces_from, pieces_if}

-- ---- the piece at a place is that between two points
unfoldable pub pair_if : ℕ → Option Sample → Option Sample → Option GrossPiece
pair_if critical None q = None
pair_if critical (Some p) None = None
pair_if critical (Some p) (Some q) = Some (piece critical p q)

nth-pieces : (critical : ℕ) (p : Sample) (qs : List Sample) (i : ℕ) → slice_get (pieces_from critical p qs) i ≡ pair_if critical (slice_get (p ∷ qs) i) (slice_get qs i)
unfolding pair_if
nth-pieces critical p [] zero = refl
nth-pieces critical p [] (suc i) = refl
nth-pieces critical p (q ∷ qs) zero = refl
nth-pieces critical p (q ∷ qs) (suc i) = nth-pieces critical q qs i

pub entry_pieces : (critical : ℕ) (o : Option (List Sample)) (i : ℕ) → slice_get (listed (pieces_if critical o)) i ≡ pair_if critical (slice_get (listed o) i) (slice_get (listed o) (i + 1))
unfolding pair_if
entry_pieces critical None i = refl
entry_pieces critical (Some []) i = refl
entry_pieces critical (Some (p ∷ qs)) i = let e : suc i ≡ i + 1 = omega arith in nth-pieces critical p qs i ∙ ap (λ k. pair_if critical (slice_get (p ∷ qs) i) (slice_get (p ∷ qs) k)) e

pub piece_both : (critical : ℕ) (o : Option (List Sample)) (i : ℕ) (p q : Sample) → Some p ≡ slice_get (listed o) i → Some q ≡ slice_get (listed o) (i + 1) → Some (piece critical p q) ≡ slice_get (listed (pieces_if critical o)) i
unfolding pair_if
piece_both critical o i p q e f = sym (entry_pieces critical o i ∙ rw (sym e, sym f) refl)

-- past 900 there is none
pub entry_past : (o : Course) (i : ℕ) → LawfulIf 900 o → 900 ≤ i → None ≡ slice_get (listed o) i
entry_past None i l h = refl
entry_past (Some ps) i l h = sym (slice_get_past ps i (omega (arith, l.few)))
