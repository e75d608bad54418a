-- One piece more in the sums of a course. Assumes nothing.
use Rattle.std.proofs.Common.{◌≡◌, ℕ, ◌*◌, ◌^◌, ◌<◌, List, [], ◌∷◌, ◌++◌, length, get_or, ℤ, ◌+ℤ◌, Some, None, refl, sym, ap, ◌∙◌, arith}
use Rattle.std.specs.Iterator.{Yields, YieldsFirst}
use Rattle.std.proofs.lemmas.Option.{slice_get_read}
use Rattle.std.proofs.lemmas.Iterator.Consumers.{YieldsList-from_first, YieldsList-turn}
use Rattle.std.proofs.lemmas.List.{length_push}
use Rattle.std.proofs.lemmas.Int.{ints}
use Rattle.arith.specs.Sums.{int_sum}
use Rattle.arith.proofs.Sums.{int_sum_push}
use Rattle.keyed_log.proofs.Finds.{nth_all}
use Rattle.power.specs.Course.{GrossPiece, Course, LawfulPiece, LawfulIf, listed}
use Rattle.settlement.specs.declared.area.Areas.{Areas}
use Rattle.settlement.specs.Areas.{Small}
use Rattle.course.specs.Gross.{gross_areas, Sums, AtMost}

-- a turn over the pieces of a course
pub turn_lawful : (most : ℕ) (o : Course) → LawfulIf most o → {s : List GrossPiece} → s ≡ listed o → (ps t u : List GrossPiece) (p : GrossPiece) → Yields (YieldsFirst (λ left. left)) s ps t → t ≡ p ∷ u → (length ps < 900) × LawfulPiece p
turn_lawful most o l {s} e ps t u p y more = by o l (YieldsList-turn (YieldsList-from_first (λ x. x) (λ left. left) (listed o) e) ps t y (Some p) u p refl more)
  where
    by : (o : Course) → LawfulIf most o → (length ps < length (listed o)) × (p ≡ get_or (listed o) (length ps) p) → (length ps < 900) × LawfulPiece p
    by None l h = absurd (omega (arith, h.0))
    by (Some all) l h = (omega (arith, h.0, l.few), nth_all LawfulPiece all (length ps) p (slice_get_read all (length all) (length ps) p refl h.0 h.1) l.pieces)

module _ (level : ℤ) (ps : List GrossPiece) (p : GrossPiece) (a b r : Areas) where
  more : (f : Areas → ℤ) → b ≡ gross_areas level p → f r ≡ f a +ℤ f b → f a ≡ int_sum (λ x. f (gross_areas level x)) ps → f r ≡ int_sum (λ x. f (gross_areas level x)) (ps ++ p ∷ [])
  more f is e h = e ∙ ap (λ z. z +ℤ f b) h ∙ ap (λ x. int_sum (λ x. f (gross_areas level x)) ps +ℤ f x) is ∙ sym (int_sum_push (λ x. f (gross_areas level x)) ps p)

  pub sums_more : Sums level ps a → b ≡ gross_areas level p → r.upward ≡ a.upward +ℤ b.upward → r.downward ≡ a.downward +ℤ b.downward → r.idle ≡ a.idle +ℤ b.idle → Sums level (ps ++ p ∷ []) r
  sums_more s is u d z = record { upward = more (λ x. x.upward) is u s.upward; downward = more (λ x. x.downward) is d s.downward; idle = more (λ x. x.idle) is z s.idle }

  pub at_most_more : AtMost (2 ^ 49 * length ps) a → Small b → r.upward ≡ a.upward +ℤ b.upward → r.downward ≡ a.downward +ℤ b.downward → r.idle ≡ a.idle +ℤ b.idle → AtMost (2 ^ 49 * length (ps ++ p ∷ [])) r
  at_most_more m s u d z =
      let n = length_push ps p in record {
        upward = omega (arith, ints, n, m.upward, s.upward_size, u);
        downward = omega (arith, ints, n, m.downward, s.downward_size, d);
        idle = omega (arith, ints, n, m.idle, s.idle_size, z);
      }

pub at_most_fits : (i : ℕ) (a : Areas) → i < 900 → AtMost (2 ^ 49 * i) a → AtMost (2 ^ 60) a
at_most_fits i a few m = record { upward = omega (arith, m.upward); downward = omega (arith, m.downward); idle = omega (arith, m.idle) }
