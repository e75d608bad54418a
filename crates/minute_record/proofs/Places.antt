-- The piece at a place of a period is that of a minute. Assumes nothing.
use Rattle.std.proofs.Common.{◌≡◌, ℕ, zero, suc, ◌<◌, ◌≤◌, Bool, true, false, List, ◌∷◌, ℤ, pos, ◌+ℤ◌, is_some, Some, None, Option, sym, refl, ap, ◌∙◌, arith}
use Rattle.std.specs.List.{slice_get}
use Rattle.std.proofs.lemmas.Option.{slice_get_past}
use Rattle.std.proofs.lemmas.Int.{ints}
use Rattle.power.specs.Course.{GrossPiece, Course, listed}
use Rattle.minute_record.specs.declared.minute.Minute.{Minute}
use Rattle.minute_record.specs.Minutes.{period_minutes, Sampled, piece_of, cons_if, pieces_of, first_minute, minutes_cover, minute_course}
use Rattle.minute_record.specs.declared.minute_record.MinuteRecord.{MinuteRecord}
use Rattle.minute_record.specs.MinuteRecords.{minutes, meaning}
use Rattle.minute_record.specs.MinuteLaws.{pieces_flat, covered_some}

pub course_covered : (ms : List Minute) (t : ℤ) → Sampled ms → minutes_cover ms t ≡ is_some (minute_course ms t)
course_covered ms t good = by (minutes_cover ms t) refl
  where
    by : (v : Bool) → minutes_cover ms t ≡ v → minutes_cover ms t ≡ is_some (minute_course ms t)
    by true h = rw h (sym (ap is_some (covered_some ms t good h).1))
    by false h = rw h refl

-- the rule of coverage is that the record has a meaning
pub covered_means : (r : MinuteRecord) (t : ℤ) (v : Bool) → v ≡ minutes_cover (minutes r) t → v ≡ is_some (meaning r t)
covered_means r t v rule = rule ∙ course_covered (minutes r) t r.sampled

pieces-nth : (ms : List Minute) (n : ℕ) (m : ℤ) (ps : List GrossPiece) (i : ℕ) → pieces_of ms m n ≡ Some ps → i < n → slice_get ps i ≡ piece_of ms (m +ℤ pos i)
pieces-nth ms zero m ps i e l = absurd (omega arith)
pieces-nth ms (suc n) m ps i e l = by (piece_of ms m) refl (pieces_of ms (m +ℤ pos 1) n) refl i l e (λ qs j f k. pieces-nth ms n (m +ℤ pos 1) qs j f k)
  where
    by : (o : Option GrossPiece) → piece_of ms m ≡ o → (u : Course) → pieces_of ms (m +ℤ pos 1) n ≡ u → (j : ℕ) → j < suc n → cons_if o u ≡ Some ps → ((qs : List GrossPiece) (k : ℕ) → pieces_of ms (m +ℤ pos 1) n ≡ Some qs → k < n → slice_get qs k ≡ piece_of ms (m +ℤ pos 1 +ℤ pos k)) → slice_get ps j ≡ piece_of ms (m +ℤ pos j)
    by None a u b j k c more = absurd (cc)
    by (Some p) a None b j k c more = absurd (cc)
    by (Some p) a (Some qs) b zero k c more =
        let is : ps ≡ p ∷ qs = cc in
        let same : m ≡ m +ℤ pos 0 = omega (arith, ints) in
        ap (λ l. slice_get l 0) is ∙ sym a ∙ ap (piece_of ms) same
    by (Some p) a (Some qs) b (suc j) k c more =
        let is : ps ≡ p ∷ qs = cc in
        let next : m +ℤ pos 1 +ℤ pos j ≡ m +ℤ pos (suc j) = omega (arith, ints) in
        ap (λ l. slice_get l (suc j)) is ∙ more qs j b (omega arith) ∙ ap (piece_of ms) next

module _ (ms : List Minute) (t : ℤ) (i : ℕ) (good : Sampled ms) where
  -- a place of a covered period has the piece of its minute
  pub place_inside : minutes_cover ms t ≡ true → i < period_minutes → piece_of ms (first_minute t +ℤ pos i) ≡ slice_get (listed (minute_course ms t)) i
  place_inside h l = let ps = covered_some ms t good h in rw (h, ps.1) (sym (pieces-nth ms period_minutes (first_minute t) ps.0 i ps.1 l))

  pub place_past : period_minutes ≤ i → None ≡ slice_get (listed (minute_course ms t)) i
  place_past l = by (minutes_cover ms t) refl
    where
      by : (v : Bool) → minutes_cover ms t ≡ v → None ≡ slice_get (listed (minute_course ms t)) i
      by true h =
          let ps = covered_some ms t good h in
          let long = (pieces_flat ms good (first_minute t) period_minutes ps.0 ps.1).0 in
          rw (h, ps.1) (sym (slice_get_past ps.0 i (omega (arith, long))))
      by false h = rw h refl
