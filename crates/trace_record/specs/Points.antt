-- The points of a period climb from its start to its end, and so the pieces fill it. Assumes nothing.
use Rattle.std.specs.Prelude.{◌≡◌, ℕ, suc, ◌+◌, ◌<◌, ◌≤◌, Bool, true, false, ◌&&◌, List, [], ◌∷◌, ◌++◌, length, ℤ, ◌<ℤ◌, sum_by, int_lt, slice_index_or, refl}
use Rattle.std.proofs.Common.{ap, ◌∙◌, arith}
use Rattle.std.specs.List.{AllByRecursion}
use Rattle.std.proofs.lemmas.List.Sums.{sum_by-cons}
use Rattle.std.proofs.lemmas.Bool.{and_parts}
use Rattle.std.proofs.lemmas.Int.{ints}
use Rattle.arith.proofs.Orders.{int_lt-true}
use Rattle.keyed_log.specs.Entries.{Rising, between}
use Rattle.keyed_log.proofs.Rises.{rising_far, rising_tail}
use Rattle.power.specs.declared.sample.Sample.{Sample}
use Rattle.power.specs.Day.{gross_bounds}
use Rattle.power.specs.Taking.{is_bounded}
use Rattle.power.specs.Course.{GrossPiece, LawfulPiece}
use Rattle.trace_record.specs.Trace.{instant, seconds, piece, pieces_from}

-- two points that bound a piece
pub record Neighbours (p q : Sample) : Type 0 where
  pub from : is_bounded p ≡ true
  pub to : is_bounded q ≡ true
  pub climbs : p.instant <ℤ q.instant
  pub near : seconds p.instant q.instant ≤ 900

-- ---- points that climb
unfoldable pub Climbs : ℤ → List Sample → Type 0
Climbs n [] = Unit {0}
Climbs n (q ∷ qs) = (n <ℤ q.instant) × Climbs q.instant qs

-- the samples strictly between a and b, and then a point at b
pub inner_climbs : (a b m : ℤ) (ss : List Sample) (q : Sample) → Rising instant ss → q.instant ≡ b → m <ℤ b → ((k : ℕ) (d : Sample) → k < length ss → (int_lt a (instant (slice_index_or ss k d)) && int_lt (instant (slice_index_or ss k d)) b) ≡ true → m <ℤ instant (slice_index_or ss k d)) → Climbs m (between instant a b ss ++ q ∷ [])
unfolding Climbs
inner_climbs a b m [] q rising is less over = (rw is less, tt)
inner_climbs a b m (s ∷ ss) q rising is less over =
    by (int_lt a s.instant && int_lt s.instant b) refl
    (λ l. inner_climbs a b s.instant ss q (rising_tail instant s ss rising) is l (λ k d h e. rising_far instant (s ∷ ss) rising 0 (suc k) d (omega arith) (omega arith)))
    (inner_climbs a b m ss q (rising_tail instant s ss rising) is less (λ k d h e. over (suc k) d (omega arith) e))
  where
    by : (t : Bool) → (int_lt a s.instant && int_lt s.instant b) ≡ t → (s.instant <ℤ b → Climbs s.instant (between instant a b ss ++ q ∷ [])) → Climbs m (between instant a b ss ++ q ∷ []) → Climbs m (between instant a b (s ∷ ss) ++ q ∷ [])
    by true e inside past = rw e (over 0 s (omega arith) e, inside (int_lt-true s.instant b (and_parts _ _ e).1))
    by false e inside past = rw e past

pub climbs_end : (n : ℤ) (inner : List Sample) (q : Sample) → Climbs n (inner ++ q ∷ []) → n <ℤ q.instant
unfolding Climbs
climbs_end n [] q (l, u) = l
climbs_end n (s ∷ inner) q (l, c) = let m = climbs_end s.instant inner q c in omega (arith, ints)

-- ---- the pieces between such points
pub width_sum : (critical : ℕ) (p : Sample) (inner : List Sample) (q : Sample) → Climbs p.instant (inner ++ q ∷ []) → sum_by (λ x. x.width) (pieces_from critical p (inner ++ q ∷ [])) ≡ seconds p.instant q.instant
unfolding Climbs
width_sum critical p [] q (l, u) = omega arith
width_sum critical p (s ∷ inner) q (l, c) =
    let rest = width_sum critical s inner q c in
    let m = climbs_end s.instant inner q c in
    let both : seconds p.instant s.instant + seconds s.instant q.instant ≡ seconds p.instant q.instant = omega (arith, ints) in
    sum_by-cons (λ x. x.width) (piece critical p s) (pieces_from critical s (inner ++ q ∷ [])) ∙ rw rest both

pub all_lawful : (critical : ℕ) (p : Sample) (qs : List Sample) → Climbs p.instant qs → AllByRecursion (λ s. gross_bounds s.power ≡ true) (p ∷ qs) → AllByRecursion LawfulPiece (pieces_from critical p qs)
unfolding Climbs
all_lawful critical p [] c a = tt
all_lawful critical p (q ∷ qs) (l, c) (r, (s, a)) = (record { lasts = omega (arith, ints); from = r; to = s }, all_lawful critical q qs c (s, a))

pub length-pieces : (critical : ℕ) (p : Sample) (qs : List Sample) → length (pieces_from critical p qs) ≡ length qs
length-pieces critical p [] = refl
length-pieces critical p (q ∷ qs) = ap suc (length-pieces critical q qs)

pub few_pieces : (ps : List GrossPiece) → AllByRecursion LawfulPiece ps → length ps ≤ sum_by (λ x. x.width) ps
few_pieces [] a = omega arith
few_pieces (p ∷ ps) (s, a) = let l = few_pieces ps a in let m = s.lasts in rw (sum_by-cons (λ x. x.width) p ps) (omega arith)
