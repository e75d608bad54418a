-- A trace's course keeps the laws of a power record, and a later sample changes no covered period. Assumes nothing.
use Rattle.std.specs.Prelude.{◌≡◌, ℕ, zero, suc, ◌+◌, ◌<◌, ◌≤◌, Bool, true, false, ◌&&◌, ◌⊎◌, List, [], ◌∷◌, ◌++◌, length, ℤ, pos, neg_ℤ, ◌≤ℤ◌, ◌<ℤ◌, Some, None, sum_by, filter, Option, int_le, int_lt, slice_index_or, refl}
use Rattle.std.proofs.Common.{sym, ap, ◌∙◌, subst, inl, inr, arith}
use Rattle.std.specs.List.{slice_get, AllByRecursion}
use Rattle.std.proofs.lemmas.List.Elements.{filter-append}
use Rattle.std.proofs.ByRecursion.{All-append, all_kept_by, All-from_get_or, All-weaker}
use Rattle.std.proofs.lemmas.List.Sums.{sum_by-cons, count_by-le-length}
use Rattle.std.proofs.lemmas.List.{length_push, get_or_append_left, get_or_push}
use Rattle.std.proofs.lemmas.Bool.{and_parts, and_from, and_right, cases_lt}
use Rattle.std.proofs.lemmas.Int.{ints}
use Rattle.arith.specs.Ranges.{int_eq}
use Rattle.arith.specs.Interpolation.{interpolated}
use Rattle.arith.proofs.Orders.{int_lt-true, le_int_lt, lt_int_le, range_out, range_in, int_eq-true, int_eq-false, strictly}
use Rattle.arith.proofs.Lines.{interpolated-between}
use Rattle.keyed_log.specs.Entries.{Rising, first, last, through, onward, between}
use Rattle.keyed_log.specs.Writing.{later}
use Rattle.keyed_log.proofs.Finds.{nth_all, nth-append, kept_not, found_has, found_through, found_onward, all_earlier}
use Rattle.power.specs.declared.sample.Sample.{Sample}
use Rattle.power.specs.Day.{periods, is_period, is_instant, gross_bounds, start_of, end_of}
use Rattle.power.specs.Taking.{is_bounded, Bounded}
use Rattle.power.specs.Course.{LawfulPiece, sloped, Lawful, LawfulIf, Stays, listed}
use Rattle.trace_record.specs.Trace.{instant, seconds, boundary, boundary_if, joined_if, points_between, points, piece, pieces_from, pieces, pieces_if, trace_course}
use Rattle.trace_record.specs.Points.{Neighbours, Climbs, inner_climbs, width_sum, all_lawful, length-pieces, few_pieces}

-- ---- bounded samples
pub bounded_from : (s : Sample) → is_instant periods s.instant ≡ true → gross_bounds s.power ≡ true → is_bounded s ≡ true
bounded_from s day reach = and_from (is_instant periods s.instant) (gross_bounds s.power) day reach

pub bounded_instant : (s : Sample) → is_bounded s ≡ true → is_instant periods s.instant ≡ true
bounded_instant s e = (and_parts (is_instant periods s.instant) (gross_bounds s.power) e).0

pub bounded_power : (s : Sample) → is_bounded s ≡ true → gross_bounds s.power ≡ true
bounded_power s e = (and_parts (is_instant periods s.instant) (gross_bounds s.power) e).1

pub all_bounded : (ss : List Sample) → Bounded ss → AllByRecursion (λ s. is_bounded s ≡ true) ss
all_bounded ss h =
    let none : Sample = record { instant = pos 0; power = pos 0; flag = false } in
    All-from_get_or (λ s. is_bounded s ≡ true) ss none (λ i l. h i none l)

pub bounded_push : (ss : List Sample) (s : Sample) → Bounded ss → is_bounded s ≡ true → Bounded (ss ++ s ∷ [])
bounded_push ss s h f i d l = by (cases_lt i (length ss))
  where
    by : (i < length ss) ⊎ (length ss ≤ i) → is_bounded (slice_index_or (ss ++ s ∷ []) i d) ≡ true
    by (inl m) = rw (get_or_append_left ss (s ∷ []) d i m) (h i d m)
    by (inr m) = let e : length ss ≡ i = omega (arith, length_push ss s) in rw (get_or_push ss s d i e) f

-- ---- the point at a boundary
pub boundary-instant : (b : ℤ) (x y : Sample) → (boundary b x y).instant ≡ b
boundary-instant b x y = grind (arith, int_eq-true)

boundary_power : (b : ℤ) (x y : Sample) → gross_bounds x.power ≡ true → gross_bounds y.power ≡ true → x.instant ≤ℤ b → b ≤ℤ y.instant → gross_bounds (boundary b x y).power ≡ true
boundary_power b x y rx ry before after = by (int_eq x.instant b) refl
  where
    by : (t : Bool) → int_eq x.instant b ≡ t → gross_bounds (boundary b x y).power ≡ true
    by true e = rw e rx
    by false e =
        let xs = range_out (neg_ℤ (pos 1000000)) (pos 1000000) x.power rx in
        let ys = range_out (neg_ℤ (pos 1000000)) (pos 1000000) y.power ry in
        let less = strictly x.instant b before (int_eq-false x.instant b e) in
        let some : 0 < seconds x.instant y.instant = omega (arith, ints) in
        let within : seconds x.instant b ≤ seconds x.instant y.instant = omega (arith, ints) in
        let p = interpolated x.power y.power (seconds x.instant b) (seconds x.instant y.instant) in
        let ends = interpolated-between x.power y.power (seconds x.instant b) (seconds x.instant y.instant) (neg_ℤ (pos 1000000)) (pos 1000000) some within xs.0 ys.0 xs.1 ys.1 in
        rw e (range_in (neg_ℤ (pos 1000000)) (pos 1000000) p ends.0 ends.1)

-- what is found on either side of an instant is bounded, and lies there
module _ (ss : List Sample) (bounds : Bounded ss) (b : ℤ) where
  pub found_before : (x : Sample) → last (through instant b ss) ≡ Some x → (is_bounded x ≡ true) × (x.instant ≤ℤ b)
  found_before x e = (found_has (λ s. int_le (instant s) b) (λ s. is_bounded s ≡ true) ss _ x e (all_bounded ss bounds), found_through instant ss b _ x e)

  pub found_after : (y : Sample) → first (onward instant b ss) ≡ Some y → (is_bounded y ≡ true) × (b ≤ℤ y.instant)
  found_after y e = (found_has (λ s. int_le b (instant s)) (λ s. is_bounded s ≡ true) ss 0 y e (all_bounded ss bounds), found_onward instant ss b 0 y e)

  pub boundary_bounded : (x y : Sample) → is_instant periods b ≡ true → last (through instant b ss) ≡ Some x → first (onward instant b ss) ≡ Some y → is_bounded (boundary b x y) ≡ true
  boundary_bounded x y day e f =
      let before = found_before x e in
      let after = found_after y f in
      bounded_from (boundary b x y) (rw (boundary-instant b x y) day) (boundary_power b x y (bounded_power x before.0) (bounded_power y after.0) before.1 after.1)

-- ---- the points from a to b
pub record Walk (a b : ℤ) (ps : List Sample) : Type 0 where
  pub from : Sample
  pub inner : List Sample
  pub to : Sample
  pub is : ps ≡ from ∷ (inner ++ to ∷ [])
  pub starts : from.instant ≡ a
  pub ends : to.instant ≡ b
  pub climbs : Climbs from.instant (inner ++ to ∷ [])
  pub bounds : AllByRecursion (λ s. is_bounded s ≡ true) (from ∷ (inner ++ to ∷ []))

module _ (ss : List Sample) (a b : ℤ) (apart : a <ℤ b) (day-a : is_instant periods a ≡ true) (day-b : is_instant periods b ≡ true) (rising : Rising instant ss) (bounds : Bounded ss) where
  walk_of : (x y x' y' : Sample) → last (through instant a ss) ≡ Some x → first (onward instant a ss) ≡ Some y → last (through instant b ss) ≡ Some x' → first (onward instant b ss) ≡ Some y'
      → Walk a b (boundary a x y ∷ (between instant a b ss ++ boundary b x' y' ∷ []))
  walk_of x y x' y' e f e' f' =
      let q = boundary b x' y' in
      let F : Sample → Type 0 = λ s. is_bounded s ≡ true in
      record {
        from = boundary a x y;
        inner = between instant a b ss;
        to = q;
        is = refl;
        starts = boundary-instant a x y;
        ends = boundary-instant b x' y';
        climbs = rw (boundary-instant a x y) (inner_climbs a b a ss q rising (boundary-instant b x' y') apart (λ k d h t. int_lt-true a (instant (slice_index_or ss k d)) (and_parts _ _ t).0));
        bounds = (boundary_bounded ss bounds a x y day-a e f, All-append F (between instant a b ss) (q ∷ []) (all_kept_by (λ s. int_lt a (instant s) && int_lt (instant s) b) F ss (all_bounded ss bounds)) (boundary_bounded ss bounds b x' y' day-b e' f', tt));
      }

  pub walk_between : (ps : List Sample) → points_between ss a b ≡ Some ps → Walk a b ps
  walk_between ps = by (last (through instant a ss)) refl (first (onward instant a ss)) refl (last (through instant b ss)) refl (first (onward instant b ss)) refl
    where
      no_way : None ≡ Some ps → Walk a b ps
      no_way e = let z : ◌≡◌ {A = ℕ} 0 1 = cc in absurd (omega arith)

      by : (o : Option Sample) → last (through instant a ss) ≡ o → (u : Option Sample) → first (onward instant a ss) ≡ u → (o' : Option Sample) → last (through instant b ss) ≡ o' → (u' : Option Sample) → first (onward instant b ss) ≡ u'
          → joined_if (boundary_if a o u) (between instant a b ss) (boundary_if b o' u') ≡ Some ps → Walk a b ps
      by None e u f o' e' u' f' h = no_way h
      by (Some x) e None f o' e' u' f' h = no_way h
      by (Some x) e (Some y) f None e' u' f' h = no_way h
      by (Some x) e (Some y) f (Some x') e' None f' h = no_way h
      by (Some x) e (Some y) f (Some x') e' (Some y') f' h = let same : boundary a x y ∷ (between instant a b ss ++ boundary b x' y' ∷ []) ≡ ps = cc in subst (Walk a b) same (walk_of x y x' y' e f e' f')

-- the points of a period
pub walk : (ss : List Sample) (t : ℤ) → Rising instant ss → Bounded ss → (ps : List Sample) → points ss t ≡ Some ps → Walk (start_of t) (end_of t) ps
walk ss t rising bounds ps = by (is_period periods t) refl
  where
    by : (v : Bool) → is_period periods t ≡ v → points ss t ≡ Some ps → Walk (start_of t) (end_of t) ps
    by true e f =
        let p = range_out (pos 1) (pos periods) t e in
        let low = p.0 in
        let high = p.1 in
        let day-a : is_instant periods (start_of t) ≡ true = range_in (pos 0) (pos 88199) (start_of t) (omega (arith, ints)) (omega (arith, ints)) in
        let day-b : is_instant periods (end_of t) ≡ true = range_in (pos 0) (pos 88199) (end_of t) (omega (arith, ints)) (omega (arith, ints)) in
        walk_between ss (start_of t) (end_of t) (omega (arith, ints)) day-a day-b rising bounds ps (rw e at f)
    by false e f = let h : None ≡ Some ps = rw e at f in let z : ◌≡◌ {A = ℕ} 0 1 = cc in absurd (omega arith)

-- ---- lawful
walk_lawful : (critical : ℕ) (a b : ℤ) (ps : List Sample) → seconds a b ≡ 900 → Walk a b ps → Lawful 900 (pieces critical ps)
walk_lawful critical a b ps long w =
    let qs = w.inner ++ w.to ∷ [] in
    let cs = pieces_from critical w.from qs in
    let each : AllByRecursion LawfulPiece cs = all_lawful critical w.from qs w.climbs (All-weaker (λ s. is_bounded s ≡ true) (λ s. gross_bounds s.power ≡ true) bounded_power (w.from ∷ qs) w.bounds) in
    let whole : sum_by (λ z. z.width) cs ≡ 900 = width_sum critical w.from w.inner w.to w.climbs ∙ rw (w.starts, w.ends) long in
    let few : length cs ≤ 900 = omega (arith, few_pieces cs each, whole) in
    let lawful : Lawful 900 cs = record {
      some = omega (arith, length-pieces critical w.from qs, length_push w.inner w.to);
      few = few;
      pieces = each;
      whole = whole;
      slopes = omega (arith, few, count_by-le-length sloped cs);
    } in
    subst (λ l. Lawful 900 (pieces critical l)) (sym w.is) lawful

pub trace_lawful : (critical : ℕ) (ss : List Sample) (t : ℤ) → Rising instant ss → Bounded ss → LawfulIf 900 (trace_course critical ss t)
trace_lawful critical ss t rising bounds = by (points ss t) refl
  where
    by : (o : Option (List Sample)) → points ss t ≡ o → LawfulIf 900 (pieces_if critical o)
    by None e = tt
    by (Some ps) e = walk_lawful critical (start_of t) (end_of t) ps (omega (arith, ints)) (walk ss t rising bounds ps e)

pub trace_outside : (critical : ℕ) (ss : List Sample) (t : ℤ) → is_period periods t ≡ false → trace_course critical ss t ≡ None
trace_outside critical ss t e = rw e refl

-- ---- neighbours
climbs_next : (p : Sample) (qs : List Sample) (critical i : ℕ) (x y : Sample) → Climbs p.instant qs → slice_get (p ∷ qs) i ≡ Some x → slice_get qs i ≡ Some y
    → (x.instant <ℤ y.instant) × (seconds x.instant y.instant ≤ sum_by (λ z. z.width) (pieces_from critical p qs))
unfolding Climbs
climbs_next p [] critical i x y c e f = let z : ◌≡◌ {A = ℕ} 0 1 = cc in absurd (omega arith)
climbs_next p (q ∷ qs) critical zero x y (l, c) e f =
    let s : p ≡ x = cc in
    let t : q ≡ y = cc in
    let sum = sum_by-cons (λ z. z.width) (piece critical p q) (pieces_from critical q qs) in
    rw (sym s, sym t) (l, rw sum (omega arith))
climbs_next p (q ∷ qs) critical (suc i) x y (l, c) e f =
    let rest = climbs_next q qs critical i x y c e f in
    (rest.0, rw (sum_by-cons (λ z. z.width) (piece critical p q) (pieces_from critical q qs)) (omega (arith, rest.1)))

pub neighbours : (ss : List Sample) (t : ℤ) → Rising instant ss → Bounded ss → (i : ℕ) (x y : Sample) → slice_get (listed (points ss t)) i ≡ Some x → slice_get (listed (points ss t)) (i + 1) ≡ Some y → Neighbours x y
neighbours ss t rising bounds i x y = by (points ss t) refl
  where
    by : (o : Option (List Sample)) → points ss t ≡ o → slice_get (listed o) i ≡ Some x → slice_get (listed o) (i + 1) ≡ Some y → Neighbours x y
    by None e f g = let z : ◌≡◌ {A = ℕ} 0 1 = cc in absurd (omega arith)
    by (Some ps) e f g =
        let w = walk ss t rising bounds ps e in
        let qs = w.inner ++ w.to ∷ [] in
        let next : i + 1 ≡ suc i = omega arith in
        let f' : slice_get (w.from ∷ qs) i ≡ Some x = subst (λ l. slice_get l i ≡ Some x) w.is f in
        let g' : slice_get qs i ≡ Some y = subst (λ k. slice_get (w.from ∷ qs) k ≡ Some y) next (subst (λ l. slice_get l (i + 1) ≡ Some y) w.is g) in
        let step = climbs_next w.from qs 0 i x y w.climbs f' g' in
        let long : seconds (start_of t) (end_of t) ≡ 900 = omega (arith, ints) in
        let whole : sum_by (λ z. z.width) (pieces_from 0 w.from qs) ≡ 900 = width_sum 0 w.from w.inner w.to w.climbs ∙ rw (w.starts, w.ends) long in
        record {
          from = nth_all (λ s. is_bounded s ≡ true) (w.from ∷ qs) i x f' w.bounds;
          to = nth_all (λ s. is_bounded s ≡ true) qs i y g' w.bounds.1;
          climbs = step.0;
          near = omega (arith, step.1, whole);
        }

-- ---- a later sample
module _ (ss : List Sample) (s : Sample) (a b : ℤ) (apart : a <ℤ b) (past : b <ℤ s.instant) where
  through_push : (n : ℤ) → n ≤ℤ b → through instant n (ss ++ s ∷ []) ≡ through instant n ss
  through_push n l = kept_not (λ x. int_le (instant x) n) ss s (lt_int_le s.instant n (omega (arith, ints)))

  between_push : between instant a b (ss ++ s ∷ []) ≡ between instant a b ss
  between_push = kept_not (λ x. int_lt a (instant x) && int_lt (instant x) b) ss s (and_right (int_lt a s.instant) (int_lt s.instant b) (le_int_lt s.instant b (omega (arith, ints))))

  onward_push : (n : ℤ) (y : Sample) → first (onward instant n ss) ≡ Some y → first (onward instant n (ss ++ s ∷ [])) ≡ Some y
  onward_push n y e = ap first (filter-append (λ x. int_le n (instant x)) ss (s ∷ [])) ∙ nth-append (onward instant n ss) (filter (λ x. int_le n (instant x)) (s ∷ [])) 0 y e

module _ (critical : ℕ) (ss : List Sample) (s : Sample) (a b : ℤ) (apart : a <ℤ b) (rising : Rising instant ss) (rises : later instant (last ss) s ≡ true) where
  past_end : (y : Sample) → first (onward instant b ss) ≡ Some y → b <ℤ s.instant
  past_end y e =
      let earlier = found_has (λ x. int_le b (instant x)) (λ x. x.instant <ℤ s.instant) ss 0 y e (all_earlier instant ss s rising rises) in
      let on = found_onward instant ss b 0 y e in
      omega (arith, ints)

  stays_between : Stays (pieces_if critical (points_between ss a b)) (pieces_if critical (points_between (ss ++ s ∷ []) a b))
  stays_between = by (last (through instant a ss)) refl (first (onward instant a ss)) refl (last (through instant b ss)) refl (first (onward instant b ss)) refl
    where
      by : (o : Option Sample) → last (through instant a ss) ≡ o → (u : Option Sample) → first (onward instant a ss) ≡ u → (o' : Option Sample) → last (through instant b ss) ≡ o' → (u' : Option Sample) → first (onward instant b ss) ≡ u'
          → Stays (pieces_if critical (joined_if (boundary_if a o u) (between instant a b ss) (boundary_if b o' u'))) (pieces_if critical (points_between (ss ++ s ∷ []) a b))
      by None e u f o' e' u' f' = tt
      by (Some x) e None f o' e' u' f' = tt
      by (Some x) e (Some y) f None e' u' f' = tt
      by (Some x) e (Some y) f (Some x') e' None f' = tt
      by (Some x) e (Some y) f (Some x') e' (Some y') f' =
          let past = past_end y' f' in
          let t : last (through instant a (ss ++ s ∷ [])) ≡ Some x = ap last (through_push ss s a b apart past a (omega (arith, ints))) ∙ e in
          let t' : last (through instant b (ss ++ s ∷ [])) ≡ Some x' = ap last (through_push ss s a b apart past b (omega (arith, ints))) ∙ e' in
          let o = onward_push ss s a b apart past a y f in
          let o' = onward_push ss s a b apart past b y' f' in
          rw (t, o, t', o', between_push ss s a b apart past) refl

pub trace_stays : (critical : ℕ) (ss : List Sample) (s : Sample) (t : ℤ) → Rising instant ss → later instant (last ss) s ≡ true → Stays (trace_course critical ss t) (trace_course critical (ss ++ s ∷ []) t)
trace_stays critical ss s t rising rises = by (is_period periods t) refl
  where
    by : (v : Bool) → is_period periods t ≡ v → Stays (trace_course critical ss t) (trace_course critical (ss ++ s ∷ []) t)
    by true e = rw e (stays_between critical ss s (start_of t) (end_of t) (omega (arith, ints)) rising rises)
    by false e = rw e tt
