-- A later sample changes no period that recorded minutes cover. Assumes nothing.
use Rattle.std.specs.Prelude.{◌≡◌, ℕ, zero, suc, ◌+◌, ◌≤◌, Bool, true, false, List, [], ◌∷◌, ◌++◌, length, get_or, ℤ, pos, ◌+ℤ◌, ◌≤ℤ◌, ◌<ℤ◌, Some, None, filter, int_le, slice_index_or, refl}
use Rattle.std.proofs.Common.{sym, ap, ◌∙◌, arith, length-append}
use Rattle.std.specs.List.{AllByRecursion}
use Rattle.std.proofs.lemmas.List.Elements.{filter-append}
use Rattle.std.proofs.lemmas.List.{length_push}
use Rattle.std.proofs.lemmas.Option.{slice_get-get_or}
use Rattle.std.proofs.lemmas.Int.{ints}
use Rattle.arith.proofs.Orders.{le_int_le, lt_int_le}
use Rattle.keyed_log.specs.Entries.{first, last, through, onward}
use Rattle.keyed_log.proofs.Finds.{kept_not, kept_too, nth-append, found_has, found_onward, onward_some}
use Rattle.power.specs.Day.{periods, is_period}
use Rattle.power.specs.Course.{Course, Stays}
use Rattle.minute_record.specs.declared.minute.Minute.{Minute}
use Rattle.minute_record.specs.Minutes.{period_minutes, number, piece_if, piece_of, cons_if, pieces_of, first_minute, next_minute, minutes_cover, minute_course}
use Rattle.minute_record.specs.MinuteLaws.{cover_parts}

-- where something is recorded from b on, an entry at or after b changes no minute before b
module _ (ms : List Minute) (e : Minute) (b : ℤ) (y : Minute) (found : first (onward number b ms) ≡ Some y) (past : b ≤ℤ e.minute) where
  piece_kept : (m : ℤ) → m <ℤ b → piece_of (ms ++ e ∷ []) m ≡ piece_of ms m
  piece_kept m l =
      let some = onward_some number ms m b 0 y (omega (arith, ints)) found in
      let before : through number m (ms ++ e ∷ []) ≡ through number m ms = kept_not (λ s. int_le (number s) m) ms e (lt_int_le e.minute m (omega (arith, ints))) in
      let after : first (onward number m (ms ++ e ∷ [])) ≡ Some some.0 = ap first (filter-append (λ s. int_le m (number s)) ms (e ∷ [])) ∙ nth-append (onward number m ms) (filter (λ s. int_le m (number s)) (e ∷ [])) 0 some.0 some.1 in
      ap (λ o. piece_if m (last o) (first (onward number m (ms ++ e ∷ [])))) before ∙ ap (λ o. piece_if m (last (through number m ms)) o) (after ∙ sym some.1)

  pieces_kept : (n : ℕ) (m : ℤ) → (m +ℤ pos n) ≤ℤ b → pieces_of (ms ++ e ∷ []) m n ≡ pieces_of ms m n
  pieces_kept zero m l = refl
  pieces_kept (suc n) m l =
      ap (λ o. cons_if o (pieces_of (ms ++ e ∷ []) (m +ℤ pos 1) n)) (piece_kept m (omega (arith, ints)))
      ∙ ap (cons_if (piece_of ms m)) (pieces_kept n (m +ℤ pos 1) (omega (arith, ints)))

-- ---- one entry more, after all
module _ (ms : List Minute) (e : Minute) (t : ℤ) (later : AllByRecursion (λ x. number x <ℤ number e) ms) where
  -- one recorded minute after a period's last: then a later one leaves the period's minutes
  module _ (some : 1 ≤ length (onward number (next_minute t) ms)) where
    past_end : next_minute t ≤ℤ e.minute
    past_end =
        let found = slice_get-get_or (onward number (next_minute t) ms) 0 e some in
        let y = get_or (onward number (next_minute t) ms) 0 e in
        let on = found_onward number ms (next_minute t) 0 y found in
        let less = found_has (λ x. int_le (next_minute t) (number x)) (λ x. number x <ℤ number e) ms 0 y found later in
        omega (arith, ints)

    pub period_kept : pieces_of (ms ++ e ∷ []) (first_minute t) period_minutes ≡ pieces_of ms (first_minute t) 15
    period_kept =
        let found = slice_get-get_or (onward number (next_minute t) ms) 0 e some in
        pieces_kept ms e (next_minute t) (slice_index_or (onward number (next_minute t) ms) 0 e) found past_end period_minutes (first_minute t) (omega (arith, ints))

    pub before_kept : through number (first_minute t) (ms ++ e ∷ []) ≡ through number (first_minute t) ms
    before_kept = let past = past_end in kept_not (λ x. int_le (number x) (first_minute t)) ms e (lt_int_le e.minute (first_minute t) (omega (arith, ints)))

    pub one_after : length (onward number (next_minute t) (ms ++ e ∷ [])) ≡ length (onward number (next_minute t) ms) + 1
    one_after = ap length (kept_too (λ x. int_le (next_minute t) (number x)) ms e (le_int_le (next_minute t) e.minute past_end)) ∙ length_push (onward number (next_minute t) ms) e

  -- of two recorded minutes after a period's last, one stands before e
  pub one_left : 2 ≤ length (onward number (next_minute t) (ms ++ e ∷ [])) → 1 ≤ length (onward number (next_minute t) ms)
  one_left two =
      let on : Minute → Bool = λ x. int_le (next_minute t) (number x) in
      let parts = ap length (filter-append on ms (e ∷ [])) ∙ length-append (onward number (next_minute t) ms) (filter on (e ∷ [])) in
      let few : length (filter on (e ∷ [])) ≤ 1 = grind (arith, ints) in
      omega (arith, parts, few, two)

cover_from : (ms : List Minute) (t : ℤ) → is_period periods t ≡ true → 1 ≤ length (through number (first_minute t) ms) → 2 ≤ length (onward number (next_minute t) ms) → minutes_cover ms t ≡ true
cover_from ms t p before after = grind (arith, ints)

-- where coverage and pieces stay, the course does
course_stays : (ms ms' : List Minute) (t : ℤ) → (minutes_cover ms t ≡ true → (minutes_cover ms' t ≡ true) × (pieces_of ms' (first_minute t) period_minutes ≡ pieces_of ms (first_minute t) period_minutes)) → Stays (minute_course ms t) (minute_course ms' t)
course_stays ms ms' t keep = by (minutes_cover ms t) refl
  where
    same : (o : Course) → Stays o o
    same None = tt
    same (Some ps) = refl

    by : (v : Bool) → minutes_cover ms t ≡ v → Stays (minute_course ms t) (minute_course ms' t)
    by true h = let k = keep h in rw (h, k.0, k.1) (same (pieces_of ms (first_minute t) period_minutes))
    by false h = rw h tt

-- a new minute
pub minute_stays : (ms : List Minute) (e : Minute) (t : ℤ) → AllByRecursion (λ x. number x <ℤ number e) ms → Stays (minute_course ms t) (minute_course (ms ++ e ∷ []) t)
minute_stays ms e t later = course_stays ms (ms ++ e ∷ []) t keep
  where
    keep : minutes_cover ms t ≡ true → (minutes_cover (ms ++ e ∷ []) t ≡ true) × (pieces_of (ms ++ e ∷ []) (first_minute t) period_minutes ≡ pieces_of ms (first_minute t) period_minutes)
    keep h =
        let c = cover_parts ms t h in
        let some : 1 ≤ length (onward number (next_minute t) ms) = omega (arith, c.after) in
        (cover_from (ms ++ e ∷ []) t c.period (omega (arith, c.before, ap length (before_kept ms e t later some))) (omega (arith, c.after, one_after ms e t later some)), period_kept ms e t later some)

-- another sample of the last minute
pub minute_swaps : (ms : List Minute) (e e' : Minute) (t : ℤ) → AllByRecursion (λ x. number x <ℤ number e) ms → e'.minute ≡ e.minute → Stays (minute_course (ms ++ e ∷ []) t) (minute_course (ms ++ e' ∷ []) t)
minute_swaps ms e e' t later alike = course_stays (ms ++ e ∷ []) (ms ++ e' ∷ []) t keep
  where
    later' : AllByRecursion (λ x. number x <ℤ number e') ms
    later' = rw alike later

    keep : minutes_cover (ms ++ e ∷ []) t ≡ true → (minutes_cover (ms ++ e' ∷ []) t ≡ true) × (pieces_of (ms ++ e' ∷ []) (first_minute t) period_minutes ≡ pieces_of (ms ++ e ∷ []) (first_minute t) period_minutes)
    keep h =
        let c = cover_parts (ms ++ e ∷ []) t h in
        let some = one_left ms e t later c.after in (
          cover_from (ms ++ e' ∷ []) t c.period (omega (arith, c.before, ap length (before_kept ms e t later some), ap length (before_kept ms e' t later' some))) (omega (arith, c.after, one_after ms e t later some, one_after ms e' t later' some)),
          period_kept ms e' t later' some ∙ sym (period_kept ms e t later some),
        )
