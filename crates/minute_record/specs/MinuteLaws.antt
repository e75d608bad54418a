-- The minutes' course keeps the laws of a power record. Assumes nothing.
use Rattle.std.specs.Prelude.{◌≡◌, ℕ, zero, suc, ◌-◌, ◌*◌, ◌<◌, ◌≤◌, Bool, true, false, cond, not, ◌&&◌, List, [], ◌∷◌, length, ℤ, pos, negsuc, ◌+ℤ◌, ◌-ℤ◌, ◌*ℤ◌, neg_ℤ, ◌≤ℤ◌, ◌<ℤ◌, Some, None, sum_by, count_by, Option, int_le, slice_index_or, unsigned_abs, refl}
use Rattle.std.proofs.Common.{sym, ap, ◌∙◌, subst, arith}
use Rattle.std.specs.List.{slice_get, AllByRecursion}
use Rattle.std.proofs.ByRecursion.{All-from_get_or, All-weaker}
use Rattle.std.proofs.lemmas.Option.{slice_get-get_or}
use Rattle.std.proofs.lemmas.List.Sums.{sum_by-cons}
use Rattle.std.proofs.lemmas.Int.{ints}
use Rattle.arith.specs.Division.{nearest}
use Rattle.arith.specs.Interpolation.{interpolation}
use Rattle.arith.specs.Ranges.{int_eq}
use Rattle.arith.proofs.Lines.{placed}
use Rattle.arith.proofs.Nearest.{nearest_within}
use Rattle.arith.proofs.Orders.{int_eq-false, int_eq-same, range_in, range_out, strictly}
use Rattle.keyed_log.specs.Entries.{first, last, through, onward}
use Rattle.keyed_log.proofs.Finds.{found_has, found_through, found_onward, through_some, onward_some}
use Rattle.keyed_log.proofs.Kept.{last_some}
use Rattle.power.specs.Day.{periods, is_period, gross_bounds}
use Rattle.power.specs.Course.{GrossPiece, Course, LawfulPiece, sloped, LawfulIf}
use Rattle.minute_record.specs.declared.minute.Minute.{Minute}
use Rattle.minute_record.specs.Minutes.{period_minutes, number, mean, is_minute, is_sampled, Sampled, flat, flat_if, minute_piece, piece_if, piece_of, cons_if, pieces_of, first_minute, next_minute, minutes_cover, minute_course}

no_minute : Minute
no_minute = record { minute = pos 0; sum = pos 0; count = 0; flag = false }

-- ---- a recorded minute
pub all_sampled : (ms : List Minute) → Sampled ms → AllByRecursion (λ e. is_sampled e ≡ true) ms
all_sampled ms h = All-from_get_or (λ e. is_sampled e ≡ true) ms no_minute (λ i l. h i no_minute l)

pub record Recordable (e : Minute) : Type 0 where
  pub day : is_minute e.minute ≡ true
  pub some : 1 ≤ e.count
  pub size : unsigned_abs e.sum ≤ 1000000 * e.count

pub sampled_parts : (e : Minute) → is_sampled e ≡ true → Recordable e
sampled_parts e h = record { day = grind (arith, ints); some = grind (arith, ints); size = grind (arith, ints) }

pub day_bounds : (e : Minute) → is_sampled e ≡ true → (pos 0 ≤ℤ e.minute) × (e.minute ≤ℤ pos 1469)
day_bounds e h = range_out (pos 0) (pos 1469) e.minute (sampled_parts e h).day

pub mean_size : (e : Minute) → is_sampled e ≡ true → unsigned_abs (mean e) ≤ 1000000
mean_size e h = let s = sampled_parts e h in nearest_within e.sum e.count 1000000 s.some s.size

bounded : (z : ℤ) → unsigned_abs z ≤ 1000000 → (neg_ℤ (pos 1000000) ≤ℤ z) × (z ≤ℤ pos 1000000)
bounded z h = (omega (arith, ints), omega (arith, ints))

-- ---- the piece of a minute
-- flat, a minute wide and within bounds
pub record Flat (p : GrossPiece) : Type 0 where
  pub width : p.width ≡ 60
  pub level : p.start ≡ p.end
  pub bounds : gross_bounds p.start ≡ true

-- a place on a line of some length has a value, between the ends
line : (a b step span : ℤ) → pos 0 <ℤ span → pos 0 ≤ℤ step → step ≤ℤ span → (v : ℤ) × (interpolation a b step span ≡ Some v) × ((low high : ℤ) → low ≤ℤ a → low ≤ℤ b → a ≤ℤ high → b ≤ℤ high → (low ≤ℤ v) × (v ≤ℤ high))
line a b step (pos m) some h k = let p = placed a b step m (omega (arith, ints)) h k in (a +ℤ nearest ((b -ℤ a) *ℤ step) m, p.0, p.1)
line a b step (negsuc m) some h k = absurd (omega (arith, ints))

minute_flat : (m : ℤ) (x y : Minute) → is_sampled x ≡ true → is_sampled y ≡ true → x.minute ≤ℤ m → m ≤ℤ y.minute → (p : GrossPiece) × (minute_piece m x y ≡ Some p) × Flat p
minute_flat m x y sx sy xm my = split (int_eq x.minute m) refl
  where
    split : (t : Bool) → int_eq x.minute m ≡ t → (p : GrossPiece) × (minute_piece m x y ≡ Some p) × Flat p
    split true e =
        let own = bounded (mean x) (mean_size x sx) in
        (flat x.flag (mean x), rw e refl, record { width = refl; level = refl; bounds = range_in (neg_ℤ (pos 1000000)) (pos 1000000) (mean x) own.0 own.1 })
    split false e =
        let xs = bounded (mean x) (mean_size x sx) in
        let ys = bounded (mean y) (mean_size y sy) in
        let less = strictly x.minute m xm (int_eq-false x.minute m e) in
        let v = line (mean x) (mean y) (m -ℤ x.minute) (y.minute -ℤ x.minute) (omega (arith, ints)) (omega (arith, ints)) (omega (arith, ints)) in
        let ends = v.2 (neg_ℤ (pos 1000000)) (pos 1000000) xs.0 ys.0 xs.1 ys.1 in
        (flat (x.flag && y.flag) v.0, rw e (ap (flat_if (x.flag && y.flag)) v.1), record { width = refl; level = refl; bounds = range_in (neg_ℤ (pos 1000000)) (pos 1000000) v.0 ends.0 ends.1 })

module _ (ms : List Minute) (good : Sampled ms) where
  -- what is recorded on either side of a minute is sampled, and lies there
  pub last_through : (m : ℤ) (x : Minute) → last (through number m ms) ≡ Some x → (is_sampled x ≡ true) × (x.minute ≤ℤ m)
  last_through m x e =
      let i = length (through number m ms) - 1 in
      (found_has (λ s. int_le (number s) m) (λ s. is_sampled s ≡ true) ms i x e (all_sampled ms good), found_through number ms m i x e)

  pub first_onward : (m : ℤ) (y : Minute) → first (onward number m ms) ≡ Some y → (is_sampled y ≡ true) × (m ≤ℤ y.minute)
  first_onward m y e = (found_has (λ s. int_le m (number s)) (λ s. is_sampled s ≡ true) ms 0 y e (all_sampled ms good), found_onward number ms m 0 y e)

  -- between recorded minutes a minute has a flat piece
  pub piece_some : (m : ℤ) (x y : Minute) → last (through number m ms) ≡ Some x → first (onward number m ms) ≡ Some y → (p : GrossPiece) × (piece_of ms m ≡ Some p) × Flat p
  piece_some m x y e f =
      let a = last_through m x e in
      let b = first_onward m y f in
      let p = minute_flat m x y a.0 b.0 a.1 b.1 in
      (p.0, rw (e, f) p.1, p.2)

  piece_flat : (m : ℤ) (p : GrossPiece) → piece_of ms m ≡ Some p → Flat p
  piece_flat m p = by (last (through number m ms)) refl (first (onward number m ms)) refl
    where
      by : (o : Option Minute) → last (through number m ms) ≡ o → (u : Option Minute) → first (onward number m ms) ≡ u → piece_if m o u ≡ Some p → Flat p
      by None e u f g = absurd (cc)
      by (Some x) e None f g = absurd (cc)
      by (Some x) e (Some y) f g =
          let q = piece_some m x y e f in
          let again : piece_of ms m ≡ piece_if m (Some x) (Some y) = ap (λ o. piece_if m o (first (onward number m ms))) e ∙ ap (piece_if m (Some x)) f in
          let both : Some q.0 ≡ Some p = sym q.1 ∙ again ∙ g in
          let is : q.0 ≡ p = cc in
          subst Flat is q.2

  pub pieces_flat : (m : ℤ) (n : ℕ) (ps : List GrossPiece) → pieces_of ms m n ≡ Some ps → (length ps ≡ n) × AllByRecursion Flat ps
  pieces_flat m zero [] e = (refl, tt)
  pieces_flat m zero (p ∷ ps) e = absurd (cc)
  pieces_flat m (suc n) ps e = by (piece_of ms m) refl (pieces_of ms (m +ℤ pos 1) n) refl e (λ p h. piece_flat m p h) (λ qs h. pieces_flat (m +ℤ pos 1) n qs h)
    where
      by : (o : Option GrossPiece) → piece_of ms m ≡ o → (u : Course) → pieces_of ms (m +ℤ pos 1) n ≡ u → cons_if o u ≡ Some ps → ((p : GrossPiece) → piece_of ms m ≡ Some p → Flat p) → ((qs : List GrossPiece) → pieces_of ms (m +ℤ pos 1) n ≡ Some qs → (length qs ≡ n) × AllByRecursion Flat qs) → (length ps ≡ suc n) × AllByRecursion Flat ps
      by None a u b c one more = absurd (cc)
      by (Some p) a None b c one more = absurd (cc)
      by (Some p) a (Some qs) b c one more =
          let is : (p ∷ qs) ≡ ps = cc in
          let rest = more qs b in
          let P : List GrossPiece → Type 0 = λ l. (length l ≡ suc n) × AllByRecursion Flat l in
          subst P is (ap suc rest.0, (one p a, rest.1))

  -- from a recorded minute up to another, every minute has a piece
  module _ (a b : ℤ) (i j : ℕ) (x y : Minute) (from : slice_get (through number a ms) i ≡ Some x) (to : slice_get (onward number b ms) j ≡ Some y) where
    pub pieces_some : (n : ℕ) (m : ℤ) → a ≤ℤ m → (m +ℤ pos n) ≤ℤ b → (ps : List GrossPiece) × (pieces_of ms m n ≡ Some ps)
    pieces_some zero m l h = ([], refl)
    pieces_some (suc n) m l h =
        let before = through_some number ms a m i x l from in
        let after = onward_some number ms m b j y (omega (arith, ints)) to in
        let p = piece_some m before.0 after.0 before.1 after.1 in
        let ps = pieces_some n (m +ℤ pos 1) (omega (arith, ints)) (omega (arith, ints)) in
        (p.0 ∷ ps.0, ap (λ o. cons_if o (pieces_of ms (m +ℤ pos 1) n)) p.1 ∙ ap (cons_if (Some p.0)) ps.1)

-- ---- covered periods
pub record Covering (ms : List Minute) (t : ℤ) : Type 0 where
  pub period : is_period periods t ≡ true
  pub before : 1 ≤ length (through number (first_minute t) ms)
  pub after : 2 ≤ length (onward number (next_minute t) ms)

pub cover_parts : (ms : List Minute) (t : ℤ) → minutes_cover ms t ≡ true → Covering ms t
cover_parts ms t h = record { period = grind (arith, ints); before = grind (arith, ints); after = grind (arith, ints) }

pub first_some : {E : Type 0} (es : List E) (d : E) → 0 < length es → first es ≡ Some (slice_index_or es 0 d)
first_some es d h = slice_get-get_or es 0 d h

-- every covered period has its pieces
pub covered_some : (ms : List Minute) (t : ℤ) → Sampled ms → minutes_cover ms t ≡ true → (ps : List GrossPiece) × (pieces_of ms (first_minute t) period_minutes ≡ Some ps)
covered_some ms t good h =
    let c = cover_parts ms t h in
    let a = first_minute t in
    let b = next_minute t in
    let from = last_some (through number a ms) no_minute c.before in
    let to = first_some (onward number b ms) no_minute (omega (arith, c.after)) in
    pieces_some ms good a b (length (through number a ms) - 1) 0 (slice_index_or (through number a ms) (length (through number a ms) - 1) no_minute) (slice_index_or (onward number b ms) 0 no_minute) from to period_minutes a (omega (arith, ints)) (omega (arith, ints))

-- ---- the laws
lawful_piece : (p : GrossPiece) → Flat p → LawfulPiece p
lawful_piece p f = record { lasts = omega (arith, f.width); from = f.bounds; to = rw (sym f.level) f.bounds }

flat_lawful : (ps : List GrossPiece) → AllByRecursion Flat ps → AllByRecursion LawfulPiece ps
flat_lawful ps a = All-weaker Flat LawfulPiece lawful_piece ps a

flat_widths : (ps : List GrossPiece) → AllByRecursion Flat ps → sum_by (λ z. z.width) ps ≡ 60 * length ps
flat_widths [] a = refl
flat_widths (p ∷ ps) (f, a) = omega (arith, sum_by-cons (λ z. z.width) p ps, flat_widths ps a, f.width)

flat_equal : (ps : List GrossPiece) → AllByRecursion Flat ps → count_by sloped ps ≡ 0
flat_equal [] a = refl
flat_equal (p ∷ ps) (f, a) =
    let same : sloped p ≡ false = ap not (int_eq-same p.start p.end f.level) in
    sum_by-cons (λ z. cond (sloped z) 1 0) p ps ∙ rw (same, flat_equal ps a) refl

pub minute_lawful : (ms : List Minute) (t : ℤ) → Sampled ms → LawfulIf 0 (minute_course ms t)
minute_lawful ms t good = by (minutes_cover ms t) refl
  where
    lawful : (o : Course) → pieces_of ms (first_minute t) period_minutes ≡ o → LawfulIf 0 o
    lawful None e = tt
    lawful (Some ps) e =
        let f = pieces_flat ms good (first_minute t) period_minutes ps e in
        record { some = omega (arith, f.0); few = omega (arith, f.0); pieces = flat_lawful ps f.1; whole = omega (arith, f.0, flat_widths ps f.1); slopes = omega (arith, flat_equal ps f.1) }

    by : (v : Bool) → minutes_cover ms t ≡ v → LawfulIf 0 (minute_course ms t)
    by true e = rw e (lawful (pieces_of ms (first_minute t) period_minutes) refl)
    by false e = rw e tt

pub minute_outside : (ms : List Minute) (t : ℤ) → is_period periods t ≡ false → minute_course ms t ≡ None
minute_outside ms t e = rw e refl
