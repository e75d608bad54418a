-- Recorded minutes of one sample more. Assumes nothing.
use Rattle.std.proofs.Common.{◌≡◌, ◌+◌, Bool, true, false, ◌&&◌, List, [], ◌∷◌, ◌++◌, length, ℤ, pos, ◌+ℤ◌, ◌<ℤ◌, Ok, filter, Option, sym, refl, ap, ◌∙◌, subst, inl, inr, arith, length-append}
use Rattle.std.specs.List.{AllByRecursion}
use Rattle.std.proofs.Math.Bool.{and-true, and_assoc}
use Rattle.std.proofs.lemmas.List.Elements.{filter-append}
use Rattle.std.proofs.ByRecursion.{All-push, All-weaker}
use Rattle.std.proofs.lemmas.List.{length_push}
use Rattle.std.proofs.lemmas.Int.{ints}
use Rattle.arith.specs.Ranges.{int_eq}
use Rattle.arith.specs.Sums.{int_sum}
use Rattle.arith.proofs.Orders.{int_eq-same, ne_int_eq}
use Rattle.arith.proofs.Sums.{int_sum_push}
use Rattle.keyed_log.specs.Entries.{Rising, last}
use Rattle.keyed_log.proofs.Finds.{kept_not, kept_too}
use Rattle.power.specs.declared.sample.Sample.{Sample}
use Rattle.minute_record.specs.declared.minute.Minute.{Minute}
use Rattle.minute_record.specs.Minutes.{number, minute_of, is_recent}
use Rattle.minute_record.specs.Taking.{is_later, grown, begun, entered}
use Rattle.minute_record.specs.Recorded.{of_minute, all_set, Sums, HasEntry, Recorded}
use Rattle.minute_record.proofs.Entered.{Way, ways}
use Rattle.minute_record.proofs.Fronts.{all_front, kept_nothing}

-- ---- lists
all_set_push : (ss : List Sample) (s : Sample) → all_set (ss ++ s ∷ []) ≡ (all_set ss && s.flag)
all_set_push [] s = and-true s.flag
all_set_push (x ∷ ss) s = ap (λ b. x.flag && b) (all_set_push ss s) ∙ sym (and_assoc x.flag (all_set ss) s.flag)

-- ---- one sample more
module _ (ss : List Sample) (s : Sample) where
  -- leaves the entries of other minutes
  other_sums : (x : Minute) → (minute_of s.instant ≡ x.minute → ⊥) → Sums ss x → Sums (ss ++ s ∷ []) x
  other_sums x apart r =
      let alike : of_minute x.minute (ss ++ s ∷ []) ≡ of_minute x.minute ss = kept_not (λ y. int_eq (minute_of y.instant) x.minute) ss s (ne_int_eq (minute_of s.instant) x.minute apart) in
      record {
        some = r.some;
        sum = r.sum ∙ sym (ap (int_sum (λ y. y.power)) alike);
        count = r.count ∙ sym (ap length alike);
        flag = r.flag ∙ sym (ap all_set alike);
      }

  others : (xs : List Minute) (m : ℤ) → m ≡ minute_of s.instant → AllByRecursion (λ x. number x <ℤ m) xs → AllByRecursion (Sums ss) xs → AllByRecursion (Sums (ss ++ s ∷ [])) xs
  others [] m e l a = tt
  others (x ∷ xs) m e (l, ls) (r, a) = (other_sums x (λ h. apart (e ∙ h)) r, others xs m e ls a)
    where
      apart : m ≡ x.minute → ⊥
      apart h = omega (arith, ints)

  -- is added to the entry of its own
  grown_sums : (e : Minute) → e.minute ≡ minute_of s.instant → Sums ss e → Sums (ss ++ s ∷ []) (grown e s)
  grown_sums e own r =
      let old = of_minute e.minute ss in
      let more : of_minute e.minute (ss ++ s ∷ []) ≡ old ++ s ∷ [] = kept_too (λ y. int_eq (minute_of y.instant) e.minute) ss s (int_eq-same (minute_of s.instant) e.minute (sym own)) in
      record {
        some = omega arith;
        sum = ap (λ z. z +ℤ s.power) r.sum ∙ sym (int_sum_push (λ y. y.power) old s) ∙ sym (ap (int_sum (λ y. y.power)) more);
        count = ap (λ n. n + 1) r.count ∙ sym (length_push old s) ∙ sym (ap length more);
        flag = ap (λ b. b && s.flag) r.flag ∙ sym (all_set_push old s) ∙ sym (ap all_set more);
      }

  -- or is the one sample of a new entry
  begun_sums : of_minute (minute_of s.instant) ss ≡ [] → Sums (ss ++ s ∷ []) (begun s)
  begun_sums none =
      let m = minute_of s.instant in
      let one : of_minute m (ss ++ s ∷ []) ≡ s ∷ [] = kept_too (λ y. int_eq (minute_of y.instant) m) ss s (int_eq-same m m refl) ∙ ap (λ l. l ++ s ∷ []) none in
      record {
        some = omega arith;
        sum = alone s.power ∙ sym (ap (int_sum (λ y. y.power)) one);
        count = sym (ap length one);
        flag = sym (ap all_set one ∙ all_set_push [] s);
      }
    where
      alone : (z : ℤ) → z ≡ z +ℤ pos 0
      alone z = omega (arith, ints)

-- ---- every sample's minute has an entry
entry_more : (ms : List Minute) (x : Minute) (m : ℤ) → HasEntry ms m → HasEntry (ms ++ x ∷ []) m
entry_more ms x m h =
    let test : Minute → Bool = λ e. int_eq e.minute m in
    let parts = ap length (filter-append test ms (x ∷ [])) ∙ length-append (filter test ms) (filter test (x ∷ [])) in
    omega (arith, parts)

entry_own : (ms : List Minute) (x : Minute) (m : ℤ) → x.minute ≡ m → HasEntry (ms ++ x ∷ []) m
entry_own ms x m e =
    let test : Minute → Bool = λ y. int_eq y.minute m in
    let parts = ap length (kept_too test ms x (int_eq-same x.minute m e)) ∙ length_push (filter test ms) x in
    omega (arith, parts)

-- the last entry replaced by one of the same minute
entry_swap : (ms : List Minute) (x y : Minute) (m : ℤ) → y.minute ≡ x.minute → HasEntry (ms ++ x ∷ []) m → HasEntry (ms ++ y ∷ []) m
entry_swap ms x y m e h =
    let test : Minute → Bool = λ z. int_eq z.minute m in
    let old = ap length (filter-append test ms (x ∷ [])) ∙ length-append (filter test ms) (filter test (x ∷ [])) in
    let new = ap length (filter-append test ms (y ∷ [])) ∙ length-append (filter test ms) (filter test (y ∷ [])) in
    let same : length (filter test (y ∷ [])) ≡ length (filter test (x ∷ [])) = grind (arith, ints, e) in
    omega (arith, old, new, same, h)

-- where every entry is earlier than m, no sample is of m
no_sample : (ss : List Sample) (ms : List Minute) (m : ℤ) → AllByRecursion (λ x. number x <ℤ m) ms → AllByRecursion (λ s. HasEntry ms (minute_of s.instant)) ss → of_minute m ss ≡ []
no_sample ss ms m earlier has = kept_nothing (λ s. int_eq (minute_of s.instant) m) ss (All-weaker (λ s. HasEntry ms (minute_of s.instant)) (λ s. int_eq (minute_of s.instant) m ≡ false) each ss has)
  where
    below : (e : Minute) → number e <ℤ m → int_eq e.minute m ≡ false
    below e l = ne_int_eq e.minute m (λ h. omega (arith, ints))

    none : filter (λ e. int_eq e.minute m) ms ≡ []
    none = kept_nothing (λ e. int_eq e.minute m) ms (All-weaker (λ e. number e <ℤ m) (λ e. int_eq e.minute m ≡ false) below ms earlier)

    each : (s : Sample) → HasEntry ms (minute_of s.instant) → int_eq (minute_of s.instant) m ≡ false
    each s h = ne_int_eq (minute_of s.instant) m (λ e. let here : HasEntry ms m = rw e at h in omega (arith, ap length none, here))

-- ---- an accepted sample
pub recorded_after : (latest : Option ℤ) (ms : List Minute) (s : Sample) → Rising number ms → is_recent latest (last ms) ≡ true → is_later latest s.instant ≡ true → (ss : List Sample) → Recorded ss ms → Recorded (ss ++ s ∷ []) (entered (Ok tt) ms s)
recorded_after latest ms s rising near after ss r = by (ways latest ms s rising near after)
  where
    by : Way ms s → Recorded (ss ++ s ∷ []) (entered (Ok tt) ms s)
    by (inl w) =
        let e = w.e in
        let new = w.front ++ grown e s ∷ [] in
        let old : AllByRecursion (Sums ss) (w.front ++ e ∷ []) = subst (AllByRecursion (Sums ss)) w.was r.entries in
        let parts = all_front (Sums ss) w.front e old in
        let front = others ss s w.front e.minute w.of_it w.earlier parts.0 in
        let own = grown_sums ss s e w.of_it parts.1 in
        let has = All-weaker (λ x. HasEntry ms (minute_of x.instant)) (λ x. HasEntry new (minute_of x.instant)) (λ x h. entry_swap w.front e (grown e s) (minute_of x.instant) refl (subst (λ l. HasEntry l (minute_of x.instant)) w.was h)) ss r.minutes in
        rw w.is (record {
          entries = All-push (Sums (ss ++ s ∷ [])) w.front (grown e s) front own;
          minutes = All-push (λ x. HasEntry new (minute_of x.instant)) ss s has (entry_own w.front (grown e s) (minute_of s.instant) w.of_it);
        })
    by (inr w) =
        let new = ms ++ begun s ∷ [] in
        let front = others ss s ms (minute_of s.instant) refl w.earlier r.entries in
        let own = begun_sums ss s (no_sample ss ms (minute_of s.instant) w.earlier r.minutes) in
        let has = All-weaker (λ x. HasEntry ms (minute_of x.instant)) (λ x. HasEntry new (minute_of x.instant)) (λ x h. entry_more ms (begun s) (minute_of x.instant) h) ss r.minutes in
        rw w.is (record {
          entries = All-push (Sums (ss ++ s ∷ [])) ms (begun s) front own;
          minutes = All-push (λ x. HasEntry new (minute_of x.instant)) ss s has (entry_own ms (begun s) (minute_of s.instant) refl);
        })
