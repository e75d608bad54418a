-- What an accepted sample leaves recorded. Assumes nothing.
use Rattle.std.proofs.Common.{◌≡◌, ◌-◌, ◌*◌, ◌≤◌, Bool, true, false, cond, ltb, ◌⊎◌, List, [], ◌∷◌, ◌++◌, length, take, set, ℤ, pos, ◌+ℤ◌, ◌*ℤ◌, neg_ℤ, nat_abs, ◌≤ℤ◌, ◌<ℤ◌, Some, None, Ok, Err, Option, sym, refl, ap, ◌∙◌, subst, inl, inr, arith}
use Rattle.std.specs.List.{AllByRecursion}
use Rattle.std.proofs.ByRecursion.{All-get_or, All-push}
use Rattle.std.proofs.lemmas.List.{take_all}
use Rattle.std.proofs.lemmas.Int.{ints}
use Rattle.arith.proofs.Floors.{floor_is}
use Rattle.arith.proofs.Orders.{lt_int_lt, int_lt-true, int_eq-true, int_eq-false, range_in, range_out, strictly}
use Rattle.keyed_log.specs.Entries.{Rising, last}
use Rattle.keyed_log.specs.Writing.{later, appending}
use Rattle.keyed_log.proofs.Finds.{nth_all, nth_here, all_earlier}
use Rattle.keyed_log.specs.declared.refusal.Refusal.TheVariants.{Full as LogFull}
use Rattle.power.specs.declared.refusal.Refusal.TheVariants.{Full}
use Rattle.power.specs.declared.sample.Sample.{Sample}
use Rattle.power.specs.Day.{periods, is_instant}
use Rattle.power.specs.Taking.{Answer, judging, of_log}
use Rattle.power.proofs.Judging.{Judged}
use Rattle.minute_record.specs.declared.minute.Minute.{Minute}
use Rattle.minute_record.specs.Minutes.{number, minute_of, is_minute, is_sampled, Sampled, Growing, is_recent}
use Rattle.minute_record.specs.MinuteLaws.{all_sampled, sampled_parts}
use Rattle.minute_record.specs.Taking.{is_later, grows, grown, begun, entry_with, entering, taking, entered, written}
use Rattle.minute_record.proofs.Fronts.{all_front, split-last, set_last, last_push, front_earlier}

-- ---- instants and minutes
pub minute_bounds : (n : ℤ) → ((pos 60 *ℤ minute_of n) ≤ℤ n) × (n <ℤ (pos 60 *ℤ minute_of n +ℤ pos 60))
minute_bounds n = let f = floor_is n 60 (omega arith) in (omega (arith, ints, f.0, f.1), omega (arith, ints, f.0, f.1))

pub minute_day : (n : ℤ) → is_instant periods n ≡ true → is_minute (minute_of n) ≡ true
minute_day n h =
    let b = range_out (pos 0) (pos 88199) n h in
    let f = minute_bounds n in
    range_in (pos 0) (pos 1469) (minute_of n) (omega (arith, ints, b.0, b.1, f.0, f.1)) (omega (arith, ints, b.0, b.1, f.0, f.1))

pub record Recent (n : ℤ) (e : Minute) : Type 0 where
  pub day : is_instant periods n ≡ true
  pub in_it : minute_of n ≡ e.minute
  pub few : (pos 60 *ℤ e.minute +ℤ pos e.count) ≤ℤ (n +ℤ pos 1)

pub recent_parts : (n : ℤ) (e : Minute) → is_recent (Some n) (Some e) ≡ true → Recent n e
recent_parts n e h = record { day = grind (arith, ints); in_it = grind (arith, ints); few = grind (arith, ints) }

recent_from : (n : ℤ) (e : Minute) → Recent n e → is_recent (Some n) (Some e) ≡ true
recent_from n e r = grind (arith, ints, r.day, r.in_it, r.few)

-- a minute has at most 60 samples
pub few_samples : (n : ℤ) (e : Minute) → Recent n e → e.count ≤ 60
few_samples n e r = let f = minute_bounds n in omega (arith, ints, r.few, r.in_it, f.1)

-- the last entry can take one more sample
pub last_small : (latest : Option ℤ) (ms : List Minute) (e : Minute) → is_recent latest (last ms) ≡ true → Sampled ms → last ms ≡ Some e → Growing e
last_small latest ms e h good top = by latest (rw top at h)
  where
    by : (l : Option ℤ) → is_recent l (Some e) ≡ true → Growing e
    by None r = absurd (cc)
    by (Some n) r =
        let few = few_samples n e (recent_parts n e r) in
        let size = (sampled_parts e (nth_all (λ y. is_sampled y ≡ true) ms (length ms - 1) e top (all_sampled ms good))).size in
        (omega arith, few)

-- ---- the sample's entry
entry_begun : (o : Option Minute) (s : Sample) → grows o s.instant ≡ false → entry_with o s ≡ begun s
entry_begun None s g = refl
entry_begun (Some e) s g = rw g refl

entry_grown : (o : Option Minute) (s : Sample) → grows o s.instant ≡ true → (e : Minute) × (o ≡ Some e) × (e.minute ≡ minute_of s.instant) × (entry_with o s ≡ grown e s)
entry_grown None s g = absurd (cc)
entry_grown (Some e) s g = (e, refl, int_eq-true e.minute (minute_of s.instant) g, rw g refl)

-- a later instant of another minute is of a later one
begun-later : (latest : Option ℤ) (o : Option Minute) (s : Sample) → is_recent latest o ≡ true → is_later latest s.instant ≡ true → grows o s.instant ≡ false → later number o (begun s) ≡ true
begun-later None None s r a g = refl
begun-later (Some n) None s r a g = refl
begun-later None (Some e) s r a g = absurd (cc)
begun-later (Some n) (Some e) s r a g =
    let i = s.instant in
    let p = recent_parts n e r in
    let less = int_lt-true n i a in
    let low = (minute_bounds n).0 in
    let high = (minute_bounds i).1 in
    lt_int_lt e.minute (minute_of i) (strictly e.minute (minute_of i) (omega (arith, ints, less, low, high, p.in_it)) (int_eq-false e.minute (minute_of i) g))

-- ---- the two ways of an accepted sample
-- it is of the last recorded minute, behind `front`
pub record Grew (ms : List Minute) (s : Sample) : Type 0 where
  pub front : List Minute
  pub e : Minute
  pub top : last ms ≡ Some e
  pub was : ms ≡ front ++ e ∷ []
  pub of_it : e.minute ≡ minute_of s.instant
  pub is : entered (Ok tt) ms s ≡ front ++ grown e s ∷ []
  pub earlier : AllByRecursion (λ x. number x <ℤ number e) front

-- it is of a minute after all
pub record Began (ms : List Minute) (s : Sample) : Type 0 where
  pub is : entered (Ok tt) ms s ≡ ms ++ begun s ∷ []
  pub earlier : AllByRecursion (λ x. number x <ℤ minute_of s.instant) ms

abbrev pub Way : List Minute → Sample → Type 0
Way ms s = Grew ms s ⊎ Began ms s

pub ways : (latest : Option ℤ) (ms : List Minute) (s : Sample) → Rising number ms → is_recent latest (last ms) ≡ true → is_later latest s.instant ≡ true → Way ms s
ways latest ms s rising r a = by (grows (last ms) s.instant) refl
  where
    by : (v : Bool) → grows (last ms) s.instant ≡ v → Way ms s
    by true g =
        let w = entry_grown (last ms) s g in
        inl (record {
          front = take (length ms - 1) ms;
          e = w.0;
          top = w.1;
          was = split-last ms w.0 w.1;
          of_it = w.2;
          is = rw (g, w.3) refl;
          earlier = front_earlier number ms w.0 rising w.1;
        })
    by false g =
        let w = entry_begun (last ms) s g in
        inr (record {
          is = rw (g, w, take_all (length ms) ms (omega arith)) refl;
          earlier = all_earlier number ms (begun s) rising (begun-later latest (last ms) s r a g);
        })

-- ---- what the log makes of the sample's entry x is what taking says
pub record Placed (latest : Option ℤ) (ms : List Minute) (s : Sample) (old : List Minute) (a : Answer) (ms' new : List Minute) : Type 0 where
  pub answer : a ≡ taking latest ms (length old) s
  pub kept : ms' ≡ entered (Ok tt) ms s
  pub slots : new ≡ written (Ok tt) old ms s

module _ (latest : Option ℤ) (ms : List Minute) (s : Sample) (near : is_recent latest (last ms) ≡ true) (judged : Ok tt ≡ judging s) (after : is_later latest s.instant ≡ true) (old : List Minute) where
  taking_is : taking latest ms (length old) s ≡ entering ms (length old) s
  taking_is = rw (sym judged, after) refl

  pub replaced_last : (e x : Minute) → Some e ≡ last ms → grows (Some e) s.instant ≡ true → x ≡ grown e s → Placed latest ms s old (Ok tt) (set ms (length ms - 1) x) (set old (length ms - 1) x)
  replaced_last e x top g is =
      let here = nth_here ms (length ms - 1) e top in
      rw is (record {
        answer = sym (taking_is ∙ rw (sym top, g) refl);
        kept = rw (sym top, g) (set_last ms (grown e s) (omega (arith, here.0)));
        slots = rw (sym top, g) refl;
      })

  pub appended_new : (x : Minute) → grows (last ms) s.instant ≡ false → x ≡ begun s → Placed latest ms s old (of_log (appending number ms (length old) x)) (ms ++ x ∷ []) (set old (length ms) x)
  appended_new x g is =
      let entry = entry_begun (last ms) s g in
      rw is (record {
        answer = rw (begun-later latest (last ms) s near after g) (full_as (ltb (length ms) (length old)) ∙ sym (taking_is ∙ rw g refl));
        kept = rw (g, entry, take_all (length ms) ms (omega arith)) refl;
        slots = rw (g, entry) refl;
      })
    where
      full_as : (b : Bool) → of_log (cond b (Ok tt) (Err LogFull)) ≡ cond b (Ok tt) (Err Full)
      full_as true = refl
      full_as false = refl

-- ---- what stays true of the record
sampled_from : (e : Minute) → is_minute e.minute ≡ true → 1 ≤ e.count → nat_abs e.sum ≤ 1000000 * e.count → is_sampled e ≡ true
sampled_from e day some size = grind (arith, ints)

begun_sampled : (s : Sample) → Judged s → is_sampled (begun s) ≡ true
begun_sampled s j = let day = minute_day s.instant j.day in grind (arith, ints, day, j.bounds)

grown_sampled : (e : Minute) (s : Sample) → is_sampled e ≡ true → Judged s → is_sampled (grown e s) ≡ true
grown_sampled e s h j =
    let p = sampled_parts e h in
    let b = range_out (neg_ℤ (pos 1000000)) (pos 1000000) s.power j.bounds in
    sampled_from (grown e s) p.day (omega arith) (omega (arith, ints, b.0, b.1, p.size))

module _ (latest : Option ℤ) (ms : List Minute) (s : Sample) (rising : Rising number ms) (near : is_recent latest (last ms) ≡ true) (after : is_later latest s.instant ≡ true) (good : Sampled ms) (judged : Judged s) where
  pub sampled_after : Sampled (entered (Ok tt) ms s)
  sampled_after = by (ways latest ms s rising near after)
    where
      all : (xs : List Minute) → AllByRecursion (λ e. is_sampled e ≡ true) xs → Sampled xs
      all xs a i d l = All-get_or (λ e. is_sampled e ≡ true) xs i d l a

      by : Way ms s → Sampled (entered (Ok tt) ms s)
      by (inl w) =
          let own = nth_all (λ e. is_sampled e ≡ true) ms (length ms - 1) w.e w.top (all_sampled ms good) in
          let fronts = (all_front (λ e. is_sampled e ≡ true) w.front w.e (subst (AllByRecursion (λ e. is_sampled e ≡ true)) w.was (all_sampled ms good))).0 in
          rw w.is (all (w.front ++ grown w.e s ∷ []) (All-push (λ e. is_sampled e ≡ true) w.front (grown w.e s) fronts (grown_sampled w.e s own judged)))
      by (inr w) = rw w.is (all (ms ++ begun s ∷ []) (All-push (λ e. is_sampled e ≡ true) ms (begun s) (all_sampled ms good) (begun_sampled s judged)))

  pub recent_after : is_recent (Some s.instant) (last (entered (Ok tt) ms s)) ≡ true
  recent_after = by (ways latest ms s rising near after)
    where
      grew : (l : Option ℤ) (e : Minute) → is_recent l (Some e) ≡ true → is_later l s.instant ≡ true → e.minute ≡ minute_of s.instant → Recent s.instant (grown e s)
      grew None e r a of_it = absurd (cc)
      grew (Some n) e r a of_it =
          let p = recent_parts n e r in
          let less = int_lt-true n s.instant a in
          record { day = judged.day; in_it = sym of_it; few = omega (arith, ints, p.few, less) }

      by : Way ms s → is_recent (Some s.instant) (last (entered (Ok tt) ms s)) ≡ true
      by (inl w) =
          let top : last (entered (Ok tt) ms s) ≡ Some (grown w.e s) = ap last w.is ∙ last_push w.front (grown w.e s) in
          let before : is_recent latest (Some w.e) ≡ true = subst (λ o. is_recent latest o ≡ true) w.top near in
          ap (is_recent (Some s.instant)) top ∙ recent_from s.instant (grown w.e s) (grew latest w.e before after w.of_it)
      by (inr w) =
          let top : last (entered (Ok tt) ms s) ≡ Some (begun s) = ap last w.is ∙ last_push ms (begun s) in
          let low = (minute_bounds s.instant).0 in
          ap (is_recent (Some s.instant)) top ∙ recent_from s.instant (begun s) (record { day = judged.day; in_it = refl; few = omega (arith, ints, low) })
