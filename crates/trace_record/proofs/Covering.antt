-- A period has a course just where the rule says that it is covered. Assumes nothing.
use Rattle.std.proofs.Common.{◌≡◌, ℕ, Bool, true, false, ◌&&◌, List, ℤ, ◌<ℤ◌, is_some, Some, None, Option, refl, arith}
use Rattle.std.proofs.lemmas.Int.{ints}
use Rattle.keyed_log.specs.Entries.{first, last, through, onward, between}
use Rattle.keyed_log.proofs.Finds.{onward_some, through_some}
use Rattle.power.specs.declared.sample.Sample.{Sample}
use Rattle.power.specs.Day.{periods, is_period, start_of, end_of}
use Rattle.trace_record.specs.Trace.{instant, boundary_if, joined_if, points_between, pieces_if, trace_course, trace_covers}

module _ (critical : ℕ) (ss : List Sample) (a b : ℤ) (apart : a <ℤ b) where
  between_covered : is_some (pieces_if critical (points_between ss a b)) ≡ (is_some (last (through instant a ss)) && is_some (first (onward instant b ss)))
  between_covered = by (last (through instant a ss)) refl (first (onward instant a ss)) refl (last (through instant b ss)) refl (first (onward instant b ss)) refl
    where
      none_some : (x : Sample) → None ≡ Some x → ⊥
      none_some x e = let z : ◌≡◌ {A = ℕ} 0 1 = cc in omega arith

      no_onward : (y : Sample) → first (onward instant a ss) ≡ None → first (onward instant b ss) ≡ Some y → ⊥
      no_onward y f f' = let s = onward_some instant ss a b 0 y (omega (arith, ints)) f' in none_some s.0 (cc s.1)

      no_through : (x : Sample) → last (through instant a ss) ≡ Some x → last (through instant b ss) ≡ None → ⊥
      no_through x e e' = let s = through_some instant ss a b _ x (omega (arith, ints)) e in none_some s.0 (cc s.1)

      by : (o : Option Sample) → last (through instant a ss) ≡ o → (u : Option Sample) → first (onward instant a ss) ≡ u → (o' : Option Sample) → last (through instant b ss) ≡ o' → (u' : Option Sample) → first (onward instant b ss) ≡ u'
          → is_some (pieces_if critical (joined_if (boundary_if a o u) (between instant a b ss) (boundary_if b o' u'))) ≡ (is_some o && is_some u')
      by None e u f o' e' u' f' = refl
      by (Some x) e None f o' e' None f' = refl
      by (Some x) e None f o' e' (Some y') f' = absurd (no_onward y' f f')
      by (Some x) e (Some y) f None e' u' f' = absurd (no_through x e e')
      by (Some x) e (Some y) f (Some x') e' None f' = refl
      by (Some x) e (Some y) f (Some x') e' (Some y') f' = refl

pub course_covered : (critical : ℕ) (ss : List Sample) (t : ℤ) → is_some (trace_course critical ss t) ≡ trace_covers ss t
course_covered critical ss t = by (is_period periods t) refl
  where
    by : (v : Bool) → is_period periods t ≡ v → is_some (trace_course critical ss t) ≡ trace_covers ss t
    by true e = rw e (between_covered critical ss (start_of t) (end_of t) (omega (arith, ints)))
    by false e = rw e refl
