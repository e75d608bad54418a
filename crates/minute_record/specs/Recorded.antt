-- What recorded minutes have of the samples taken. Assumes nothing.
use Rattle.std.specs.Prelude.{◌≡◌, ◌≤◌, Bool, true, ◌&&◌, List, [], ◌∷◌, length, ℤ, filter}
use Rattle.std.specs.List.{AllByRecursion}
use Rattle.arith.specs.Ranges.{int_eq}
use Rattle.arith.specs.Sums.{int_sum}
use Rattle.power.specs.declared.sample.Sample.{Sample}
use Rattle.minute_record.specs.declared.minute.Minute.{Minute}
use Rattle.minute_record.specs.Minutes.{minute_of}

-- the samples of minute m
abbrev pub of_minute : ℤ → List Sample → List Sample
of_minute m ss = filter (λ s. int_eq (minute_of s.instant) m) ss

-- every one of the samples has its flag set
abbrev pub all_set : List Sample → Bool
all_set [] = true
all_set (s ∷ ss) = s.flag && all_set ss

-- e has the sum, the number and the joined flags of its minute's samples, and there is one
pub record Sums (ss : List Sample) (e : Minute) : Type 0 where
  pub some : 1 ≤ e.count
  pub sum : e.sum ≡ int_sum (λ s. s.power) (of_minute e.minute ss)
  pub count : e.count ≡ length (of_minute e.minute ss)
  pub flag : e.flag ≡ all_set (of_minute e.minute ss)

-- minute m has an entry
abbrev pub HasEntry : List Minute → ℤ → Type 0
HasEntry ms m = 1 ≤ length (filter (λ e. int_eq e.minute m) ms)

-- ms are the recorded minutes of the samples ss
pub record Recorded (ss : List Sample) (ms : List Minute) : Type 0 where
  pub entries : AllByRecursion (Sums ss) ms
  pub minutes : AllByRecursion (λ s. HasEntry ms (minute_of s.instant)) ss
