-- Laws of the split. Assumes nothing.
use Rattle.std.proofs.Common.{◌≡◌, ℕ, ◌+◌, ◌<◌, Bool, true, false, cond, eqb, ℤ, pos, ◌+ℤ◌, ◌-ℤ◌, refl, arith}
use Rattle.std.proofs.lemmas.Int.{ints}
use Rattle.std.proofs.lemmas.Bool.{ne_eqb}
use Rattle.settlement.specs.declared.split.Parts.{Parts}
use Rattle.settlement.specs.Splitting.{share, split}

-- scheduled takes what direct leaves
pub shared : (d : ℤ) (n m v : ℕ) → 0 < v → n + m ≡ v → ◌≡◌ {A = Parts} (record { direct = share d n v; scheduled = d -ℤ share d n v; other = pos 0 }) (split d n m)
shared d n m v some e = rw (e, ne_eqb v 0 (omega arith)) refl

-- the parts add up to what is split
pub parts_sum : (d : ℤ) (n m : ℕ) → (split d n m).direct +ℤ (split d n m).scheduled +ℤ (split d n m).other ≡ d
parts_sum d n m = by (eqb (n + m) 0)
  where
    alone : (z : ℤ) → pos 0 +ℤ pos 0 +ℤ z ≡ z
    alone z = omega (arith, ints)

    added : (z r : ℤ) → r +ℤ (z -ℤ r) +ℤ pos 0 ≡ z
    added z r = omega (arith, ints)

    parts : Bool → Parts
    parts t = cond t (record { direct = pos 0; scheduled = pos 0; other = d }) (record { direct = share d n (n + m); scheduled = d -ℤ share d n (n + m); other = pos 0 })

    by : (t : Bool) → (parts t).direct +ℤ (parts t).scheduled +ℤ (parts t).other ≡ d
    by true = alone d
    by false = added d (share d n (n + m))
