-- Powers and widths of bounded samples, as the code casts them. Assumes nothing.
use Rattle.std.proofs.Common.{◌≡◌, ◌<◌, ◌≤◌, true, ℤ, pos, ◌-ℤ◌, ◌≤ℤ◌, ◌<ℤ◌, Some, refl, arith, w32, w64, to_z, of_z}
use Rattle.std.proofs.lemmas.Int.{ints}
use Rattle.std.proofs.lemmas.Bool.{lt-ltb, le-leb}
use Rattle.arith.specs.Interpolation.{interpolated, interpolation}
use Rattle.power.specs.declared.sample.Sample.{Sample}
use Rattle.power.specs.Day.{periods, is_instant, gross_bounds}
use Rattle.power.specs.Taking.{is_bounded}
use Rattle.trace_record.specs.Trace.{seconds}
use Rattle.trace_record.specs.Laws.{bounded_instant, bounded_power}

pub power_code : (p : ℤ) → gross_bounds p ≡ true → to_z w32 (of_z w32 (to_z w64 (of_z w64 p))) ≡ p
power_code p e = grind (arith, ints)

module _ (a b : ℤ) (day-a : is_instant periods a ≡ true) (day-b : is_instant periods b ≡ true) (later : a ≤ℤ b) where
  pub span_code : to_z w64 (of_z w64 (to_z w64 (of_z w64 b) -ℤ to_z w64 (of_z w64 a))) ≡ pos (seconds a b)
  span_code = grind (arith, ints)

  pub narrow_span_code : to_z w32 (of_z w32 (to_z w64 (of_z w64 (to_z w64 (of_z w64 b) -ℤ to_z w64 (of_z w64 a))))) ≡ pos (seconds a b)
  narrow_span_code = grind (arith, ints)

pub line_code : (x y : Sample) (i : ℤ) → is_bounded x ≡ true → is_bounded y ≡ true → x.instant <ℤ i → i ≤ℤ y.instant
    → interpolation (to_z w32 (of_z w32 (to_z w64 (of_z w64 x.power)))) (to_z w32 (of_z w32 (to_z w64 (of_z w64 y.power))))
    (to_z w32 (of_z w32 (to_z w64 (of_z w64 (to_z w64 (of_z w64 i) -ℤ to_z w64 (of_z w64 x.instant))))))
    (to_z w32 (of_z w32 (to_z w64 (of_z w64 (to_z w64 (of_z w64 y.instant) -ℤ to_z w64 (of_z w64 x.instant))))))
    ≡ Some (interpolated x.power y.power (seconds x.instant i) (seconds x.instant y.instant))
line_code x y i fx fy less le =
    let day-x = bounded_instant x fx in
    let day-y = bounded_instant y fy in
    let step : to_z w32 (of_z w32 (to_z w64 (of_z w64 (to_z w64 (of_z w64 i) -ℤ to_z w64 (of_z w64 x.instant))))) ≡ pos (seconds x.instant i) = grind (arith, ints) in
    let span = narrow_span_code x.instant y.instant day-x day-y (omega (arith, ints)) in
    let some : 0 < seconds x.instant y.instant = omega (arith, ints) in
    let within : seconds x.instant i ≤ seconds x.instant y.instant = omega (arith, ints) in
    rw (power_code x.power (bounded_power x fx), power_code y.power (bounded_power y fy), step, span, lt-ltb 0 (seconds x.instant y.instant) some, le-leb (seconds x.instant i) (seconds x.instant y.instant) within) refl
