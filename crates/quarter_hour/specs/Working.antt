-- The minute method: a flat piece of 60 s that counts for each minute, held against a printed table. Assumes nothing.
use Rattle.std.specs.Prelude.{ℕ, ◌*◌, Bool, true, ◌&&◌, ℤ, pos, ◌-ℤ◌, nat_le, unsigned_abs}
use Rattle.settlement.specs.Areas.{signed}
use Rattle.settlement.specs.Certifying.{certified}
use Rattle.settlement.specs.Pieces.{piece_areas}
use Rattle.settlement.specs.declared.area.Areas.{Areas}
use Rattle.quarter_hour.specs.declared.minute.PrintedMinute.{PrintedMinute}
use Rattle.quarter_hour.specs.declared.minute.WorkedMinute.{WorkedMinute}

abbrev pub energy : PrintedMinute → ℤ
energy m = signed m.net.kilowatts m.net.kilowatts 60

-- an area in halves is at most 1 kWh from a printed energy in kWh
abbrev pub agrees : ℤ → ℕ → Bool
agrees area printed = nat_le (unsigned_abs (area -ℤ pos (7200 * printed))) 7200

-- N is the net sum, A the certified sum, Q the level
module _ (N : ℕ) (A Q : ℤ) where
  abbrev pub minute_areas : PrintedMinute → Areas
  minute_areas m = piece_areas N A Q m.net.kilowatts m.net.kilowatts 60 true

  abbrev pub upward_of : PrintedMinute → ℤ
  upward_of m = (minute_areas m).upward

  abbrev pub downward_of : PrintedMinute → ℤ
  downward_of m = (minute_areas m).downward

  abbrev pub worked : PrintedMinute → WorkedMinute
  worked m = record {
    certified = certified N A m.net.kilowatts;
    areas = minute_areas m;
    agrees = agrees (upward_of m) m.upward && agrees (downward_of m) m.downward;
  }
