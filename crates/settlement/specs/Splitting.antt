-- The split of the instructed energy into direct, scheduled and other. Assumes nothing.
use Rattle.std.specs.Prelude.{ℕ, suc, ◌+◌, ◌*◌, ◌/◌, cond, ℤ, pos, negsuc, ◌-ℤ◌, neg_ℤ, ◌==◌, unsigned_abs}
use Rattle.settlement.specs.declared.instruction.Instruction.{Instruction}
use Rattle.settlement.specs.declared.split.Parts.{Parts}

-- |d| × weight / weights rounded down, with the sign of d
abbrev pub share : ℤ → ℕ → ℕ → ℤ
share (pos d) weight weights = pos (d * weight / weights)
share (negsuc d) weight weights = neg_ℤ (pos (suc d * weight / weights))

-- d by the weights: scheduled takes what direct leaves, and without weights all is other
abbrev pub split : ℤ → ℕ → ℕ → Parts
split d direct scheduled =
    cond (direct + scheduled == 0)
    (record { direct = pos 0; scheduled = pos 0; other = d })
    (record { direct = share d direct (direct + scheduled); scheduled = d -ℤ share d direct (direct + scheduled); other = pos 0 })

-- the instructed energy over the market schedule
abbrev pub surplus : Instruction → ℤ
surplus x = x.instructed -ℤ x.market_schedule

abbrev pub parts_of : Instruction → Parts
parts_of x = split (surplus x) (unsigned_abs x.direct_weight) (unsigned_abs x.scheduled_weight)
