-- What filing a number answers, and the level of an instruction. Assumes nothing.
use Rattle.std.specs.Prelude.{◌≡◌, false, ℤ, pos, ◌*ℤ◌, Some, None, Ok, Err, Option, Result}
use Rattle.settlement.specs.Bounds.{net_power_bounds, energy_bounds, meter_bounds, instruction_bounds}
use Rattle.settlement.specs.declared.refusal.Refusal.{Refusal}
use Rattle.settlement.specs.declared.refusal.Refusal.TheVariants.{OutOfBounds}
use Rattle.settlement.specs.declared.powers.NetPower.{NetPower}
use Rattle.settlement.specs.declared.powers.Level.{Level}
use Rattle.settlement.specs.declared.metered.Metered.{Metered}
use Rattle.settlement.specs.declared.instruction.Instruction.{Instruction}

-- the instructed level: an energy in kWh over a quarter of an hour, as a power in kW
abbrev pub level : ℤ → ℤ
level instructed = pos 4 *ℤ instructed

-- the number itself where it is in bounds, else none
abbrev pub NetPowerOf : ℤ → Option NetPower → Type 0
NetPowerOf kw None = net_power_bounds kw ≡ false
NetPowerOf kw (Some p) = p.kilowatts ≡ kw

-- the level of the energy where that is in bounds, else refused
abbrev pub LevelOf : ℤ → Result Level Refusal → Type 0
LevelOf instructed (Ok q) = q.kilowatts ≡ level instructed
LevelOf instructed (Err e) = (e ≡ OutOfBounds) × (energy_bounds instructed ≡ false)

-- the number itself where it is in bounds, else refused
abbrev pub Metering : ℤ → Result Metered Refusal → Type 0
Metering mq (Ok m) = m.kilowatt_hours ≡ mq
Metering mq (Err e) = (e ≡ OutOfBounds) × (meter_bounds mq ≡ false)

-- the four numbers themselves where all are in bounds, else refused
abbrev pub Instructing : (instructed schedule direct scheduled : ℤ) → Result Instruction Refusal → Type 0
Instructing instructed schedule direct scheduled (Ok x) =
    (x.instructed ≡ instructed) × (x.market_schedule ≡ schedule) × (x.direct_weight ≡ direct) × (x.scheduled_weight ≡ scheduled)
Instructing instructed schedule direct scheduled (Err e) = (e ≡ OutOfBounds) × (instruction_bounds instructed schedule direct scheduled ≡ false)
