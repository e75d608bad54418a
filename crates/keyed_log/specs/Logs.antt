-- What a log holds. Assumes nothing.
use Rattle.std.specs.Prelude.{List, take}
use Rattle.keyed_log.specs.declared.keyed.Keyed.{Ghosts}
use Rattle.keyed_log.specs.declared.log.Log.{Log}

-- its entries
abbrev pub held : {E : Type 0} {G : Ghosts E} → Log E G → List E
held l = take l.used l.slots.now

-- all the borrowed slots, used or not
abbrev pub memory : {E : Type 0} {G : Ghosts E} → Log E G → List E
memory l = l.slots.now
