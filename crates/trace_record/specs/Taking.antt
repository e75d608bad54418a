-- What taking a sample answers and leaves. Assumes nothing.
use Rattle.std.specs.Prelude.{ℕ, min, max, List, ℤ, pos, negsuc}
use Rattle.keyed_log.specs.Writing.{appending}
use Rattle.power.specs.declared.sample.Sample.{Sample}
use Rattle.power.specs.Taking.{Answer, judging, and_then, of_log}
use Rattle.trace_record.specs.Trace.{instant}

-- a critical time below 1 s is used as 1, one above 900 s as 900
abbrev pub critical_time : ℤ → ℕ
critical_time (pos n) = max 1 (min n 900)
critical_time (negsuc n) = 1

-- taking s after the samples ss, in memory for `room` samples
abbrev pub taking : List Sample → ℕ → Sample → Answer
taking ss room s = and_then (judging s) (of_log (appending instant ss room s))
