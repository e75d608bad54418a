use Rattle.std.proofs.Common.{refl, arith}
use Rattle.std.proofs.lemmas.Int.{ints}
use Rattle.trace_record.specs.Laws.{bounded_instant, bounded_power}
use Rattle.trace_record.proofs.Casts.{power_code, span_code}
use Rattle.trace_record.proofs.line.Line.piece.Goals as goal

pub returns : goal.returns
returns c =
    let l = c.args.self in
    let width = span_code l.from.instant l.to.instant (bounded_instant l.from l.starts) (bounded_instant l.to l.ends) (omega (arith, ints, c.requires.climbs)) in
    rw (c.counts.ensures, power_code l.from.power (bounded_power l.from l.starts), power_code l.to.power (bounded_power l.to l.ends), width) refl
