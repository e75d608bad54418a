use Rattle.std.proofs.Common.{◌≡◌, is_some, Some, sym, ap, ◌∙◌, arith}
use Rattle.std.proofs.lemmas.Int.{ints}
use Rattle.arith.specs.Interpolation.{interpolated}
use Rattle.trace_record.specs.Trace.{seconds}
use Rattle.trace_record.proofs.Casts.{line_code}
use Rattle.trace_record.proofs.line.Line.power_at.Goals as goal

pub unwrap-requires : goal.unwrap-requires
unwrap-requires c = ap is_some (c.interpolate.ensures.value ∙ line_code c.args.self.from c.args.self.to c.args.instant c.args.self.starts c.args.self.ends c.requires.after c.requires.before)

pub returns : goal.returns
returns c =
    let l = c.args.self in
    let line = line_code l.from l.to c.args.instant l.starts l.ends c.requires.after c.requires.before in
    let both : Some c.unwrap.result ≡ Some (interpolated l.from.power l.to.power (seconds l.from.instant c.args.instant) (seconds l.from.instant l.to.instant)) = sym c.unwrap.ensures ∙ (c.interpolate.ensures.value ∙ line) in
    let is : c.unwrap.result ≡ interpolated l.from.power l.to.power (seconds l.from.instant c.args.instant) (seconds l.from.instant l.to.instant) = cc in
    omega (arith, ints, is, c.from.ensures, c.from.type_inv, c.unwrap.type_inv)
