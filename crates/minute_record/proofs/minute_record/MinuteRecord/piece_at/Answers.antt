use Rattle.std.proofs.Common.{◌<◌, arith, ◌≡◌, true, sym, ap, ◌∙◌, w64}
use Rattle.std.proofs.lemmas.Int.{to_z-of_z}
use Rattle.minute_record.specs.Minutes.{piece_of, minutes_cover}
use Rattle.minute_record.specs.MinuteRecords.{minutes}
use Rattle.minute_record.specs.MinuteLaws.{cover_parts}
use Rattle.minute_record.proofs.Casts.{place_code}
use Rattle.minute_record.proofs.Places.{place_inside}
use Rattle.minute_record.proofs.minute_record.MinuteRecord.piece_at.Goals as goal

pub returns : goal.returns
returns c =
    let ms = minutes c.args.self.now in
    let t = c.args.period in
    let i = c.args.place in
    let covered : minutes_cover ms t ≡ true = sym (c.if-not-is_covered.ensures.rule ∙ ap (minutes_cover ms) (to_z-of_z w64 t c.ranges.period)) in
    let inside : i < 15 = omega arith in
    c.piece_of.ensures ∙ ap (piece_of ms) (place_code t i (cover_parts ms t covered).period inside) ∙ place_inside ms t i c.args.self.now.sampled covered inside
