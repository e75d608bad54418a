use Rattle.std.proofs.Common.{take, sym, ◌∙◌, rules}
use lib.Signed.{lt_z, le_z}
use Rattle.std.proofs.lemmas.List.{take_rest}
use Rattle.std.proofs.lemmas.List.Sorted.{IsPartitionPoint-from_clause}
use Rattle.keyed_log.proofs.Rises.{rising_front, parted_before, parted_through}
use Rattle.keyed_log.proofs.Kept.{between_at}
use Rattle.keyed_log.proofs.search.between.Goals as goal

pub returns : goal.returns
returns g c =
    let key = g.E.Keyed.key in
    let es = c.args.entries.now in
    let a = c.args.a in
    let b = c.args.b in
    let high = c.partition_point.result in
    let low = c.partition_point-2.result in
    let front = take high es in
    let before = IsPartitionPoint-from_clause (λ e. lt_z (key e) b) es high c.partition_point.ensures.partitioned (parted_before key es c.requires b) (λ a r f k. search rules) in
    let after = IsPartitionPoint-from_clause (λ e. le_z (key e) a) front low c.partition_point-2.ensures.partitioned (parted_through key front (rising_front key es high c.requires) a) (λ a r f k. search rules) in
    take_rest front low ∙ sym (between_at key es a b high low before after)
