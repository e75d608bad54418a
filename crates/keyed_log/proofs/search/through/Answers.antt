use Rattle.std.proofs.Common.{sym, rules}
use lib.Signed.{le_z}
use Rattle.std.proofs.lemmas.List.Sorted.{IsPartitionPoint-from_clause}
use Rattle.keyed_log.proofs.Rises.{parted_through}
use Rattle.keyed_log.proofs.Kept.{kept_front}
use Rattle.keyed_log.proofs.search.through.Goals as goal

pub returns : goal.returns
returns g c =
    let key = g.E.Keyed.key in
    let es = c.args.entries.now in
    let n = c.args.n in
    let r = c.partition_point.result in
    let point = IsPartitionPoint-from_clause (λ e. le_z (key e) n) es r c.partition_point.ensures.partitioned (parted_through key es c.requires n) (λ a r f k. search rules) in
    sym (kept_front (λ e. le_z (key e) n) es r point)
