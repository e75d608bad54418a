use Rattle.std.proofs.Common.{sym, ◌∙◌, rules}
use lib.Signed.{lt_z}
use Rattle.std.proofs.lemmas.List.{take_rest}
use Rattle.std.proofs.lemmas.List.Sorted.{IsPartitionPoint-from_clause}
use Rattle.keyed_log.proofs.Rises.{parted_before}
use Rattle.keyed_log.proofs.Kept.{onward_at}
use Rattle.keyed_log.proofs.search.onward.Goals as goal

pub returns : goal.returns
returns g c =
    let key = g.E.Keyed.key in
    let es = c.args.entries.now in
    let n = c.args.n in
    let r = c.partition_point.result in
    let point = IsPartitionPoint-from_clause (λ e. lt_z (key e) n) es r c.partition_point.ensures.partitioned (parted_before key es c.requires n) (λ a r f k. search rules) in
    take_rest es r ∙ sym (onward_at key es n r point)
