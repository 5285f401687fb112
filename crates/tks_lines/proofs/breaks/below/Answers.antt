use Rattle.std.proofs.Common.{nat_lt, sym, rules, of_calls}
use Rattle.std.proofs.lemmas.List.Sorted.{IsPartitionPoint-from_clause}
use Rattle.tks_lines.proofs.Breaking.{parted, below_point}
use Rattle.tks_lines.proofs.breaks.below.Goals as goal

pub returns-clause-value : goal.returns-clause-value
returns-clause-value c =
    let places = c.args.places.now in
    let point = IsPartitionPoint-from_clause (λ b. nat_lt b c.args.place) places c.partition_point.result c.partition_point.ensures.partitioned (parted c.args.place places c.requires) (λ a r q k. search (rules, of_calls)) in
    sym (below_point c.args.place places c.partition_point.result c.partition_point.ensures.bound point)
