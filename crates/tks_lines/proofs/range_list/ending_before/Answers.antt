use Rattle.std.proofs.Common.{nat_lt, sym, rules, of_calls}
use Rattle.std.proofs.lemmas.List.Sorted.{IsPartitionPoint-from_clause}
use Rattle.tks_lines.specs.declared.range.Range.{Range}
use Rattle.tks_lines.proofs.Apart.{ends_parted, point_of}
use Rattle.tks_lines.proofs.range_list.ending_before.Goals as goal

pub returns-clause-value : goal.returns-clause-value
returns-clause-value c =
    let ranges = c.args.ranges.now in
    let point = IsPartitionPoint-from_clause (λ (r : Range). nat_lt r.last c.args.place) ranges c.partition_point.result c.partition_point.ensures.partitioned (ends_parted c.args.place ranges c.requires) (λ a r q k. search (rules, of_calls)) in
    sym (point_of (λ (r : Range). nat_lt r.last c.args.place) ranges c.partition_point.result c.partition_point.ensures.bound point)
