use Rattle.std.proofs.Common.{nat_le, sym, rules, of_calls}
use Rattle.std.proofs.lemmas.List.Sorted.{IsPartitionPoint-from_clause}
use Rattle.tks_lines.specs.declared.range.Range.{Range}
use Rattle.tks_lines.proofs.Apart.{begins_parted, point_of}
use Rattle.tks_lines.proofs.range_list.beginning_up_to.Goals as goal

pub returns-clause-value : goal.returns-clause-value
returns-clause-value c =
    let ranges = c.args.ranges.now in
    let point = IsPartitionPoint-from_clause (λ (r : Range). nat_le r.first c.args.place) ranges c.partition_point.result c.partition_point.ensures.partitioned (begins_parted c.args.place ranges c.requires) (λ a r q k. search (rules, of_calls)) in
    sym (point_of (λ (r : Range). nat_le r.first c.args.place) ranges c.partition_point.result c.partition_point.ensures.bound point)
