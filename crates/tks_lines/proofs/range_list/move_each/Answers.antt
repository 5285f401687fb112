use Rattle.std.proofs.Common.{ap, ◌∙◌}
use Rattle.std.specs.Prelude.{slice_set}
use Rattle.tks_lines.specs.Ranges.{moved, MayMove}
use Rattle.tks_lines.proofs.Apart.{all_stay, no_range}
use Rattle.tks_lines.proofs.InPlace.{one_changed, this_passes}
use Rattle.tks_lines.proofs.range_list.move_each.Goals as goal

pub returns-then-from-to : goal.returns-then-from-to
returns-then-from-to c = all_stay c.args.from c.args.to c.args.ranges.now c.if-from-to.true c.requires

pub loop-range-preserved : goal.loop-range-preserved
loop-range-preserved c =
    let i = c.loop-range.range-index in
    record {
      made = ap (slice_set c.loop-range.ranges i) c.move_one.ensures ∙ one_changed (moved c.args.from c.args.to) i no_range c.loop-range.ranges c.args.ranges.now c.loop-range-test.true c.loop-range.invariant.made;
      may = (this_passes (MayMove c.args.from c.args.to) i no_range c.args.ranges.now c.loop-range-test.true c.loop-range.invariant.may).1;
    }
