use Rattle.tks_lines.proofs.Apart.{begins_rise, no_range}
use Rattle.tks_lines.proofs.Edges.{found_around, none_around_it}
use Rattle.tks_lines.proofs.flag_list.Flags.is_on.Goals as goal

pub beginning_up_to-begun-requires : goal.beginning_up_to-begun-requires
beginning_up_to-begun-requires c = rw c.as_slice-ranges.ensures.value (begins_rise c.self.inside.len c.self.inside.ranges.items c.self.invariant.0)

pub returns-then-begun-ne0 : goal.returns-then-begun-ne0
returns-then-begun-ne0 c = found_around c.self.inside.len c.args.place c.beginning_up_to-begun.result c.args.self.now c.as_slice-ranges.result.now c.self.inside.ranges.items no_range c.self.invariant.0 c.as_slice-ranges.ensures.value c.self.view_is c.beginning_up_to-begun.ensures.value c.if-begun-ne0.true

pub returns-else-begun-ne0 : goal.returns-else-begun-ne0
returns-else-begun-ne0 c = none_around_it c.self.inside.len c.args.place c.beginning_up_to-begun.result c.args.self.now c.as_slice-ranges.result.now c.self.inside.ranges.items c.self.invariant.0 c.as_slice-ranges.ensures.value c.self.view_is c.beginning_up_to-begun.ensures.value c.if-begun-ne0.false
