use Rattle.std.proofs.Common.{length, sym, ap, ◌∙◌}
use Rattle.tks_lines.proofs.Ends.{flags_long}
use Rattle.tks_lines.proofs.flag_list.Flags.len.Goals as goal

pub returns-clause-value : goal.returns-clause-value
returns-clause-value c = sym (flags_long c.self.inside.len c.self.inside.ranges.items c.self.invariant.0) ∙ ap length c.self.view_is
