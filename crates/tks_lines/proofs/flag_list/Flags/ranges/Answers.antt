use Rattle.std.proofs.Common.{◌^◌, sym, ap, ◌∙◌, arith}
use Rattle.tks_lines.specs.Ranges.{ranges_of}
use Rattle.tks_lines.proofs.Ends.{ranges_again}
use Rattle.tks_lines.proofs.Apart.{few}
use Rattle.tks_lines.proofs.flag_list.Flags.ranges.Goals as goal

pub returns-clause-value : goal.returns-clause-value
returns-clause-value c = c.as_slice.ensures.value ∙ sym (ranges_again c.self.inside.len c.self.inside.ranges.items c.self.invariant.0) ∙ ap ranges_of c.self.view_is

pub returns-clause-short : goal.returns-clause-short
returns-clause-short c = rw c.as_slice.ensures.value (few c.self.inside.len (2 ^ 32) c.self.inside.ranges.items c.self.invariant.0 (omega arith) (omega arith))
