use Rattle.std.proofs.Common.{length, ap, ◌∙◌}
use Rattle.tks_lines.specs.Lines.{mark_named}
use Rattle.tks_lines.proofs.Inside.{found_inside}
use Rattle.tks_lines.proofs.lines.TextWidget.named.Goals as goal

pub returns-clause-inside : goal.returns-clause-inside
returns-clause-inside c =
    rw (← c.self.view_is) (found_inside (length c.self.inside.text) c.args.name.now c.self.inside.marks c.in_ok-mark.mark.now c.self.invariant.inside (c.in_ok-mark.ensures ∙ ap (mark_named c.args.name.now) c.as_slice-2.ensures.value))
