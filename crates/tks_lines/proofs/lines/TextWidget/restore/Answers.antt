use Rattle.std.proofs.Common.{sym, ◌∙◌}
use Rattle.tks_lines.proofs.Restored.{parts_formed}
use Rattle.tks_lines.proofs.lines.TextWidget.restore.Goals as goal

pub invariant_of-result : goal.invariant_of-result
invariant_of-result c =
    rw (c.in_ok-text.ensures, c.of-in-Text.ensures, c.of-in-Text-2.ensures)
    (parts_formed (record { options = c.args.options; text = c.args.text; tags = c.args.tags; marks = c.args.marks })
    (sym c.class.ensures.value ∙ c.in-Text.is)
    (rw (← c.len-len.ensures, ← c.as_slice.ensures.value, ← c.are_tags.ensures) c.if-not-are_tags.false)
    (rw (← c.len-len.ensures, ← c.as_slice-2.ensures.value, ← c.are_marks.ensures) c.if-not-are_marks.false))
