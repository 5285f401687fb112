use Rattle.tks_state.proofs.Unmoved.{entries_ask}
use Rattle.tks_state.proofs.widget.Widget.is_entry_as.Goals as goal

pub returns : goal.returns
returns c same =
    entries_ask c.args.self.now c.args.other.now c.in-Entry.field-0 c.in-Entry-other.field-0 c.in-Entry.is c.in-Entry-other.is c.requires
    (c.has_same.ensures.same c.if-not-has_same.false) (c.has_same-2.ensures.same same)
