use Rattle.std.proofs.Common.{◌∙◌, sym}
use Rattle.tks_tcl.proofs.Lengths.{list_too_long}
use Rattle.tks_tcl.proofs.lists.list_within.Goals as goal

pub returns-then-not-have_room : goal.returns-then-not-have_room
returns-then-not-have_room c = list_too_long c.args.limits.now c.args.elements.now (sym c.have_room.ensures ∙ c.if-not-have_room.true)
