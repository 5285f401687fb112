use Rattle.std.proofs.Common.{refl, sym, ◌∙◌}
use Rattle.tks_tcl.proofs.Added.{elements_too_long}
use Rattle.tks_tcl.proofs.growing.put_elements.Goals as goal

pub returns-then-not-have_room : goal.returns-then-not-have_room
returns-then-not-have_room c =
    (elements_too_long c.args.limits.now c.args.elements.now c.args.value.now c.requires (sym c.have_room.ensures ∙ c.if-not-have_room.true), refl)
