use Rattle.std.proofs.Common.{◌+◌, nat_le, length, ap, ◌∙◌}
use Rattle.tks_tcl.specs.Room.{room_of}
use Rattle.tks_tcl.proofs.Lengths.{joined_room}
use Rattle.tks_tcl.proofs.elements.joined_fits.Goals as goal

pub returns : goal.returns
returns c =
    let limits = c.args.limits.now in
    let texts = c.args.list.now in
    c.have_room.ensures
    ∙ ap (λ separator. nat_le (room_of (length separator) texts) (limits.text + length separator)) c.as_bytes-between.ensures.value
    ∙ joined_room limits c.args.separator.now texts
