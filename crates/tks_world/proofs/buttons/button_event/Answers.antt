use Rattle.std.proofs.Common.{◌≡◌, true, sym, subst}
use Rattle.tks_event.specs.Legality.{is_event}
use Rattle.tks_world.proofs.Legal.{button_legal}
use Rattle.tks_world.proofs.buttons.button_event.Goals as goal

pub new-requires : goal.new-requires
new-requires c =
    subst (λ e. is_event e ≡ true) (sym c.in_ok-fields.ensures)
    (button_legal c.args.button c.args.x c.args.y c.args.target.now c.args.world.now c.args.kind c.requires.kind c.requires.button c.requires.cell c.bounds.ensures.grid c.requires.near c.bounds.ensures.clock)
