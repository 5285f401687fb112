use Rattle.std.proofs.Common.{sym, ◌∙◌}
use Rattle.tks_state.specs.Links.{link_of}
use Rattle.tks_state.proofs.Unmoved.{asks_alone, not_linked}
use Rattle.tks_state.proofs.widget.Widget.asks_as.Goals as goal

pub returns : goal.returns
returns c same variables =
    let own = c.args.self.now in
    let other = c.args.other.now in
    asks_alone variables variables own other (not_linked (link_of own) (sym c.if-is_linked.ensures)) (not_linked (link_of other) (sym c.if-is_linked-2.ensures))
    (sym c.requested.ensures ∙ c.are_same.ensures.same same ∙ c.requested-2.ensures)
