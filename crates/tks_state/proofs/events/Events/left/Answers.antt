use Rattle.std.proofs.Common.{◌≡◌, ap, ◌∙◌}
use Rattle.tks_tree.specs.Windows.{without}
use Rattle.tks_state.specs.Events.{Events, held}
use Rattle.tks_state.proofs.Gone.{held_left}
use Rattle.tks_state.proofs.events.Events.left.Goals as goal

pub returns : goal.returns
returns c =
    let t = c.args.tree.now in
    let window = c.args.window in
    let old = c.left.inside in
    let left : c.drop_all.new.bindings ≡ held t.windows (without t window).windows old.bindings =
    c.in_ok-drop_all.ensures ∙ held_left t c.len.ensures.formed window c.args.gone.now c.requires old.bindings in
    ap (λ b. record { bindings = b; virtuals = old.virtuals; history = old.history; faults = old.faults }) left
    ∙ ap (λ (e : Events). record e { bindings = held t.windows (without t window).windows e.bindings }) (c.left.view_is ∙ c.in_ok-left.ensures)
