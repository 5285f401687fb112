use Rattle.std.proofs.Common.{◌≡◌, true, if◌then◌else◌, None, sym, ap, subst, ◌∙◌, rules}
use Rattle.tks_tree.specs.Windows as tree
use Rattle.tks_state.specs.Asking.{changed, changed_in}
use Rattle.tks_state.specs.EventLoop.{all_in}
use Rattle.tks_state.specs.Laid.{ArePlaces}
use Rattle.tks_state.specs.Windows.{called}
use Rattle.tks_state.proofs.Called.{called_in_world}
use Rattle.tks_state.proofs.Unmoved.{change_stays, rooms_same, kept_if_stays}
use Rattle.tks_state.proofs.world.World.call_widget.Goals as goal

pub invariant_of-self : goal.invariant_of-self
invariant_of-self c =
    let w = c.self.inside in (
      c.self.invariant.0,
      subst (λ (t : tree.Windows). all_in t.windows w.event_loop ≡ true) (sym c.change.ensures.tree) c.self.invariant.1,
      c.self.invariant.2,
      subst (ArePlaces c.change.new.self w.grid) (sym (c.replace-places.ensures.after ∙ c.unknown.ensures)) tt,
    )

pub invariant_of-self-in-Ok-Changes : goal.invariant_of-self-in-Ok-Changes
invariant_of-self-in-Ok-Changes c =
    let w = c.self.inside in
    let now = c.change.new.self in
    let stays = c.are_same_if_any-stays.result in
    let places = c.kept_if.ensures ∙ ap (λ o. if stays then o else None) c.replace-places.ensures.value in (
      c.self.invariant.0,
      subst (λ (t : tree.Windows). all_in t.windows w.event_loop ≡ true) (sym c.change.ensures.tree) c.self.invariant.1,
      c.self.invariant.2,
      subst (ArePlaces now w.grid) (sym places) (kept_if_stays now w.grid stays w.places (λ same.
          let rooms = rooms_same w.windows now c.args.window c.asked_alone-before.result c.asked_alone.result (c.are_same_if_any-stays.ensures.same same) c.asked_alone-before.ensures.some c.asked_alone.ensures.some in
          change_stays w.windows now w.grid c.args.window (changed c.in-Ok-Changes.change) c.in_ok-said-in-Ok-Changes.said rooms.0 w.places c.in_ok-said-in-Ok-Changes.ensures.value rooms.1 rooms.2 c.self.invariant.3)),
    )

pub returns-in_ok-said-in-Ok-Changes-clause-value : goal.returns-in_ok-said-in-Ok-Changes-clause-value
returns-in_ok-said-in-Ok-Changes-clause-value c =
    let before = c.self.inside.windows in
    let asked : called before c.args.window c.args.words.now ≡ changed_in before c.args.window c.in-Ok-Changes.change = search rules in
    called_in_world _ _ c.args.window c.args.words.now _ _ c.self.view_is (asked ∙ c.in_ok-said-in-Ok-Changes.ensures.value)
