use Rattle.std.proofs.Common.{subst, ◌∙◌}
use Rattle.tks_state.specs.Laid.{AllAsk}
use Rattle.tks_state.specs.World.{windows_of}
use Rattle.tks_state.proofs.Children.{kept_rises}
use Rattle.tks_state.proofs.Unmoved.{shown_any}
use Rattle.tks_state.proofs.world.World.lay_out.Goals as goal

pub keep_places-requires : goal.keep_places-requires
keep_places-requires c =
    let w = c.args.self.now in
    record {
      always = λ variables asks.
          c.in_ok-laid.ensures.shown
          ∙ shown_any w.variables variables (windows_of w) w.grid (kept_rises w.tree w.kept c.stands.ensures.windows) (subst (AllAsk variables w.kept) c.in_ok-laid.ensures.asked asks);
      inside = c.in_ok-laid.ensures.inside;
    }
