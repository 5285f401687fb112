use Rattle.std.proofs.Common.{◌∙◌}
use Rattle.tks_state.specs.Asking.{changed}
use Rattle.tks_state.proofs.Called.{done_packs}
use Rattle.tks_state.proofs.Children.{kept_rises}
use Rattle.tks_state.proofs.windows.Windows.change.Goals as goal

pub change_at-requires : goal.change_at-requires
change_at-requires c = kept_rises _ _ c.self.invariant

pub invariant_of-self-2 : goal.invariant_of-self-2
invariant_of-self-2 c =
    let old = c.self.invariant in
    record {
      windows = old.windows;
      in_step = c.change_at.ensures.marks ∙ old.in_step;
      packs = done_packs c.self.inside.tree c.args.window (changed c.args.change) c.in_ok-said.said c.self.inside.kept c.change_at.new.kept c.in_ok-said.ensures.value old.packs;
    }
