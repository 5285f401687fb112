use Rattle.std.proofs.Common.{ap, ◌∙◌}
use Rattle.tks_state.specs.Windows.{Windows, kept_of}
use Rattle.tks_state.proofs.Children.{kept_rises}
use Rattle.tks_state.proofs.windows.Windows.get.Goals as goal

pub find-requires : goal.find-requires
find-requires c = kept_rises _ _ c.self.invariant

pub returns : goal.returns
returns c = c.find.ensures ∙ ap (λ (x : Windows). kept_of x.kept c.args.window) c.self.view_is
