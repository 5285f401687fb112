use Rattle.tks_state.proofs.Children.{kept_rises}
use Rattle.tks_state.proofs.windows.Windows.ask.Goals as goal

pub ask_at-requires : goal.ask_at-requires
ask_at-requires c = kept_rises _ _ c.self.invariant
