use Rattle.tks_state.proofs.Linked.{shows}
use Rattle.tks_state.proofs.laws.linked_widget_shows_its_variable.Goals as goal

pub returns : goal.returns
returns c = shows
