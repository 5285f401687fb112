use Rattle.tks_state.proofs.Linked.{show_one}
use Rattle.tks_state.proofs.laws.widgets_of_one_variable_show_one_text.Goals as goal

pub returns : goal.returns
returns c = show_one
