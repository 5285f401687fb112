use Rattle.tks_listbox.proofs.Rising.{rising}
use Rattle.tks_listbox.proofs.laws.selected_places_rise.Goals as goal

pub returns : goal.returns
returns c = rising
