use Rattle.std.proofs.Common.{rules}
use Rattle.tks_state.proofs.widget.Widget.shown.Goals as goal

pub returns-in_ok-cells-in-Entry : goal.returns-in_ok-cells-in-Entry
returns-in_ok-cells-in-Entry = search rules

pub returns-in_ok-cells-in-Listbox : goal.returns-in_ok-cells-in-Listbox
returns-in_ok-cells-in-Listbox = search rules
