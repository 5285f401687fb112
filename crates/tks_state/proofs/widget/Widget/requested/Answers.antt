use Rattle.std.proofs.Common.{rules}
use Rattle.tks_state.proofs.widget.Widget.requested.Goals as goal

pub returns-in-Caption : goal.returns-in-Caption
returns-in-Caption = search rules

pub returns-in-Text : goal.returns-in-Text
returns-in-Text = search rules
