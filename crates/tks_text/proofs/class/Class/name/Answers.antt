use Rattle.std.proofs.Common.{rules}
use Rattle.tks_text.proofs.class.Class.name.Goals as goal

pub returns-in-Checkbutton : goal.returns-in-Checkbutton
returns-in-Checkbutton = search rules
