use Rattle.std.proofs.Common.{rules}
use Rattle.tks_listbox.proofs.listbox.moved_back.Goals as goal

pub returns-then-behind-active : goal.returns-then-behind-active
returns-then-behind-active = search rules
