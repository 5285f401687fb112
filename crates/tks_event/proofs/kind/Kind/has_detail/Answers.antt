use Rattle.std.proofs.Common.{rules}
use Rattle.tks_event.proofs.kind.Kind.has_detail.Goals as goal

pub returns-in-KeyPress : goal.returns-in-KeyPress
returns-in-KeyPress = search rules
