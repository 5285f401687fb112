use Rattle.std.proofs.Common.{rules}
use Rattle.tks_event.proofs.reading.named_alone.Goals as goal

pub returns-then-is_button : goal.returns-then-is_button
returns-then-is_button = search rules
