use Rattle.std.proofs.Common.{rules}
use Rattle.tks_event.proofs.lead.Lead.with_word.Goals as goal

pub returns : goal.returns
returns = search rules
