use Rattle.std.proofs.Common.{rules}
use Rattle.tks_cmd.proofs.calls.err.Goals as goal

pub returns : goal.returns
returns = search rules
