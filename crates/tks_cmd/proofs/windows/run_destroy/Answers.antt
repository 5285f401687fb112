use Rattle.std.proofs.Common.{rules}
use Rattle.tks_cmd.proofs.windows.run_destroy.Goals as goal

pub returns-then-not-are_others-clause-kept : goal.returns-then-not-are_others-clause-kept
returns-then-not-are_others-clause-kept = search rules

pub returns-clause-value : goal.returns-clause-value
returns-clause-value = search rules
