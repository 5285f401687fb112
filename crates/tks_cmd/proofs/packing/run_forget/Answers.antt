use Rattle.std.proofs.Common.{rules}
use Rattle.tks_cmd.proofs.packing.run_forget.Goals as goal

pub returns-in_err-windows-clause-value : goal.returns-in_err-windows-clause-value
returns-in_err-windows-clause-value = search rules

pub returns-clause-value : goal.returns-clause-value
returns-clause-value = search rules
