use Rattle.std.proofs.Common.{rules}
use Rattle.tks_text.proofs.fault.Failure.about.Goals as goal

pub returns-in-Ok : goal.returns-in-Ok
returns-in-Ok = search rules
