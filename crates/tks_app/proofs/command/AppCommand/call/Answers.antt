use Rattle.std.proofs.Common.{rules}
use Rattle.tks_app.proofs.command.AppCommand.call.Goals as goal

pub returns : goal.returns
returns = search rules
