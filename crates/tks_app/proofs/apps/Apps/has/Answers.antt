use Rattle.std.proofs.Common.{rules}
use Rattle.tks_app.proofs.apps.Apps.has.Goals as goal

pub returns : goal.returns
returns = search rules
