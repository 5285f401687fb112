use Rattle.std.proofs.Common.{rules}
use Rattle.tks_pack.proofs.settings.Fill.number.Goals as goal

pub returns-in-Both : goal.returns-in-Both
returns-in-Both = search rules
