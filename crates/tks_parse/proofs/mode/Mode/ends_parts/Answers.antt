use Rattle.std.proofs.Common.{rules}
use Rattle.tks_parse.proofs.mode.Mode.ends_parts.Goals as goal

pub returns-in-Quoted : goal.returns-in-Quoted
returns-in-Quoted = search rules
