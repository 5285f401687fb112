use Rattle.std.proofs.Common.{rules}
use Rattle.tks_parse.proofs.words.is_expanded.Goals as goal

pub returns-in-123 : goal.returns-in-123
returns-in-123 = search rules
