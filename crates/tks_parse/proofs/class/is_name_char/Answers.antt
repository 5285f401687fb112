use Rattle.std.proofs.Common.{rules}
use Rattle.tks_parse.proofs.class.is_name_char.Goals as goal

pub returns-else-c-le122 : goal.returns-else-c-le122
returns-else-c-le122 = search rules
