use Rattle.std.proofs.Common.{rules}
use Rattle.tks_text.proofs.text.is_text_byte.Goals as goal

pub returns-then-byte-ge32 : goal.returns-then-byte-ge32
returns-then-byte-ge32 = search rules
