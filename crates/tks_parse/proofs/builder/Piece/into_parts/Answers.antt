use Rattle.std.proofs.Common.{rules}
use Rattle.tks_parse.proofs.builder.Piece.into_parts.Goals as goal

pub returns : goal.returns
returns = search rules
