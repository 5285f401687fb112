use Rattle.tks_expr.proofs.Bits.{same_bits}
use Rattle.tks_expr.proofs.arithmetic.bits_make_an_integer.Goals as goal

pub returns : goal.returns
returns c = same_bits
