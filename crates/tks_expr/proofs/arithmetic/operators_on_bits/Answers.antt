use Rattle.tks_expr.proofs.Bits.{bit_both, bit_any, bit_one, bit_complement}
use Rattle.tks_expr.proofs.arithmetic.operators_on_bits.Goals as goal

pub returns : goal.returns
returns c = record { both = bit_both; any = bit_any; one = bit_one; turned = bit_complement }
