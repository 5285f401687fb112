use Rattle.std.proofs.Common.{arith}
use Rattle.tks_spelling.specs.Input.{input, input_at}
use Rattle.tks_spelling.proofs.Inputs.{input_lawful}
use Rattle.tks_spelling.proofs.Found.{left_fails, no_longer, length_found, fault_found}
use Rattle.tks_spelling.proofs.input.input_found.Goals as goal

pub overflow_sub-result : goal.overflow_sub-result
unfolding input_at
overflow_sub-result c = no_longer input input_lawful c.args.bytes.now c.in-Ok.input c.in-Ok.rest.now (λ i. omega (arith, c.type_inv.bytes i)) c.in-Ok.ensures

pub overflow_sub-result-in-Err-Left : goal.overflow_sub-result-in-Err-Left
unfolding input_at
overflow_sub-result-in-Err-Left c = input_lawful.within c.args.bytes.now c.in-Err-Left.left (λ i. omega (arith, c.type_inv.bytes i)) (left_fails c.in-Err-Left.field-0 c.in-Err-Left.left (input_at c.args.bytes.now) c.in-Err-Left.field-0-is c.in-Err-Left.ensures)

pub returns-in-Ok : goal.returns-in-Ok
unfolding input_at
returns-in-Ok c = length_found input input_lawful c.args.bytes.now c.in-Ok.input c.in-Ok.rest.now (λ i. omega (arith, c.type_inv.bytes i)) c.in-Ok.ensures

pub returns-in-Err-Left : goal.returns-in-Err-Left
unfolding input_at
returns-in-Err-Left c = fault_found input input_lawful c.args.bytes.now c.in-Err-Left.left (λ i. omega (arith, c.type_inv.bytes i)) (left_fails c.in-Err-Left.field-0 c.in-Err-Left.left (input_at c.args.bytes.now) c.in-Err-Left.field-0-is c.in-Err-Left.ensures)
