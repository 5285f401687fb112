use Rattle.std.proofs.Common.{arith}
use Rattle.tks_spelling.specs.Header.{header, header_at}
use Rattle.tks_spelling.proofs.Headers.{header_lawful}
use Rattle.tks_spelling.proofs.Found.{left_fails, no_longer, length_found, fault_found}
use Rattle.tks_spelling.proofs.header.header_found.Goals as goal

pub overflow_sub-result : goal.overflow_sub-result
unfolding header_at
overflow_sub-result c = no_longer header header_lawful c.args.bytes.now c.in-Ok.header c.in-Ok.rest.now (λ i. omega (arith, c.type_inv.bytes i)) c.in-Ok.ensures

pub overflow_sub-result-in-Err-Left : goal.overflow_sub-result-in-Err-Left
unfolding header_at
overflow_sub-result-in-Err-Left c = header_lawful.within c.args.bytes.now c.in-Err-Left.left (λ i. omega (arith, c.type_inv.bytes i)) (left_fails c.in-Err-Left.field-0 c.in-Err-Left.left (header_at c.args.bytes.now) c.in-Err-Left.field-0-is c.in-Err-Left.ensures)

pub returns-in-Ok : goal.returns-in-Ok
unfolding header_at
returns-in-Ok c = length_found header header_lawful c.args.bytes.now c.in-Ok.header c.in-Ok.rest.now (λ i. omega (arith, c.type_inv.bytes i)) c.in-Ok.ensures

pub returns-in-Err-Left : goal.returns-in-Err-Left
unfolding header_at
returns-in-Err-Left c = fault_found header header_lawful c.args.bytes.now c.in-Err-Left.left (λ i. omega (arith, c.type_inv.bytes i)) (left_fails c.in-Err-Left.field-0 c.in-Err-Left.left (header_at c.args.bytes.now) c.in-Err-Left.field-0-is c.in-Err-Left.ensures)
