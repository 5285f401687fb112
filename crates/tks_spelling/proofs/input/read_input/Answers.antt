use Rattle.std.proofs.Common.{arith}
use Rattle.tks_spelling.specs.Input.{input, input_at}
use Rattle.tks_spelling.proofs.Inputs.{input_lawful}
use Rattle.tks_spelling.proofs.Found.{found, only, stops}
use Rattle.tks_spelling.proofs.input.read_input.Goals as goal

pub returns-clause-found : goal.returns-clause-found
unfolding input_at
returns-clause-found c = found input input_lawful c.input_found.result c.args.bytes.now (λ i. omega (arith, c.type_inv.bytes i)) c.input_found.ensures

pub returns-clause-only : goal.returns-clause-only
unfolding input_at
returns-clause-only c = only input input_lawful c.input_found.result c.args.bytes.now c.input_found.ensures

pub returns-clause-bad : goal.returns-clause-bad
unfolding input_at
returns-clause-bad c = stops input input_lawful c.input_found.result c.args.bytes.now (λ i. omega (arith, c.type_inv.bytes i)) c.input_found.ensures
