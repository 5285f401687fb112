use Rattle.std.proofs.Common.{arith}
use Rattle.tks_spelling.specs.Header.{header, header_at}
use Rattle.tks_spelling.proofs.Headers.{header_lawful}
use Rattle.tks_spelling.proofs.Found.{found, only, stops}
use Rattle.tks_spelling.proofs.header.read_header.Goals as goal

pub returns-clause-found : goal.returns-clause-found
unfolding header_at
returns-clause-found c = found header header_lawful c.header_found.result c.args.bytes.now (λ i. omega (arith, c.type_inv.bytes i)) c.header_found.ensures

pub returns-clause-only : goal.returns-clause-only
unfolding header_at
returns-clause-only c = only header header_lawful c.header_found.result c.args.bytes.now c.header_found.ensures

pub returns-clause-bad : goal.returns-clause-bad
unfolding header_at
returns-clause-bad c = stops header header_lawful c.header_found.result c.args.bytes.now (λ i. omega (arith, c.type_inv.bytes i)) c.header_found.ensures
