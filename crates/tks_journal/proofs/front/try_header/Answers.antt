use Rattle.std.proofs.Common.{take, arith}
use Rattle.tks_journal.proofs.Heads.{spelled_as, wrong_on, fault_found}
use Rattle.tks_journal.proofs.front.try_header.Goals as goal

pub returns-in-Ok-clause-read : goal.returns-in-Ok-clause-read
returns-in-Ok-clause-read c = (c.in-Ok.ensures.exact.0, spelled_as c.in-Ok.header (take c.in-Ok.count c.args.bytes.now) c.in-Ok.ensures.found.0 c.in-Ok.ensures.found.1)

pub returns-then-place-bytes-clause-read : goal.returns-then-place-bytes-clause-read
returns-then-place-bytes-clause-read c format more = wrong_on format c.args.bytes.now c.in-Err-Bad.place more (λ i. omega (arith, c.type_inv.bytes i)) c.if-place-bytes.true (fault_found c.args.bytes.now c.in-Err-Bad.field-0 c.in-Err-Bad.place c.in-Err-Bad.field-0-is c.in-Err-Bad.ensures.exact)
