use Rattle.tks_durable.proofs.Reading.{first_read, none_read}
use Rattle.tks_durable.proofs.replay.next_input.Goals as goal

pub returns-in-Ok-clause-some : goal.returns-in-Ok-clause-some
returns-in-Ok-clause-some c = first_read c.args.bytes.now c.in-Ok.found.0 c.in-Ok.found.1 c.in-Ok.ensures.found.1 c.in-Ok.ensures.exact.0 c.in-Ok.ensures.exact.1

pub returns-in-Err-Bad-clause-none : goal.returns-in-Err-Bad-clause-none
returns-in-Err-Bad-clause-none c e = none_read c.args.bytes.now c.in-Err-Bad.field-0 c.in-Err-Bad.field-0-0 c.requires c.in-Err-Bad.field-0-is c.in-Err-Bad.ensures.exact
