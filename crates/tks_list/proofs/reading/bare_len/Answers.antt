use Rattle.std.proofs.Common.{rules}
use Rattle.tks_list.proofs.Plain.{bare_taken}
use Rattle.tks_list.proofs.reading.bare_len.Goals as goal

pub returns-in_default-clause-step : goal.returns-in_default-clause-step
returns-in_default-clause-step c = λ some. bare_taken c.args.text.now c.plain_len-len.result c.if-c-eq123.false c.if-c-eq34.false c.plain_len-len.ensures.value (search rules) some

pub returns-in_default-2-clause-step : goal.returns-in_default-2-clause-step
returns-in_default-2-clause-step c = λ some. bare_taken c.args.text.now c.plain_len-len.result c.if-c-eq123.false c.if-c-eq34.false c.plain_len-len.ensures.value (search rules) some
