use Rattle.tks_spelling.specs.Header.{header}
use Rattle.tks_spelling.proofs.EachKind.{one_front}
use Rattle.tks_spelling.proofs.Headers.{header_lawful, header_legal}
use Rattle.tks_spelling.proofs.laws.one_header.Goals as goal

pub returns-clause-spelled : goal.returns-clause-spelled
returns-clause-spelled c = header_legal

pub returns-clause-one : goal.returns-clause-one
returns-clause-one c = one_front header header_lawful

pub returns-clause-lawful : goal.returns-clause-lawful
returns-clause-lawful c = header_lawful
