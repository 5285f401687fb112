use Rattle.tks_lines.proofs.Indexed.{indices_read, one_place}
use Rattle.tks_lines.proofs.laws.one_index.Goals as goal

pub returns-clause-read : goal.returns-clause-read
returns-clause-read c = indices_read

pub returns-clause-one : goal.returns-clause-one
returns-clause-one c = one_place
