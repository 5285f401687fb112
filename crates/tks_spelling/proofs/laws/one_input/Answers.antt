use Rattle.tks_spelling.specs.Input.{input}
use Rattle.tks_spelling.proofs.EachKind.{one_front, one_list}
use Rattle.tks_spelling.proofs.Inputs.{input_lawful, input_legal, input_filled}
use Rattle.tks_spelling.proofs.laws.one_input.Goals as goal

pub returns-clause-spelled : goal.returns-clause-spelled
returns-clause-spelled c = input_legal

pub returns-clause-one : goal.returns-clause-one
returns-clause-one c = one_front input input_lawful

pub returns-clause-lawful : goal.returns-clause-lawful
returns-clause-lawful c = input_lawful

pub returns-clause-list : goal.returns-clause-list
returns-clause-list c = one_list input input_lawful input_filled
