use Rattle.std.proofs.Common.{refl}
use Rattle.tks_state.proofs.FirstTable.{first_are_of_table}
use Rattle.tks_state.proofs.laws.the_first_bindings_are_the_table.Goals as goal

pub returns-clause-bindings : goal.returns-clause-bindings
returns-clause-bindings c grid names = first_are_of_table

pub returns-clause-count : goal.returns-clause-count
returns-clause-count c = refl
