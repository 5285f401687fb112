use Rattle.tks_eval.proofs.Parameters.{reads_parameters}
use Rattle.tks_eval.proofs.laws.parameters_are_lists_of_names.Goals as goal

pub returns : goal.returns
returns c = reads_parameters
