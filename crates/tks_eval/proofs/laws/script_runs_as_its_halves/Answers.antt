use Rattle.tks_eval.proofs.Halves.{runs_as_halves, text_is_of_second_half}
use Rattle.tks_eval.proofs.laws.script_runs_as_its_halves.Goals as goal

pub returns-clause-halves : goal.returns-clause-halves
returns-clause-halves g c = runs_as_halves g.H.Host.meaning

pub returns-clause-text : goal.returns-clause-text
returns-clause-text g c = text_is_of_second_half g.H.Host.meaning
