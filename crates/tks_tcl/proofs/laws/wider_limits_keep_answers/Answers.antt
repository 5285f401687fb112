use Rattle.tks_tcl.proofs.Limits.{answers_stay}
use Rattle.tks_tcl.proofs.laws.wider_limits_keep_answers.Goals as goal

pub returns-clause-answers : goal.returns-clause-answers
returns-clause-answers c = answers_stay
