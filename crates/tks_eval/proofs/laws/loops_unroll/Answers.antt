use Rattle.tks_eval.specs.Evaluation.{evaluate}
use Rattle.tks_eval.proofs.Spending.{evaluate_spends}
use Rattle.tks_eval.proofs.Turns.{loop_unrolls}
use Rattle.tks_eval.proofs.laws.loops_unroll.Goals as goal

pub returns : goal.returns
returns g c = λ limits depth loop. loop_unrolls limits (evaluate g.H.Host.meaning limits depth) (evaluate_spends g.H.Host.meaning limits depth) loop
