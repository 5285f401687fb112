use Rattle.std.proofs.Common.{arith}
use Rattle.tks_pack.proofs.Overtakes.{not_yet, then_more}
use Rattle.tks_pack.proofs.note.Note.overtaken.Goals as goal

pub returns-clause-before : goal.returns-clause-before
returns-clause-before c = λ x h. not_yet c.args.self c.args.later (omega arith) (omega arith) x (omega arith)

pub returns-clause-after : goal.returns-clause-after
returns-clause-after c = λ x h small. then_more c.args.self c.args.later (omega arith) (omega arith) x (omega arith)
