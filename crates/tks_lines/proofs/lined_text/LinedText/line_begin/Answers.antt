use Rattle.std.proofs.Common.{◌-◌, arith}
use Rattle.tks_lines.proofs.Breaking.{break_inside}
use Rattle.tks_lines.proofs.lined_text.LinedText.line_begin.Goals as goal

pub overflow_add-result : goal.overflow_add-result
overflow_add-result c =
    let inside = break_inside c.args.self.now (c.args.lines - 1) c.in-Some.place c.in-Some.ensures in
    omega arith

pub returns-in-Some-clause-bound : goal.returns-in-Some-clause-bound
returns-in-Some-clause-bound c =
    let inside = break_inside c.args.self.now (c.args.lines - 1) c.in-Some.place c.in-Some.ensures in
    omega arith
