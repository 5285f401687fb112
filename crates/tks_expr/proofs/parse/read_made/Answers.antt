use Rattle.tks_expr.proofs.Operands.{made_piece}
use Rattle.tks_expr.proofs.parse.read_made.Goals as goal

pub returns-in_ok-read-in-Some-clause-gives : goal.returns-in_ok-read-in-Some-clause-gives
returns-in_ok-read-in-Some-clause-gives c =
    rw (c.in-Some.is, c.in_ok-read-in-Some.ensures.expr, c.in_ok-read-in-Some.ensures.rest, c.in_ok-parts-in-Some.ensures, c.split_at.ensures.back)
    (made_piece c.args.text.now c.in-Some.piece c.in-Some.taken)
