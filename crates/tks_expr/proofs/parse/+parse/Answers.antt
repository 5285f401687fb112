use Rattle.std.proofs.Common.{ℕ, List, Bor, arith, sym}
use Rattle.std.proofs.lemmas.Result.{err_from_is_err_and}
use Rattle.tks_expr.proofs.Climbing.{climb_begins, climb_fails_first, climb_fails, climb_goes, climb_stops}
use Rattle.tks_expr.proofs.Operands.{inner_opens, chained_push}
use Rattle.tks_expr.specs.declared.tree.Expr.{Expr}
use Rattle.tks_expr.proofs.parse.+parse.Goals as goal

pub read_inner-returns-clause-gives : goal.read_inner-returns-clause-gives
read_inner-returns-clause-gives t c = rw (inner_opens c.args.depth c.args.text.now (omega arith)) c.read_conditional.ensures.gives

pub read_level-returns-in_err-first-clause-gives : goal.read_level-returns-in_err-first-clause-gives
read_level-returns-in_err-first-clause-gives t c =
    let p = err_from_is_err_and c.from_residual.result c.from_residual.ensures.1 in
    rw (p.1, p.2) (climb_fails_first {X = Expr × Bor (List ℕ)} (λ x. (x.0, x.1.now)) c.in_err-first.field-0.0 c.args.depth c.args.level c.args.text.now c.in_err-first.ensures.gives)

pub read_level-joins-init : goal.read_level-joins-init
read_level-joins-init t c = record {
  so_far = rw (c.first.view_is, c.new-links.ensures.items) (climb_begins c.args.depth c.args.level c.args.text.now c.in_ok-first.first c.in_ok-first.rest.now c.in_ok-first.ensures.gives);
  len = c.in_ok-first.ensures.bound;
  is_text = c.in_ok-first.ensures.text;
}

pub read_level-returns-in_err-right-clause-gives : goal.read_level-returns-in_err-right-clause-gives
read_level-returns-in_err-right-clause-gives t c =
    let p = err_from_is_err_and c.from_residual-in_err-right.result c.from_residual-in_err-right.ensures.1 in
    let right = rw (c.split_at.ensures.back, c.level.ensures) at c.in_err-right.ensures.gives in
    rw (p.1, p.2) (climb_fails {X = Expr × Bor (List ℕ)} (λ x. (x.0, x.1.now)) c.in_err-right.field-0.0 c.args.depth c.args.level _ c.joins.rest.now (c.in-Some.join, c.in-Some.more) _ c.joins.invariant.so_far (sym c.in-Some.ensures.value) right)

pub read_level-joins-preserved : goal.read_level-joins-preserved
read_level-joins-preserved t c =
    let right = rw (c.split_at.ensures.back, c.level.ensures) at c.in_ok-right.ensures.gives in
    record {
      so_far = rw (c.in_ok-push.ensures.items, chained_push) (climb_goes c.args.depth c.args.level _ c.joins.rest.now (c.in-Some.join, c.in-Some.more) c.in_ok-right.right c.in_ok-right.behind.now _ c.joins.invariant.so_far (sym c.in-Some.ensures.value) right);
      len = omega (arith, c.in_ok-right.ensures.bound, c.joins.invariant.len);
      is_text = c.in_ok-right.ensures.text;
    }

pub read_level-returns-clause-gives : goal.read_level-returns-clause-gives
read_level-returns-clause-gives t c = rw (c.in_ok-expr.ensures, ← c.first.view_is)
    (climb_stops c.args.depth c.args.level _ c.joins.rest.now _ c.joins.invariant.so_far (sym c.in_default.ensures.value))
