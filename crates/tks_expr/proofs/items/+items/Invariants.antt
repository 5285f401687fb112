use Rattle.std.proofs.Common.{◌≡◌, ◌≤◌, ◌+◌, ◌*◌, length, drop, reverse, None}
use Rattle.tks_expr.specs.Compiled.{leaf_of, compiled}
use Rattle.tks_expr.specs.Reading.{under}
use Rattle.tks_expr.specs.Tree.{Expr, One, expr_size}
use Rattle.tks_expr.specs.View.{chained}
use Rattle.tks_expr.proofs.Compiled.{links_size}
use Rattle.tks_expr.proofs.items.+items.Given as goal

abbrev pub decreases-put : goal.decreases-put
decreases-put l = 4 * expr_size l.expr.now

abbrev pub decreases-put_truth : goal.decreases-put_truth
decreases-put_truth l = 4 * expr_size l.right.now + 1

abbrev pub decreases-put_link : goal.decreases-put_link
decreases-put_link l = 4 * expr_size l.link.now.right + 2

abbrev pub decreases-put_front : goal.decreases-put_front
decreases-put_front l = 4 * (expr_size l.first.now + expr_size l.link.now.right) + 3

abbrev pub decreases-put_links : goal.decreases-put_links
decreases-put_links l = 4 * links_size l.links.now

abbrev pub decreases-put_branches : goal.decreases-put_branches
decreases-put_branches l = 4 * (expr_size l.if_true.now + expr_size l.if_false.now) + 1

abbrev pub invariant-put-loop-sign : goal.invariant-put-loop-sign
invariant-put-loop-sign l =
    compiled (under (drop l.sign-index l.sign-items) (One l.sign l.operand)) (reverse l.items.items) ≡ compiled l.fn.expr (reverse l.fn.items.items)

abbrev pub invariant-put_links-link : goal.invariant-put_links-link
invariant-put_links-link l = record {
  size : links_size l.rest ≤ links_size l.fn.links;
  goes : (front : Expr) → leaf_of front ≡ None → compiled (chained front l.rest) (reverse l.items.items) ≡ compiled (chained front l.fn.links) (reverse l.fn.items.items);
}

abbrev pub decreases-put_links-link : goal.decreases-put_links-link
decreases-put_links-link l = length l.rest
