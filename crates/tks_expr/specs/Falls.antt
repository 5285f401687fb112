-- Each expression inside an expression is smaller than it.
use Rattle.std.specs.Prelude.{◌≤◌, ◌<◌, List, [], ◌∷◌}
use Rattle.std.proofs.Common.{arith}
use denote.Param.Weighed.{most}
use Rattle.tks_expr.specs.Reading.{under}
use Rattle.tks_expr.specs.Sign.{combined}
use Rattle.tks_expr.specs.Tree.{Expr, One, expr_size}
use Rattle.tks_expr.specs.View.{chained, expr_of}
use Rattle.tks_expr.specs.declared.operator.Unary.{Unary}
use Rattle.tks_expr.specs.declared.sign.Join.{Join}
use Rattle.tks_expr.specs.declared.sign.Join.TheVariants.{Of, And, Or}
use Rattle.tks_expr.specs.declared.tree.Link.{Link}
use Rattle.tks_expr.specs.declared.tree.Node.{Node}
use Rattle.tks_expr.specs.declared.tree.Node.TheVariants as node
use Rattle.tks_expr.specs.declared.tree.Expr.TheDeep.{deep-Link, deep-Node}

under_falls : (ops : List Unary) (e : Expr) → expr_size e ≤ expr_size (under ops e)
under_falls [] e = omega arith
under_falls (op ∷ ops) e = omega (arith, under_falls ops e)

combined_falls : (op : Join) (a b : Expr) → (expr_size a < expr_size (combined op a b)) × (expr_size b < expr_size (combined op a b))
combined_falls (Of op) a b = (omega arith, omega arith)
combined_falls And a b = (omega arith, omega arith)
combined_falls Or a b = (omega arith, omega arith)

chained_falls : (left : Expr) (links : List Link) → (expr_size left ≤ expr_size (chained left links)) × (most deep-Link links ≤ expr_size (chained left links))
chained_falls left [] = (omega arith, omega arith)
chained_falls left (link ∷ links) =
    let two = combined_falls link.join left link.right in
    let rest = chained_falls (combined link.join left link.right) links in
    (omega (arith, two.0, rest.0), omega (arith, two.1, rest.0, rest.1))

pub node_falls : (n : Node) → deep-Node n ≤ expr_size (expr_of n)
node_falls (node.Literal text) = omega arith
node_falls (node.Made parts) = omega arith
node_falls (node.Signs outer sign operand) = omega (arith, under_falls outer.items (One sign operand))
node_falls (node.Chain first link links) =
    let whole = combined link.join first link.right in
    let two = combined_falls link.join first link.right in
    let rest = chained_falls whole links.items in
    omega (arith, two.0, two.1, rest.0, rest.1)
node_falls (node.Conditional c a b) = omega arith
