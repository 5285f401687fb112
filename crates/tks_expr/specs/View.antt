-- The code's trees and values, as the definitions see them.
use Rattle.std.specs.Prelude.{ℕ, List, [], ◌∷◌}
use Rattle.std.specs.Fmt.{signed_decimal}
use Rattle.tks_expr.specs.Reading.{under}
use Rattle.tks_expr.specs.Sign.{combined}
use Rattle.tks_expr.specs.Tree.{Expr, Literal, Made, One, Conditional}
use Rattle.tks_expr.specs.declared.tree.Link.{Link}
use Rattle.tks_expr.specs.declared.tree.Node.{Node}
use Rattle.tks_expr.specs.declared.tree.Node.TheVariants as node
use Rattle.tks_expr.specs.declared.value.Operand.{Operand}
use Rattle.tks_expr.specs.declared.value.Operand.TheVariants as operand
use Rattle.tks_expr.specs.declared.value.Held.{Held}
use Rattle.tks_expr.specs.declared.value.Held.TheVariants as held

-- a left operand and the links behind it: each operator takes all that stands before it
abbrev pub chained : Expr → List Link → Expr
chained left [] = left
chained left (link ∷ links) = chained (combined link.join left link.right) links

abbrev pub expr_of : Node → Expr
expr_of (node.Literal text) = Literal text
expr_of (node.Made parts) = Made parts
expr_of (node.Signs outer sign operand) = under outer.items (One sign operand)
expr_of (node.Chain first link links) = chained (combined link.join first link.right) links.items
expr_of (node.Conditional c a b) = Conditional c a b

-- the text of an operand, and of a value that is kept: an integer stands for its decimal
abbrev pub operand_text : Operand → List ℕ
operand_text (operand.Integer z) = signed_decimal z
operand_text (operand.Text text) = text.now

abbrev pub held_text : Held → List ℕ
held_text (held.Integer z) = signed_decimal z
held_text (held.Text text) = text
