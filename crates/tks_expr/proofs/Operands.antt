-- Operands: what the code finds, and what is read.
use Rattle.std.proofs.Common.{◌≡◌, ℕ, zero, suc, ◌-◌, ◌<◌, List, [], ◌∷◌, ◌++◌, drop, Ok, refl, ap, arith}
use Rattle.tks_parse.specs.Gives.{taken_piece, parts_of_piece}
use Rattle.tks_parse.specs.declared.builder.Piece.{Piece}
use Rattle.tks_parse.proofs.Joins.{join_parts_none}
use Rattle.tks_expr.specs.Sign.{combined}
use Rattle.tks_expr.specs.Tree.{Expr, Made, One}
use Rattle.tks_expr.specs.View.{chained}
use Rattle.tks_expr.specs.Reading.{trim, made, under, inner, conditional_at}
use Rattle.tks_expr.specs.declared.operator.Unary.{Unary}
use Rattle.tks_expr.specs.declared.tree.Link.{Link}

pub made_piece : (u : List ℕ) (piece : Piece) (n : ℕ) → made u (taken_piece (piece, n)) ≡ Ok (Made (parts_of_piece piece), trim (drop n u))
made_piece u piece n = ap (λ parts. Ok (Made parts, trim (drop n u))) (join_parts_none (parts_of_piece piece))

pub inner_opens : (d : ℕ) (t : List ℕ) → 0 < d → inner d t ≡ conditional_at (d - 1) t
unfolding inner
inner_opens zero t h = absurd (omega (arith, h))
inner_opens (suc d) t h = let k : d ≡ suc d - 1 = omega arith in ap (λ n. conditional_at n t) k

pub under_push : (ops : List Unary) (op : Unary) (e : Expr) → under (ops ++ op ∷ []) e ≡ under ops (One op e)
under_push [] op e = refl
under_push (o ∷ ops) op e = ap (One o) (under_push ops op e)

pub chained_push : (left : Expr) (links : List Link) (link : Link) → chained left (links ++ link ∷ []) ≡ combined link.join (chained left links) link.right
chained_push left [] link = refl
chained_push left (next ∷ links) link = chained_push (combined next.join left next.right) links link
