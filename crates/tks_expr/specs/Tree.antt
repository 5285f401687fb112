-- The tree of an expression, as expr(n) speaks of it.
use Rattle.std.specs.Prelude.{◌≡◌, ℕ, ◌+◌, List}
use base.Stored.{Coded, Gv, gnum, gcons}
use Rattle.tks_parse.specs.Tree.{Parts, text_code, parts_code}
use Rattle.tks_expr.specs.declared.operator.Unary.{Unary}
use Rattle.tks_expr.specs.declared.operator.Binary.{Binary}
use Rattle.tks_expr.specs.contracts.operator.Unary.{the_row as unary-row}
use Rattle.tks_expr.specs.contracts.operator.Binary.{the_row as binary-row}

-- a literal operand, one that is made of parts (variables, scripts in brackets, texts), and operators; Both is `&&`,
-- Either is `||`, Conditional is `?:`
pub data Expr : Type 0 where
  Literal : List ℕ → Expr
  Made : Parts → Expr
  One : Unary → Expr → Expr
  Two : Binary → Expr → Expr → Expr
  Both : Expr → Expr → Expr
  Either : Expr → Expr → Expr
  Conditional : Expr → Expr → Expr → Expr

-- how many operators there are
abbrev pub expr_size : Expr → ℕ
expr_size (Literal text) = 0
expr_size (Made parts) = 0
expr_size (One op a) = 1 + expr_size a
expr_size (Two op a b) = 1 + expr_size a + expr_size b
expr_size (Both a b) = 1 + expr_size a + expr_size b
expr_size (Either a b) = 1 + expr_size a + expr_size b
expr_size (Conditional c a b) = 1 + expr_size c + expr_size a + expr_size b

-- ---- trees as stored values: each tree as a tree of numbers, and two with one code are one

abbrev pub code_expr : Expr → Gv
code_expr (Literal text) = gcons (gnum 0) (text_code.code text)
code_expr (Made parts) = gcons (gnum 1) (parts_code.code parts)
code_expr (One op a) = gcons (gnum 2) (gcons (unary-row.coded.code op) (code_expr a))
code_expr (Two op a b) = gcons (gnum 3) (gcons (binary-row.coded.code op) (gcons (code_expr a) (code_expr b)))
code_expr (Both a b) = gcons (gnum 4) (gcons (code_expr a) (code_expr b))
code_expr (Either a b) = gcons (gnum 5) (gcons (code_expr a) (code_expr b))
code_expr (Conditional c a b) = gcons (gnum 6) (gcons (code_expr c) (gcons (code_expr a) (code_expr b)))

pub inj_expr : (x y : Expr) → code_expr x ≡ code_expr y → x ≡ y
inj_expr (Literal s) (Literal t) p = let a = text_code.inj s t cc in cc
inj_expr (Made ps) (Made qs) p = let a = parts_code.inj ps qs cc in cc
inj_expr (One f a) (One g b) p = let q = unary-row.coded.inj f g cc in let r = inj_expr a b cc in cc
inj_expr (Two f a b) (Two g x y) p = let q = binary-row.coded.inj f g cc in let r = inj_expr a x cc in let s = inj_expr b y cc in cc
inj_expr (Both a b) (Both x y) p = let r = inj_expr a x cc in let s = inj_expr b y cc in cc
inj_expr (Either a b) (Either x y) p = let r = inj_expr a x cc in let s = inj_expr b y cc in cc
inj_expr (Conditional c a b) (Conditional z x y) p = let q = inj_expr c z cc in let r = inj_expr a x cc in let s = inj_expr b y cc in cc
inj_expr _ _ p = cc

abbrev pub expr_code : Coded Expr
expr_code = record { code = code_expr; inj = inj_expr }
