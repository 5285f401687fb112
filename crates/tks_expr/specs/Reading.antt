-- The expression that a text spells (expr(n)), read from left to right.
use Rattle.std.specs.Prelude.{ℕ, zero, suc, ◌-◌, Bool, false, ◌||◌, ◌&&◌, ◌==◌, nat_le, List, [], ◌∷◌, length, take, drop, Option, Some, None, Result, Ok, Err, if◌then◌else◌}
use Rattle.tks_text.specs.Integer.{is_space}
use Rattle.tks_text.specs.Run.{Step, stop, fails, takes, Run}
use Rattle.tks_text.specs.declared.fault.ScriptFault.{ScriptFault}
use Rattle.tks_parse.specs.Class.{is_name_char}
use Rattle.tks_parse.specs.Fault.{expression_syntax, too_deeply_nested}
use Rattle.tks_parse.specs.Reading as script
use Rattle.tks_parse.specs.Tree.{Script, Parts, no_part}
use Rattle.tks_parse.specs.declared.syntax.Syntax.{Syntax}
use Rattle.tks_parse.specs.declared.syntax.Syntax.TheVariants.{Expressions}
use Rattle.tks_expr.specs.Literal.{literal_len}
use Rattle.tks_expr.specs.Sign.{level_of, loosest, combined, join_at, unary_of}
use Rattle.tks_expr.specs.Tree.{Expr, Literal, Made, One, Conditional}
use Rattle.tks_expr.specs.declared.operator.Unary.{Unary}
use Rattle.tks_expr.specs.declared.sign.Join.{Join}

-- what a reading gives: an expression and the text behind it, or the first fault
abbrev pub Read : Type 0
Read = Result (Expr × List ℕ) ScriptFault

abbrev pub then_read : Read → (Expr → List ℕ → Read) → Read
then_read (Ok x) next = next x.0 x.1
then_read (Err f) next = Err f

abbrev pub bad_syntax : Read
bad_syntax = Err expression_syntax

-- whether a newline stands at the front
abbrev pub begins_line : List ℕ → Bool
begins_line [] = false
begins_line (c ∷ u) = c == 10

-- whether white space stands at the front: a blank, a tab, a newline, or a backslash before a newline
abbrev pub begins_space : List ℕ → Bool
begins_space [] = false
begins_space (c ∷ u) = is_space c || ((c == 92) && begins_line u)

-- a text behind its white space
unfoldable pub trim : List ℕ → List ℕ
trim [] = []
trim (c ∷ u) = if begins_space (c ∷ u) then trim u else c ∷ u

-- ---- operands: each takes the white space behind it

-- a variable's name, or one in braces, stands at the front
abbrev pub begins_name : List ℕ → Bool
begins_name [] = false
begins_name (c ∷ u) = is_name_char c || (c == 123)

-- a variable or a script in brackets, behind the `$` or `[`
abbrev pub made : List ℕ → Step ScriptFault Parts → Read
made u stop = bad_syntax
made u (fails f) = Err f
made u (takes g n) = Ok (Made (g no_part), trim (drop n u))

-- a text in quotes or braces, behind the character that opens it
abbrev pub made_text : List ℕ → Run ScriptFault Parts → Read
made_text u r = elim r.fault [ None ↦ Ok (Made r.items, trim (drop r.taken u)) | Some f ↦ Err f ]

-- an integer or a truth word
unfoldable pub literal : List ℕ → Read
literal t = let n = literal_len t in if n == 0 then bad_syntax else Ok (Literal (take n t), trim (drop n t))

-- behind an expression in parentheses
abbrev pub close : Expr → List ℕ → Read
close e [] = bad_syntax
close e (c ∷ v) = if c == 41 then Ok (e, trim v) else bad_syntax

module _ (inner : List ℕ → Read) (nest : List ℕ → Run ScriptFault Script) (index : Syntax → List ℕ → Run ScriptFault Parts) where
  -- in parentheses stands what `inner` reads
  unfoldable pub operand : List ℕ → Read
  operand [] = literal []
  operand (c ∷ u) =
      if c == 40 then then_read (inner u) close
      else (if c == 91 then made u (script.nested_step nest u)
      else (if (c == 36) && begins_name u then made u (script.variable_step index Expressions u)
      else (if c == 34 then made_text u (script.quoted_at nest index Expressions u)
      else (if c == 123 then made_text u (script.braced_at Expressions u)
      else literal (c ∷ u)))))

-- ---- operators

-- the signs at the front of a text, with white space between them, and what stands behind them
abbrev pub signs : List ℕ → List Unary × List ℕ
signs [] = ([], [])
signs (c ∷ u) =
    if begins_space (c ∷ u) then signs u
    else elim (unary_of c) [ None ↦ ([], c ∷ u) | Some op ↦ (op ∷ (signs u).0, (signs u).1) ]

-- an operand under its signs
abbrev pub under : List Unary → Expr → Expr
under [] e = e
under (op ∷ ops) e = One op (under ops e)

-- white space and signs, and an operand
abbrev pub signed : (List ℕ → Read) → List ℕ → Read
signed operand t = then_read (operand (signs t).1) (λ e v. Ok (under (signs t).0 e, v))

-- the operator, where it is `taken`
abbrev pub when : (Join → Bool) → Option (Join × ℕ) → Option (Join × ℕ)
when taken None = None
when taken (Some x) = if taken x.0 then Some x else None

-- go on with an operator and how many bytes it takes behind its first, or end with `left`
abbrev pub on_join : Read → Option (Join × ℕ) → (Join → ℕ → Read) → Read
on_join left None go = left
on_join left (Some x) go = go x.0 x.1

-- behind a left operand and k bytes: operators that are `taken`, and their right operands
abbrev pub chain : (Join → Bool) → (Join → List ℕ → Read) → Expr → ℕ → List ℕ → Read
chain taken right left k [] = Ok (left, [])
chain taken right left (suc k) (c ∷ u) = chain taken right left k u
chain taken right left zero (c ∷ u) = on_join (Ok (left, c ∷ u)) (when taken (join_at (c ∷ u)))
    (λ op n. then_read (right op (drop n u)) (λ b v. chain taken right (combined op left b) (length u - length v) u))

-- an operator of this level; one of it or of a tighter level
abbrev pub is_level : ℕ → Join → Bool
is_level n op = level_of op == n

abbrev pub within_level : ℕ → Join → Bool
within_level n op = nat_le (level_of op) n

-- the expressions of a level: those of the level below, with operators of the level between them
unfoldable pub level : (List ℕ → Read) → ℕ → List ℕ → Read
level operand zero t = signed operand t
level operand (suc n) t = then_read (level operand n t) (λ a u. chain (is_level (suc n)) (λ op. level operand n) a 0 u)

-- ---- `?:`

-- behind the middle operand
abbrev pub colon : (List ℕ → Read) → Expr → Expr → List ℕ → Read
colon inner c a [] = bad_syntax
colon inner c a (x ∷ u) = if x == 58 then then_read (inner u) (λ b v. Ok (Conditional c a b, v)) else bad_syntax

-- behind the condition, where there is a `?`
abbrev pub question : (List ℕ → Read) → Expr → List ℕ → Read
question inner c [] = Ok (c, [])
question inner c (x ∷ u) = if x == 63 then then_read (inner u) (colon inner c) else Ok (c, x ∷ u)

abbrev pub conditional : (List ℕ → Read) → (List ℕ → Read) → List ℕ → Read
conditional inner operand t = then_read (level operand loosest t) (question inner)

-- ---- all of it, with `depth` brackets, parentheses and `?:` left to open

unfoldable pub inner : ℕ → List ℕ → Read
inner zero t = Err too_deeply_nested
inner (suc depth) t = conditional (inner depth) (operand (inner depth) (script.nest depth) (script.index depth)) t

abbrev pub operand_at : ℕ → List ℕ → Read
operand_at depth t = operand (inner depth) (script.nest depth) (script.index depth) t

abbrev pub level_at : ℕ → ℕ → List ℕ → Read
level_at depth n t = level (operand_at depth) n t

abbrev pub conditional_at : ℕ → List ℕ → Read
conditional_at depth t = conditional (inner depth) (operand_at depth) t

-- nothing stands behind the whole
abbrev pub ended : Expr → List ℕ → Result Expr ScriptFault
ended e [] = Ok e
ended e (c ∷ v) = Err expression_syntax

abbrev pub ended_read : Read → Result Expr ScriptFault
ended_read (Ok x) = ended x.0 x.1
ended_read (Err f) = Err f

-- the expression of a whole text, or its first fault
unfoldable pub expr_of : List ℕ → Result Expr ScriptFault
expr_of t = ended_read (conditional_at 32 t)
