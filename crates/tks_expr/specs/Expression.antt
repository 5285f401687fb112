-- What a text spells as an expression (expr(n), "Operands" and "Operators"), by levels. The first fault, and a depth of 32, are
-- this project's own.
--
-- "t is X, then v" says that X stands at the front of t, and v behind it.
use Rattle.std.specs.Prelude.{◌≡◌, ℕ, zero, suc, ◌<◌, ◌≤◌, Bool, true, false, ◌||◌, ◌==◌, List, [], ◌∷◌, ◌++◌, length, codes, ◌⊎◌, Result, Ok, Err}
use Rattle.std.specs.Char.{is_digit}
use Rattle.std.specs.List.{list_all}
use Rattle.tks_text.specs.Integer.{is_space, AreDigits, BeginsOtherThan}
use Rattle.tks_text.specs.declared.fault.ScriptFault.{ScriptFault}
use Rattle.tks_parse.specs.Class.{is_name_char}
use Rattle.tks_parse.specs.Fault.{expression_syntax, too_deeply_nested}
use Rattle.tks_text.specs.Text.{BeginsNot}
use Rattle.tks_parse.specs.Script.{BracedThen, Verbatim, PartsThen, Fails, PartFails, PartsFail, BracketsFail, IndexFails}
use Rattle.tks_parse.specs.Tree.{Script, Parts, no_part, variable, element, nested, chars}
use Rattle.tks_parse.specs.declared.mode.Mode.TheVariants.{Quoted}
use Rattle.tks_parse.specs.declared.syntax.Syntax.TheVariants.{Expressions}
use Rattle.tks_expr.specs.Literal.{is_truth_word}
use Rattle.tks_expr.specs.Sign.{level_of, loosest, combined, is_letter}
use Rattle.tks_expr.specs.Tree.{Expr, Literal, Made, One, Conditional}
use Rattle.tks_expr.specs.declared.operator.Unary.{Unary}
use Rattle.tks_expr.specs.declared.operator.Unary.TheVariants.{Minus, Plus, Complement, Not}
use Rattle.tks_expr.specs.declared.operator.Binary.{Binary}
use Rattle.tks_expr.specs.declared.operator.Binary.TheVariants.{Multiply, Divide, Remainder, Add, Subtract, ShiftLeft, ShiftRight, Less, Greater, AtMost, AtLeast, Equal, NotEqual, SameText, OtherText, BitAnd, BitXor, BitOr}
use Rattle.tks_expr.specs.declared.sign.Join.{Join}
use Rattle.tks_expr.specs.declared.sign.Join.TheVariants.{Of, And, Or}

-- "t is e, then v"
abbrev pub Then : Type 1
Then = Expr → List ℕ → List ℕ → Type 0

-- no white space stands at the front: no blank, tab or newline, and no backslash before a newline
abbrev pub NoSpace : List ℕ → Type 0
NoSpace [] = Unit {0}
NoSpace (c ∷ t) = (is_space c ≡ false) × (c ≡ 92 → BeginsNot (λ d. d == 10) t)

-- white space, then v, which begins with none: blanks, tabs, newlines, and backslashes before newlines
pub data SpaceThen : List ℕ → List ℕ → Type 0 where
  none : (v : List ℕ) → NoSpace v → SpaceThen v v
  space : (c : ℕ) (t v : List ℕ) → is_space c ≡ true → SpaceThen t v → SpaceThen (c ∷ t) v
  backslash : (t v : List ℕ) → SpaceThen (10 ∷ t) v → SpaceThen (92 ∷ 10 ∷ t) v

-- ---- operands

-- an integer without a sign, as long as its digits go on: `0x` and hex digits; `0` and octal digits, or none; or decimal
-- digits, of which the first isn't `0`; or a truth word, behind which no letter stands
pub data LiteralThen : List ℕ → List ℕ → List ℕ → Type 0 where
  hex : (ds v : List ℕ) → 0 < length ds → AreDigits 16 ds → BeginsNot (λ c. is_digit c 16) v → LiteralThen (48 ∷ 120 ∷ ds) (48 ∷ 120 ∷ ds ++ v) v
  octal : (ds v : List ℕ) → AreDigits 8 ds → BeginsNot (λ c. is_digit c 8) v → BeginsNot (λ c. c == 120) (ds ++ v) → LiteralThen (48 ∷ ds) (48 ∷ ds ++ v) v
  decimal : (ds v : List ℕ) → BeginsOtherThan 48 ds → AreDigits 10 ds → BeginsNot (λ c. is_digit c 10) v → LiteralThen ds (ds ++ v) v
  word : (w v : List ℕ) → is_truth_word w ≡ true → BeginsNot is_letter v → LiteralThen w (w ++ v) v

-- one variable, element, or script in brackets
pub data IsOnePart : Parts → Type 0 where
  scalar : (name : List ℕ) → IsOnePart (variable name no_part)
  in_array : (name : List ℕ) (index : Parts) → IsOnePart (element name index no_part)
  script : (s : Script) → IsOnePart (nested s no_part)

-- an operand, where `Inside` says what stands in parentheses, and d brackets and parentheses may still be opened
pub data OperandThen (Inside : Then) (d : ℕ) : Expr → List ℕ → List ℕ → Type 0 where
  parenthesis : (e : Expr) (u w v : List ℕ) → Inside e u (41 ∷ w) → SpaceThen w v → OperandThen Inside d e (40 ∷ u) v
  part : (parts : Parts) (t w v : List ℕ) → IsOnePart parts → PartsThen parts d (Quoted Expressions) t w → SpaceThen w v → OperandThen Inside d (Made parts) t v
  quotes : (parts : Parts) (u w v : List ℕ) → PartsThen parts d (Quoted Expressions) u (34 ∷ w) → SpaceThen w v → OperandThen Inside d (Made parts) (34 ∷ u) v
  braces : (inside value u w v : List ℕ) → BracedThen inside u w → Verbatim inside value → SpaceThen w v → OperandThen Inside d (Made (chars value no_part)) (123 ∷ u) v
  literal : (text t w v : List ℕ) → LiteralThen text t w → SpaceThen w v → OperandThen Inside d (Literal text) t v

-- the sign of an operator of one operand
abbrev pub sign_of : Unary → ℕ
sign_of Minus = 45
sign_of Plus = 43
sign_of Complement = 126
sign_of Not = 33

-- no white space and no sign stands at the front
abbrev pub StartsOperand : List ℕ → Type 0
StartsOperand [] = Unit {0}
StartsOperand (c ∷ u) = NoSpace (c ∷ u) × ((op : Unary) → c ≡ sign_of op → ⊥)

-- signs and an operand, with white space before each
pub data SignedThen (Operand : Then) : Expr → List ℕ → List ℕ → Type 0 where
  space : (c : ℕ) (e : Expr) (t v : List ℕ) → is_space c ≡ true → SignedThen Operand e t v → SignedThen Operand e (c ∷ t) v
  backslash : (e : Expr) (t v : List ℕ) → SignedThen Operand e (10 ∷ t) v → SignedThen Operand e (92 ∷ 10 ∷ t) v
  sign : (op : Unary) (e : Expr) (t v : List ℕ) → SignedThen Operand e t v → SignedThen Operand (One op e) (sign_of op ∷ t) v
  operand : (e : Expr) (t v : List ℕ) → StartsOperand t → Operand e t v → SignedThen Operand e t v

-- ---- levels

-- how an operator of two operands is written
abbrev pub binary_written : Binary → List ℕ
binary_written Multiply = codes "*"
binary_written Divide = codes "/"
binary_written Remainder = codes "%"
binary_written Add = codes "+"
binary_written Subtract = codes "-"
binary_written ShiftLeft = codes "<<"
binary_written ShiftRight = codes ">>"
binary_written Less = codes "<"
binary_written Greater = codes ">"
binary_written AtMost = codes "<="
binary_written AtLeast = codes ">="
binary_written Equal = codes "=="
binary_written NotEqual = codes "!="
binary_written SameText = codes "eq"
binary_written OtherText = codes "ne"
binary_written BitAnd = codes "&"
binary_written BitXor = codes "^"
binary_written BitOr = codes "|"

abbrev pub written : Join → List ℕ
written (Of op) = binary_written op
written And = codes "&&"
written Or = codes "||"

-- `eq` and `ne` are words
abbrev pub is_word : Join → Bool
is_word op = list_all is_letter (written op)

-- an operator is written at the front of t, then v, where no letter stands behind a word
abbrev pub Stands : Join → List ℕ → List ℕ → Type 0
Stands op t v = (t ≡ written op ++ v) × (is_word op ≡ true → BeginsNot is_letter v)

-- the operator that t begins with, the longest one, then v
abbrev pub JoinThen : Join → List ℕ → List ℕ → Type 0
JoinThen op t v = Stands op t v × ((other : Join) (w : List ℕ) → Stands other t w → length (written other) ≤ length (written op))

-- t begins with no operator of this level
abbrev pub NoJoin : ℕ → List ℕ → Type 0
NoJoin n t = (op : Join) (v : List ℕ) → JoinThen op t v → level_of op ≡ n → ⊥

-- operands of the level below with operators of this level between them, to the left
pub data ChainThen (Below : Then) (n : ℕ) : Expr → List ℕ → List ℕ → Type 0 where
  first : (e : Expr) (t v : List ℕ) → Below e t v → ChainThen Below n e t v
  more : (op : Join) (a b : Expr) (t u w v : List ℕ) → ChainThen Below n a t u → level_of op ≡ n → JoinThen op u w → Below b w v → ChainThen Below n (combined op a b) t v

-- an expression of a level: up to where no operator of it, or of a tighter one, stands
abbrev pub LevelThen : Then → ℕ → Then
LevelThen Operand zero e t v = SignedThen Operand e t v
LevelThen Operand (suc n) e t v = ChainThen (LevelThen Operand n) (suc n) e t v × NoJoin (suc n) v

-- ---- `?:`, to the right

pub data ConditionalThen (Inside Operand : Then) : Expr → List ℕ → List ℕ → Type 0 where
  binary : (e : Expr) (t v : List ℕ) → LevelThen Operand loosest e t v → BeginsNot (λ c. c == 63) v → ConditionalThen Inside Operand e t v
  conditional : (c a b : Expr) (t u w v : List ℕ) → LevelThen Operand loosest c t (63 ∷ u) → Inside a u (58 ∷ w) → Inside b w v → ConditionalThen Inside Operand (Conditional c a b) t v

-- what stands in parentheses, and on either side of a `:`, with d of them and of brackets left to open
abbrev pub InsideThen : ℕ → Then
InsideThen zero e t v = ⊥
InsideThen (suc d) e t v = ConditionalThen (InsideThen d) (OperandThen (InsideThen d) d) e t v

abbrev pub ExprThen : ℕ → Then
ExprThen d = ConditionalThen (InsideThen d) (OperandThen (InsideThen d) d)

-- ---- faults

-- what may begin an operand that is no literal
abbrev pub opens_operand : ℕ → Bool
opens_operand c = (c == 40) || (c == 91) || (c == 36) || (c == 34) || (c == 123)

-- an operand with a fault: of a script in brackets its own, a nesting too deep, or bad syntax
pub data OperandFails (Inside : Then) (InsideFails : Fails) (d : ℕ) : List ℕ → ScriptFault → Type 0 where
  in_parentheses : (u : List ℕ) (fault : ScriptFault) → InsideFails u fault → OperandFails Inside InsideFails d (40 ∷ u) fault
  unclosed : (e : Expr) (u v : List ℕ) → Inside e u v → BeginsNot (λ c. c == 41) v → OperandFails Inside InsideFails d (40 ∷ u) expression_syntax
  in_part : (t : List ℕ) (fault : ScriptFault) → PartFails (BracketsFail d) (IndexFails d) (Quoted Expressions) t fault → OperandFails Inside InsideFails d t fault
  lone_dollar : (u : List ℕ) → BeginsNot (λ c. is_name_char c || (c == 123)) u → OperandFails Inside InsideFails d (36 ∷ u) expression_syntax
  in_quotes : (u : List ℕ) (fault : ScriptFault) → PartsFail (BracketsFail d) (IndexFails d) d (Quoted Expressions) u fault → OperandFails Inside InsideFails d (34 ∷ u) fault
  quote_unclosed : (u : List ℕ) (parts : Parts) → PartsThen parts d (Quoted Expressions) u [] → OperandFails Inside InsideFails d (34 ∷ u) expression_syntax
  brace_unclosed : (u : List ℕ) → ((inside v : List ℕ) → BracedThen inside u v → ⊥) → OperandFails Inside InsideFails d (123 ∷ u) expression_syntax
  no_operand : (t : List ℕ) → BeginsNot opens_operand t → ((text v : List ℕ) → LiteralThen text t v → ⊥) → OperandFails Inside InsideFails d t expression_syntax

pub data SignedFails (OperandFault : Fails) : List ℕ → ScriptFault → Type 0 where
  space : (c : ℕ) (t : List ℕ) (fault : ScriptFault) → is_space c ≡ true → SignedFails OperandFault t fault → SignedFails OperandFault (c ∷ t) fault
  backslash : (t : List ℕ) (fault : ScriptFault) → SignedFails OperandFault (10 ∷ t) fault → SignedFails OperandFault (92 ∷ 10 ∷ t) fault
  sign : (op : Unary) (t : List ℕ) (fault : ScriptFault) → SignedFails OperandFault t fault → SignedFails OperandFault (sign_of op ∷ t) fault
  operand : (t : List ℕ) (fault : ScriptFault) → StartsOperand t → OperandFault t fault → SignedFails OperandFault t fault

-- the first operand of a level fails, or one behind an operator
abbrev pub LevelFails : Then → Fails → ℕ → Fails
LevelFails Operand OperandFault zero t fault = SignedFails OperandFault t fault
LevelFails Operand OperandFault (suc n) t fault =
    LevelFails Operand OperandFault n t fault
    ⊎ ((op : Join) × (a : Expr) × (u w : List ℕ) × ChainThen (LevelThen Operand n) (suc n) a t u × (level_of op ≡ suc n) × JoinThen op u w × LevelFails Operand OperandFault n w fault)

pub data ConditionalFails (Inside Operand : Then) (InsideFails OperandFault : Fails) : List ℕ → ScriptFault → Type 0 where
  condition : (t : List ℕ) (fault : ScriptFault) → LevelFails Operand OperandFault loosest t fault → ConditionalFails Inside Operand InsideFails OperandFault t fault
  middle : (c : Expr) (t u : List ℕ) (fault : ScriptFault) → LevelThen Operand loosest c t (63 ∷ u) → InsideFails u fault → ConditionalFails Inside Operand InsideFails OperandFault t fault
  no_colon : (c a : Expr) (t u v : List ℕ) → LevelThen Operand loosest c t (63 ∷ u) → Inside a u v → BeginsNot (λ x. x == 58) v → ConditionalFails Inside Operand InsideFails OperandFault t expression_syntax
  right : (c a : Expr) (t u w : List ℕ) (fault : ScriptFault) → LevelThen Operand loosest c t (63 ∷ u) → Inside a u (58 ∷ w) → InsideFails w fault → ConditionalFails Inside Operand InsideFails OperandFault t fault

abbrev pub InsideFails : ℕ → Fails
InsideFails zero t fault = fault ≡ too_deeply_nested
InsideFails (suc d) t fault = ConditionalFails (InsideThen d) (OperandThen (InsideThen d) d) (InsideFails d) (OperandFails (InsideThen d) (InsideFails d) d) t fault

abbrev pub ExprFails : ℕ → Fails
ExprFails d = ConditionalFails (InsideThen d) (OperandThen (InsideThen d) d) (InsideFails d) (OperandFails (InsideThen d) (InsideFails d) d)

-- the text t spells this expression, or has this fault first
abbrev pub ExprOf : List ℕ → Result Expr ScriptFault → Type 0
ExprOf t (Ok e) = ExprThen 32 e t []
ExprOf t (Err fault) = ExprFails 32 t fault ⊎ ((e : Expr) × (c : ℕ) × (v : List ℕ) × ExprThen 32 e t (c ∷ v) × (fault ≡ expression_syntax))
