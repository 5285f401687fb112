-- The value of an expression (expr(n)), by cases on its tree. O is the type of an evaluator's outcomes: `done` is
-- a text, `failed` an error, `after` goes on with the text that an outcome has, and `made` is the text that
-- parts make (their variables and scripts).
use Rattle.std.specs.Prelude.{ℕ, Bool, true, false, List, codes, Result, Ok, Err}
use Rattle.tks_text.specs.declared.fault.ScriptFault.{ScriptFault}
use Rattle.tks_parse.specs.Tree.{Parts}
use Rattle.tks_expr.specs.Operation.{truth_of, applied, applied_unary, result_of}
use Rattle.tks_expr.specs.Tree.{Expr, Literal, Made, One, Two, Both, Either, Conditional}

module _ {O : Type 0} (done : List ℕ → O) (failed : ScriptFault → O) (after : O → (List ℕ → O) → O) (made : Parts → O) where
  -- a text, or an error
  abbrev pub told : Result (List ℕ) ScriptFault → O
  told (Ok text) = done text
  told (Err fault) = failed fault

  -- one of two outcomes, by whether a condition holds
  abbrev pub by_condition : Result Bool ScriptFault → O → O → O
  by_condition (Ok true) where_true where_false = where_true
  by_condition (Ok false) where_true where_false = where_false
  by_condition (Err fault) where_true where_false = failed fault

  -- `1` where a text holds as a condition, else `0`
  abbrev pub truth_text : List ℕ → O
  truth_text text = by_condition (truth_of text) (done (codes "1")) (done (codes "0"))

  -- the text of an operand; `&&`, `||` and `?:` pass over what they don't need
  abbrev pub value : Expr → O
  value (Literal text) = done text
  value (Made parts) = made parts
  value (One op a) = after (value a) (λ x. told (applied_unary op x))
  value (Two op a b) = after (value a) (λ x. after (value b) (λ y. told (applied op x y)))
  value (Both a b) = after (value a) (λ x. by_condition (truth_of x) (after (value b) truth_text) (done (codes "0")))
  value (Either a b) = after (value a) (λ x. by_condition (truth_of x) (done (codes "1")) (after (value b) truth_text))
  value (Conditional c a b) = after (value c) (λ x. by_condition (truth_of x) (value a) (value b))

  -- the result of a whole expression
  abbrev pub expression_value : Expr → O
  expression_value e = after (value e) (λ x. told (result_of x))
