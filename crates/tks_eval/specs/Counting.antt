-- What the items of an expression do with a stack of texts.
use Rattle.std.specs.Prelude.{ℕ, if◌then◌else◌, codes, List, [], ◌∷◌, Option, Some, None, Result, Ok}
use Rattle.tks_text.specs.declared.limits.Limits.{Limits}
use Rattle.tks_vars.specs.Variables.{Variables}
use Rattle.tks_expr.specs.Compiled.{items_do}
use Rattle.tks_expr.specs.Operation.{truth_of, applied, applied_unary}
use Rattle.tks_expr.specs.declared.operator.Binary.{Binary}
use Rattle.tks_expr.specs.declared.items.Leaf.{Leaf}
use Rattle.tks_expr.specs.declared.items.Leaf.TheVariants as leaf
use Rattle.tks_expr.specs.declared.items.Item.{Item}
use Rattle.tks_expr.specs.declared.items.Item.TheVariants as item
use Rattle.tks_tcl.specs.Cause.{Cause, after, value_or_fault}
use Rattle.tks_eval.specs.Outcome.{Outcome, Next, Level, fails}
use Rattle.tks_eval.specs.Outcome as outcome
use Rattle.tks_eval.specs.Evaluation.{text_done, and_then, made_text, with_value}

-- texts, with another on top where there is one
abbrev pub stack_of : Option (List ℕ) → List (List ℕ) → List (List ℕ)
stack_of None below = below
stack_of (Some top) below = top ∷ below

-- the text on top, if there is one
abbrev pub on_top : List (List ℕ) → List ℕ
on_top [] = []
on_top (x ∷ stack) = x

-- a text on top, and nothing passed over
abbrev pub put : List (List ℕ) → List ℕ → Result (ℕ × List (List ℕ)) Cause
put stack text = Ok (0, text ∷ stack)

-- what an operator puts there
abbrev pub put_two : Binary → List (List ℕ) → List ℕ → List ℕ → Result (ℕ × List (List ℕ)) Cause
put_two op stack x y = after (value_or_fault (applied op x y)) (put stack)

-- what follows on the truth of a text
abbrev pub by_truth : List ℕ → ℕ × List (List ℕ) → ℕ × List (List ℕ) → Result (ℕ × List (List ℕ)) Cause
by_truth x first second = after (value_or_fault (truth_of x)) (λ holds. Ok (if holds then first else second))

module _ (limits : Limits) (variables : Variables) where
  -- the text of a leaf
  abbrev pub leaf_value : Leaf → Result (List ℕ) Cause
  leaf_value (leaf.Literal text) = Ok text
  leaf_value (leaf.Scalar name) = with_value limits variables name []

  -- what an operator between two leaves gives
  abbrev pub two_leaves : Binary → Leaf → Leaf → Result (List ℕ) Cause
  two_leaves op a b = after (leaf_value a) (λ x. after (leaf_value b) (λ y. value_or_fault (applied op x y)))

  -- how many items an item passes over, and the stack behind it, where this text was on top
  abbrev pub done_on_top : Item → List ℕ → List (List ℕ) → Result (ℕ × List (List ℕ)) Cause
  done_on_top (item.Right op b) x stack = after (leaf_value b) (put_two op stack x)
  done_on_top (item.Operator op) y [] = Ok (0, [])
  done_on_top (item.Operator op) y (x ∷ stack) = put_two op stack x y
  done_on_top (item.Sign op) x stack = after (value_or_fault (applied_unary op x)) (put stack)
  done_on_top (item.And n) x stack = by_truth x (0, stack) (n, codes "0" ∷ stack)
  done_on_top (item.Or n) x stack = by_truth x (n, codes "1" ∷ stack) (0, stack)
  done_on_top item.Truth x stack = by_truth x (0, codes "1" ∷ stack) (0, codes "0" ∷ stack)
  done_on_top (item.If n) x stack = by_truth x (0, stack) (n, stack)
  done_on_top i x stack = Ok (0, stack)

  -- the same, whatever was on top
  abbrev pub item_done : Item → List (List ℕ) → Result (ℕ × List (List ℕ)) Cause
  item_done (item.Load x) stack = after (leaf_value x) (put stack)
  item_done (item.Two op a b) stack = after (two_leaves op a b) (put stack)
  item_done (item.Skip n) stack = Ok (n, stack)
  item_done (item.Make parts) stack = Ok (0, stack)
  item_done i [] = Ok (0, [])
  item_done i (x ∷ stack) = done_on_top i x stack

module _ {S : Type 0} (limits : Limits) (inner : Level S) where
  -- what items do, with these texts on the stack
  abbrev pub items_go : List Item → List (List ℕ) → Next S
  items_go items stack = items_do text_done (fails limits) and_then (made_text limits inner) 0 items stack

  -- what follows on a text that an expression waited for: it comes on top, and then the items behind it
  abbrev pub counts_on : List Item × List (List ℕ) → Outcome S → Outcome S
  counts_on c whole = outcome.after whole (λ text. items_go c.0 (text ∷ c.1))
