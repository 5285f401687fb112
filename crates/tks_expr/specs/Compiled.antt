-- What an expression is resolved to: items, which are done one after the other with a stack of texts. `&&`, `||` and `?:`
-- pass over items.
use Rattle.std.specs.Prelude.{ℕ, zero, suc, Bool, false, is_some, ◌&&◌, codes, List, [], ◌∷◌, Option, Some, None, Result, Ok}
use Rattle.tks_text.specs.declared.fault.ScriptFault.{ScriptFault}
use Rattle.tks_parse.specs.Tree.{Parts, no_part, char, variable, element, nested}
use Rattle.tks_expr.specs.Operation.{after, truth_of, applied, applied_unary}
use Rattle.tks_expr.specs.Reading.{expr_of}
use Rattle.tks_expr.specs.Tree.{Expr, Literal, Made, One, Two, Both, Either, Conditional}
use Rattle.tks_expr.specs.Value.{told, by_condition, truth_text}
use Rattle.tks_expr.specs.declared.operator.Binary.{Binary}
use Rattle.tks_expr.specs.declared.sign.Join.{Join}
use Rattle.tks_expr.specs.declared.sign.Join.TheVariants.{Of, And, Or}
use Rattle.tks_expr.specs.declared.items.Leaf.{Leaf}
use Rattle.tks_expr.specs.declared.items.Leaf.TheVariants as leaf
use Rattle.tks_expr.specs.declared.items.Item.{Item}
use Rattle.tks_expr.specs.declared.items.Item.TheVariants as item

-- ---- leaves

-- a variable that stands alone
abbrev pub alone : List ℕ → Parts → Option Leaf
alone name no_part = Some (leaf.Scalar name)
alone name rest = None

-- the leaf that parts are
abbrev pub leaf_in : Parts → Option Leaf
leaf_in (variable name rest) = alone name rest
leaf_in parts = None

-- the leaf that an operand is
abbrev pub leaf_of : Expr → Option Leaf
leaf_of (Literal text) = Some (leaf.Literal text)
leaf_of (Made parts) = leaf_in parts
leaf_of e = None

-- whether an operator stands between two leaves
abbrev pub are_leaves : Join → Expr → Expr → Bool
are_leaves (Of op) a b = is_some (leaf_of a) && is_some (leaf_of b)
are_leaves join a b = false

-- ---- items

-- so many items more than those of an operator, whose operands have so many more
abbrev pub operator_passed : Option Leaf → Option Leaf → (ℕ → ℕ) → (ℕ → ℕ) → ℕ → ℕ
operator_passed (Some x) (Some y) left right n = suc n
operator_passed None (Some y) left right n = left (suc n)
operator_passed x None left right n = left (right (suc n))

-- so many items more than an expression's
abbrev pub passed : Expr → ℕ → ℕ
passed (Literal text) n = suc n
passed (Made parts) n = suc n
passed (One op a) n = passed a (suc n)
passed (Two op a b) n = operator_passed (leaf_of a) (leaf_of b) (passed a) (passed b) n
passed (Both a b) n = passed a (suc (passed b (suc n)))
passed (Either a b) n = passed a (suc (passed b (suc n)))
passed (Conditional c a b) n = passed c (suc (passed a (suc (passed b n))))

-- the item of parts
abbrev pub made_item : Parts → Option Leaf → Item
made_item parts (Some x) = item.Load x
made_item parts None = item.Make parts

-- the items of an operator before others, where those of its operands are these
abbrev pub operator_items : Binary → Option Leaf → Option Leaf → (List Item → List Item) → (List Item → List Item) → List Item → List Item
operator_items op (Some x) (Some y) left right rest = item.Two op x y ∷ rest
operator_items op None (Some y) left right rest = left (item.Right op y ∷ rest)
operator_items op x None left right rest = left (right (item.Operator op ∷ rest))

-- the items of an expression, before others
abbrev pub compiled : Expr → List Item → List Item
compiled (Literal text) rest = item.Load (leaf.Literal text) ∷ rest
compiled (Made parts) rest = made_item parts (leaf_in parts) ∷ rest
compiled (One op a) rest = compiled a (item.Sign op ∷ rest)
compiled (Two op a b) rest = operator_items op (leaf_of a) (leaf_of b) (compiled a) (compiled b) rest
compiled (Both a b) rest = compiled a (item.And (passed b 1) ∷ compiled b (item.Truth ∷ rest))
compiled (Either a b) rest = compiled a (item.Or (passed b 1) ∷ compiled b (item.Truth ∷ rest))
compiled (Conditional c a b) rest = compiled c (item.If (passed a 1) ∷ compiled a (item.Skip (passed b 0) ∷ compiled b rest))

-- the items of the last two operands of `?:`, before others
abbrev pub branches : Expr → Expr → List Item → List Item
branches a b rest = item.If (passed a 1) ∷ compiled a (item.Skip (passed b 0) ∷ compiled b rest)

-- the items of what a text spells as an expression
abbrev pub items_in : List ℕ → Result (List Item) ScriptFault
items_in text = after (expr_of text) (λ e. Ok (compiled e []))

-- ---- what they do

module _ {O : Type 0} (done : List ℕ → O) (failed : ScriptFault → O) (after : O → (List ℕ → O) → O) (made : Parts → O) where
  -- the text on top
  abbrev pub top : List (List ℕ) → O
  top [] = done []
  top (x ∷ stack) = done x

  -- the text of a leaf
  abbrev pub leaf_text : Leaf → O
  leaf_text (leaf.Literal text) = done text
  leaf_text (leaf.Scalar name) = made (variable name no_part)

  -- what an operator gives for two texts
  abbrev pub operated : Binary → List ℕ → List ℕ → O
  operated op x y = told done failed after made (applied op x y)

  -- what comes of items behind so many that are passed over, with these texts on the stack; one whose operands are missing
  -- does nothing
  abbrev pub items_do : ℕ → List Item → List (List ℕ) → O
  items_do (suc n) [] stack = top stack
  items_do (suc n) (i ∷ rest) stack = items_do n rest stack
  items_do zero [] stack = top stack
  items_do zero (item.Load x ∷ rest) stack = after (leaf_text x) (λ text. items_do 0 rest (text ∷ stack))
  items_do zero (item.Make parts ∷ rest) stack = after (made parts) (λ text. items_do 0 rest (text ∷ stack))
  items_do zero (item.Two op a b ∷ rest) stack =
      after (leaf_text a) (λ x. after (leaf_text b) (λ y. after (operated op x y) (λ z. items_do 0 rest (z ∷ stack))))
  items_do zero (item.Skip n ∷ rest) stack = items_do n rest stack
  items_do zero (item.Right op b ∷ rest) (x ∷ stack) = after (leaf_text b) (λ y. after (operated op x y) (λ z. items_do 0 rest (z ∷ stack)))
  items_do zero (item.Operator op ∷ rest) (y ∷ x ∷ stack) = after (operated op x y) (λ z. items_do 0 rest (z ∷ stack))
  items_do zero (item.Operator op ∷ rest) (y ∷ []) = items_do 0 rest []
  items_do zero (item.Sign op ∷ rest) (x ∷ stack) = after (told done failed after made (applied_unary op x)) (λ y. items_do 0 rest (y ∷ stack))
  items_do zero (item.And n ∷ rest) (x ∷ stack) = by_condition done failed after made (truth_of x) (items_do 0 rest stack) (items_do n rest (codes "0" ∷ stack))
  items_do zero (item.Or n ∷ rest) (x ∷ stack) = by_condition done failed after made (truth_of x) (items_do n rest (codes "1" ∷ stack)) (items_do 0 rest stack)
  items_do zero (item.Truth ∷ rest) (x ∷ stack) = after (truth_text done failed after made x) (λ y. items_do 0 rest (y ∷ stack))
  items_do zero (item.If n ∷ rest) (x ∷ stack) = by_condition done failed after made (truth_of x) (items_do 0 rest stack) (items_do n rest stack)
  items_do zero (i ∷ rest) [] = items_do 0 rest []
