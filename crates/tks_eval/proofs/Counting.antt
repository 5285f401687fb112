-- What items do, one after the other, is what an expression does; and what weighs less.
use Rattle.std.proofs.Common.{◌≡◌, ◌≤◌, ◌+◌, ◌-◌, ℕ, zero, suc, Bool, true, false, if◌then◌else◌, List, [], ◌∷◌, drop, length, min, Result, Ok, Err, refl, sym, ap, ◌∙◌, arith, codes}
use Rattle.tks_text.specs.declared.fault.ScriptFault.{ScriptFault}
use Rattle.tks_text.specs.declared.limits.Limits.{Limits}
use Rattle.tks_parse.proofs.Drops.{drop_next}
use Rattle.tks_parse.specs.Tree.{Parts}
use Rattle.tks_vars.specs.Variables.{Variables}
use Rattle.tks_expr.specs.Compiled.{compiled, items_in, items_do, leaf_text, operated}
use Rattle.tks_expr.specs.Compiled as items
use Rattle.tks_expr.specs.Operation.{applied, applied_unary, truth_of}
use Rattle.tks_expr.specs.Operation as texts
use Rattle.tks_expr.specs.Reading.{expr_of}
use Rattle.tks_expr.specs.Tree.{Expr}
use Rattle.tks_expr.specs.Value.{told, by_condition, truth_text}
use Rattle.tks_expr.specs.declared.operator.Binary.{Binary}
use Rattle.tks_expr.specs.declared.items.Leaf.{Leaf}
use Rattle.tks_expr.specs.declared.items.Leaf.TheVariants as leaf
use Rattle.tks_expr.specs.declared.items.Item.{Item}
use Rattle.tks_expr.specs.declared.items.Item.TheVariants as item
use Rattle.tks_expr.proofs.Compiled.{items_make}
use Rattle.tks_tcl.specs.Cause.{Cause, Fault, OverLimit, value_or_fault}
use Rattle.tks_tcl.specs.Cause as tcl
use Rattle.tks_eval.specs.Outcome.{Outcome, End, Next, Level, after, fails, given}
use Rattle.tks_eval.specs.Evaluation.{text_done, and_then, made_text, with_value, value_does, expression_does}
use Rattle.tks_eval.specs.Counting.{leaf_value, two_leaves, put, put_two, done_on_top, item_done, items_go}
use Rattle.tks_eval.specs.Machine.{items_weight}
use Rattle.tks_eval.proofs.After.{after_after, after_done, after_fails, given_after, given_same}

-- no more items are passed over than there are
pub drop_most : {X : Type 0} (n : ℕ) (xs : List X) → drop (min n (length xs)) xs ≡ drop n xs
drop_most zero xs = let least : min 0 (length xs) ≡ 0 = omega arith in ap (λ k. drop k xs) least
drop_most (suc n) [] = let least : min (suc n) 0 ≡ 0 = omega arith in ap (λ k. drop k []) least
drop_most (suc n) (x ∷ xs) = let least : min (suc n) (suc (length xs)) ≡ suc (min n (length xs)) = omega arith in ap (λ k. drop k (x ∷ xs)) least ∙ drop_most n xs

-- ---- what is left of items

-- what is left behind the first of what is left
pub left_next : {X : Type 0} (all rest more : List X) (x : X) → rest ≡ x ∷ more → rest ≡ drop (length all - length rest) all → length rest ≤ length all → more ≡ drop (length all - length more) all
left_next all rest more x is left within =
    let n = length all - length rest in
    let one_more : length all - length more ≡ n + 1 = omega (arith, ap length is, within) in
    sym (ap (drop 1) (sym left ∙ is)) ∙ sym (drop_next n all) ∙ ap (λ k. drop k all) (sym one_more)

-- and behind more of them
pub left_behind : {X : Type 0} (k : ℕ) (all rest : List X) → rest ≡ drop (length all - length rest) all → length rest ≤ length all → drop k rest ≡ drop (length all - length (drop k rest)) all
left_behind zero all rest left within = left
left_behind (suc k) all [] left within = left
left_behind (suc k) all (x ∷ more) left within = left_behind k all more (left_next all (x ∷ more) more x refl left within) (omega (arith, within))

-- ---- what they do

module _ {S : Type 0} (limits : Limits) (state : S) (variables : Variables) (fuel : ℕ) where
  -- what follows on one that is a text
  given_then : (r : Result (List ℕ) Cause) (next : List ℕ → Next S)
      → after (given limits r state variables fuel (λ text. End 0 text state variables fuel)) next ≡ given limits r state variables fuel (λ text. next text state variables fuel)
  given_then (Ok text) next = refl
  given_then (Err (Fault fault)) next = after_fails limits fault state variables fuel next
  given_then (Err OverLimit) next = refl

  module _ (inner : Level S) where
    abbrev does : ℕ → List Item → List (List ℕ) → Next S
    does = items_do text_done (fails limits) and_then (made_text limits inner)

    abbrev does_here : ℕ × List (List ℕ) → List Item → Outcome S
    does_here x rest = does x.0 rest x.1 state variables fuel

    leaf_then : (x : Leaf) (next : List ℕ → Next S)
        → after (leaf_text text_done (fails limits) and_then (made_text limits inner) x state variables fuel) next ≡ given limits (leaf_value limits variables x) state variables fuel (λ text. next text state variables fuel)
    leaf_then (leaf.Literal text) next = refl
    leaf_then (leaf.Scalar name) next = given_then (with_value limits variables name []) next

    told_then : (r : Result (List ℕ) ScriptFault) (next : List ℕ → Next S)
        → after (told text_done (fails limits) and_then (made_text limits inner) r state variables fuel) next ≡ given limits (value_or_fault r) state variables fuel (λ text. next text state variables fuel)
    told_then (Ok text) next = refl
    told_then (Err fault) next = after_fails limits fault state variables fuel next

    chosen_then : (r : Result Bool ScriptFault) (first second : Next S) (x y : ℕ × List (List ℕ)) (rest : List Item)
        → first state variables fuel ≡ does_here x rest → second state variables fuel ≡ does_here y rest
        → by_condition text_done (fails limits) and_then (made_text limits inner) r first second state variables fuel
        ≡ given limits (tcl.after (value_or_fault r) (λ holds. Ok (if holds then x else y))) state variables fuel (λ z. does_here z rest)
    chosen_then (Ok true) first second x y rest h k = h
    chosen_then (Ok false) first second x y rest h k = k
    chosen_then (Err fault) first second x y rest h k = refl

    truth_then : (x : List ℕ) (stack : List (List ℕ)) (rest : List Item)
        → after (truth_text text_done (fails limits) and_then (made_text limits inner) x state variables fuel) (λ y. does 0 rest (y ∷ stack))
        ≡ given limits (done_on_top limits variables item.Truth x stack) state variables fuel (λ z. does_here z rest)
    truth_then x stack rest = by (truth_of x)
      where
        by : (r : Result Bool ScriptFault)
            → after (by_condition text_done (fails limits) and_then (made_text limits inner) r (text_done (codes "1")) (text_done (codes "0")) state variables fuel) (λ y. does 0 rest (y ∷ stack))
            ≡ given limits (tcl.after (value_or_fault r) (λ holds. Ok (if holds then (0, codes "1" ∷ stack) else (0, codes "0" ∷ stack)))) state variables fuel (λ z. does_here z rest)
        by (Ok true) = refl
        by (Ok false) = refl
        by (Err fault) = after_fails limits fault state variables fuel (λ y. does 0 rest (y ∷ stack))

    -- an operator between two texts
    two_then : (op : Binary) (x y : List ℕ) (stack : List (List ℕ)) (rest : List Item)
        → after (operated text_done (fails limits) and_then (made_text limits inner) op x y state variables fuel) (λ z. does 0 rest (z ∷ stack))
        ≡ given limits (put_two op stack x y) state variables fuel (λ z. does_here z rest)
    two_then op x y stack rest =
        told_then (applied op x y) (λ z. does 0 rest (z ∷ stack)) ∙ sym (given_after limits state variables fuel (value_or_fault (applied op x y)) (put stack) (λ z. does_here z rest))

    right_then : (op : Binary) (b : Leaf) (x : List ℕ) (stack : List (List ℕ)) (rest : List Item)
        → after (leaf_text text_done (fails limits) and_then (made_text limits inner) b state variables fuel) (λ y. and_then (operated text_done (fails limits) and_then (made_text limits inner) op x y) (λ z. does 0 rest (z ∷ stack)))
        ≡ given limits (tcl.after (leaf_value limits variables b) (put_two op stack x)) state variables fuel (λ z. does_here z rest)
    right_then op b x stack rest =
        leaf_then b (λ y. and_then (operated text_done (fails limits) and_then (made_text limits inner) op x y) (λ z. does 0 rest (z ∷ stack)))
        ∙ given_same limits state variables fuel (leaf_value limits variables b) _ _ (λ y. two_then op x y stack rest)
        ∙ sym (given_after limits state variables fuel (leaf_value limits variables b) (put_two op stack x) (λ z. does_here z rest))

    -- an operator between two leaves
    leaves_then : (op : Binary) (a b : Leaf) (next : List ℕ → Next S)
        → after (leaf_text text_done (fails limits) and_then (made_text limits inner) a state variables fuel) (λ x. and_then (leaf_text text_done (fails limits) and_then (made_text limits inner) b)
        (λ y. and_then (operated text_done (fails limits) and_then (made_text limits inner) op x y) next))
        ≡ given limits (two_leaves limits variables op a b) state variables fuel (λ z. next z state variables fuel)
    leaves_then op a b next =
        leaf_then a (λ x. and_then (leaf_text text_done (fails limits) and_then (made_text limits inner) b) (λ y. and_then (operated text_done (fails limits) and_then (made_text limits inner) op x y) next))
        ∙ given_same limits state variables fuel (leaf_value limits variables a) _ _ (λ x.
        leaf_then b (λ y. and_then (operated text_done (fails limits) and_then (made_text limits inner) op x y) next)
        ∙ given_same limits state variables fuel (leaf_value limits variables b) _ _ (λ y. told_then (applied op x y) next)
        ∙ sym (given_after limits state variables fuel (leaf_value limits variables b) (λ y. value_or_fault (applied op x y)) (λ z. next z state variables fuel)))
        ∙ sym (given_after limits state variables fuel (leaf_value limits variables a) (λ x. tcl.after (leaf_value limits variables b) (λ y. value_or_fault (applied op x y))) (λ z. next z state variables fuel))

    -- it is all of an expression
    pub leaves_go : (op : Binary) (a b : Leaf)
        → items_go limits inner (item.Two op a b ∷ []) [] state variables fuel ≡ given limits (two_leaves limits variables op a b) state variables fuel (λ z. End 0 z state variables fuel)
    leaves_go op a b = leaves_then op a b (λ z. does 0 [] (z ∷ []))

    -- an item that makes no text
    pub item_then : (i : Item) (stack : List (List ℕ)) (rest : List Item) → ((parts : Parts) → i ≡ item.Make parts → ⊥)
        → does 0 (i ∷ rest) stack state variables fuel ≡ given limits (item_done limits variables i stack) state variables fuel (λ z. does_here z rest)
    item_then (item.Load a) stack rest other =
        leaf_then a (λ text. does 0 rest (text ∷ stack)) ∙ sym (given_after limits state variables fuel (leaf_value limits variables a) (put stack) (λ z. does_here z rest))
    item_then (item.Make parts) stack rest other = absurd (other parts refl)
    item_then (item.Two op a b) stack rest other =
        leaves_then op a b (λ z. does 0 rest (z ∷ stack)) ∙ sym (given_after limits state variables fuel (two_leaves limits variables op a b) (put stack) (λ z. does_here z rest))
    item_then (item.Skip n) stack rest other = refl
    item_then (item.Right op b) [] rest other = refl
    item_then (item.Right op b) (x ∷ stack) rest other = right_then op b x stack rest
    item_then (item.Operator op) [] rest other = refl
    item_then (item.Operator op) (y ∷ []) rest other = refl
    item_then (item.Operator op) (y ∷ x ∷ stack) rest other = two_then op x y stack rest
    item_then (item.Sign op) [] rest other = refl
    item_then (item.Sign op) (x ∷ stack) rest other =
        told_then (applied_unary op x) (λ y. does 0 rest (y ∷ stack)) ∙ sym (given_after limits state variables fuel (value_or_fault (applied_unary op x)) (put stack) (λ z. does_here z rest))
    item_then (item.And n) [] rest other = refl
    item_then (item.And n) (x ∷ stack) rest other = chosen_then (truth_of x) (does 0 rest stack) (does n rest (codes "0" ∷ stack)) (0, stack) (n, codes "0" ∷ stack) rest refl refl
    item_then (item.Or n) [] rest other = refl
    item_then (item.Or n) (x ∷ stack) rest other = chosen_then (truth_of x) (does n rest (codes "1" ∷ stack)) (does 0 rest stack) (n, codes "1" ∷ stack) (0, stack) rest refl refl
    item_then item.Truth [] rest other = refl
    item_then item.Truth (x ∷ stack) rest other = truth_then x stack rest
    item_then (item.If n) [] rest other = refl
    item_then (item.If n) (x ∷ stack) rest other = chosen_then (truth_of x) (does 0 rest stack) (does n rest stack) (0, stack) (n, stack) rest refl refl

    -- items are passed over
    pub passed_over : (n : ℕ) (rest : List Item) (stack : List (List ℕ)) → does n rest stack state variables fuel ≡ does 0 (drop n rest) stack state variables fuel
    passed_over zero rest stack = refl
    passed_over (suc n) [] stack = refl
    passed_over (suc n) (i ∷ rest) stack = passed_over n rest stack

    -- an expression does what its items do
    then_done : (text : List ℕ) (next : List ℕ → Next S) → and_then (text_done text) next ≡ next text
    then_done text next = λ i s v u. next text s v u

    then_fails : (fault : ScriptFault) (next : List ℕ → Next S) → and_then (fails limits fault) next ≡ fails limits fault
    then_fails fault next = λ i s v u. after_fails limits fault s v u next i

    then_then : (first : Next S) (second third : List ℕ → Next S) → and_then (and_then first second) third ≡ and_then first (λ x. and_then (second x) third)
    then_then first second third = λ i s v u. after_after (first s v u) second third i

    pub value_counts : (e : Expr) → value_does limits inner e state variables fuel ≡ items_go limits inner (compiled e []) [] state variables fuel
    value_counts e =
        sym (ap (λ next. next state variables fuel) (items_make text_done (fails limits) and_then (made_text limits inner) then_done then_fails then_then e [] [])
        ∙ after_done (value_does limits inner e state variables fuel))

    pub expression_counts : (text : List ℕ)
        → expression_does limits inner text state variables fuel ≡ given limits (value_or_fault (items_in text)) state variables fuel (λ items. items_go limits inner items [] state variables fuel)
    expression_counts text = by (expr_of text)
      where
        by : (r : Result Expr ScriptFault) → given limits (value_or_fault r) state variables fuel (λ e. value_does limits inner e state variables fuel)
            ≡ given limits (value_or_fault (texts.after r (λ e. Ok (compiled e [])))) state variables fuel (λ items. items_go limits inner items [] state variables fuel)
        by (Ok e) = value_counts e
        by (Err fault) = refl

-- ---- weights

pub weighs_more : (i : Item) (rest : List Item) → items_weight rest ≤ items_weight (i ∷ rest)
weighs_more (item.Make parts) rest = omega arith
weighs_more (item.Load a) rest = omega arith
weighs_more (item.Two op a b) rest = omega arith
weighs_more (item.Skip n) rest = omega arith
weighs_more (item.Right op b) rest = omega arith
weighs_more (item.Operator op) rest = omega arith
weighs_more (item.Sign op) rest = omega arith
weighs_more (item.And n) rest = omega arith
weighs_more (item.Or n) rest = omega arith
weighs_more item.Truth rest = omega arith
weighs_more (item.If n) rest = omega arith
