-- The items of an expression make its value.
use Rattle.std.proofs.Common.{◌≡◌, ◌==◌, ◌<◌, ℕ, zero, suc, ◌+◌, Bool, true, false, List, [], ◌∷◌, ◌++◌, length, reverse, Option, Some, None, Result, Ok, Err, refl, sym, ap, ◌∙◌, arith, length-append, codes}
use Rattle.std.proofs.lemmas.List.{length-reverse, reverse-append}
use std.Path.{fun_ext}
use Rattle.tks_text.specs.declared.fault.ScriptFault.{ScriptFault}
use Rattle.tks_parse.specs.Tree.{Parts, no_part, char, chars, variable, element, nested}
use Rattle.tks_expr.specs.Tree.{Expr, Literal, Made, One, Two, Both, Either, Conditional, expr_size}
use Rattle.tks_expr.specs.Operation.{truth_of, applied, applied_unary}
use Rattle.tks_expr.specs.Reading.{under}
use Rattle.tks_expr.specs.Sign.{combined}
use Rattle.tks_expr.specs.Value.{told, by_condition, truth_text, value}
use Rattle.tks_expr.specs.View.{chained}
use Rattle.tks_expr.specs.declared.operator.Unary.{Unary}
use Rattle.tks_expr.specs.declared.operator.Binary.{Binary}
use Rattle.tks_expr.specs.declared.sign.Join.{Join}
use Rattle.tks_expr.specs.declared.sign.Join.TheVariants.{Of, And, Or}
use Rattle.tks_expr.specs.declared.tree.Link.{Link}
use Rattle.tks_expr.specs.declared.items.Leaf.{Leaf}
use Rattle.tks_expr.specs.declared.items.Leaf.TheVariants as leaf
use Rattle.tks_expr.specs.declared.items.Item.{Item}
use Rattle.tks_expr.specs.declared.items.Item.TheVariants as item
use Rattle.tks_expr.specs.Compiled.{alone, leaf_in, leaf_of, are_leaves, operator_passed, passed, made_item, operator_items, compiled, leaf_text, operated, items_do}

-- ---- how many they are

operator_length : (op : Binary) (p q : Option Leaf) (left right : List Item → List Item) (n m : ℕ → ℕ)
    → ((rest : List Item) → length (left rest) ≡ n (length rest)) → ((rest : List Item) → length (right rest) ≡ m (length rest))
    → (rest : List Item) → length (operator_items op p q left right rest) ≡ operator_passed p q n m (length rest)
operator_length op (Some x) (Some y) left right n m l r rest = refl
operator_length op None (Some y) left right n m l r rest = l (item.Right op y ∷ rest)
operator_length op (Some x) None left right n m l r rest = l (right (item.Operator op ∷ rest)) ∙ ap n (r (item.Operator op ∷ rest))
operator_length op None None left right n m l r rest = l (right (item.Operator op ∷ rest)) ∙ ap n (r (item.Operator op ∷ rest))

compiled_length : (e : Expr) (rest : List Item) → length (compiled e rest) ≡ passed e (length rest)
compiled_length (Literal text) rest = refl
compiled_length (Made parts) rest = refl
compiled_length (One op a) rest = compiled_length a (item.Sign op ∷ rest)
compiled_length (Two op a b) rest =
    operator_length op (leaf_of a) (leaf_of b) (compiled a) (compiled b) (passed a) (passed b) (compiled_length a) (compiled_length b) rest
compiled_length (Both a b) rest =
    compiled_length a (item.And (passed b 1) ∷ compiled b (item.Truth ∷ rest)) ∙ ap (λ k. passed a (suc k)) (compiled_length b (item.Truth ∷ rest))
compiled_length (Either a b) rest =
    compiled_length a (item.Or (passed b 1) ∷ compiled b (item.Truth ∷ rest)) ∙ ap (λ k. passed a (suc k)) (compiled_length b (item.Truth ∷ rest))
compiled_length (Conditional c a b) rest =
    compiled_length c (item.If (passed a 1) ∷ compiled a (item.Skip (passed b 0) ∷ compiled b rest))
    ∙ ap (λ k. passed c (suc k)) (compiled_length a (item.Skip (passed b 0) ∷ compiled b rest) ∙ ap (λ k. passed a (suc k)) (compiled_length b rest))

suc_adds : (i k : ℕ) → suc (i + k) ≡ suc i + k
suc_adds i k = omega arith

operator_adds : (p q : Option Leaf) (n m : ℕ → ℕ) (k : ℕ) → ((i : ℕ) → n (i + k) ≡ n i + k) → ((i : ℕ) → m (i + k) ≡ m i + k)
    → (i : ℕ) → operator_passed p q n m (i + k) ≡ operator_passed p q n m i + k
operator_adds (Some x) (Some y) n m k l r i = suc_adds i k
operator_adds None (Some y) n m k l r i = ap n (suc_adds i k) ∙ l (suc i)
operator_adds (Some x) None n m k l r i = ap (λ j. n (m j)) (suc_adds i k) ∙ ap n (r (suc i)) ∙ l (m (suc i))
operator_adds None None n m k l r i = ap (λ j. n (m j)) (suc_adds i k) ∙ ap n (r (suc i)) ∙ l (m (suc i))

-- one more than so many more is so many more than one more
then_adds : (n : ℕ → ℕ) (k : ℕ) → ((i : ℕ) → n (i + k) ≡ n i + k) → (i : ℕ) → n (suc (i + k)) ≡ n (suc i) + k
then_adds n k h i = ap n (suc_adds i k) ∙ h (suc i)

passed_adds : (e : Expr) (k i : ℕ) → passed e (i + k) ≡ passed e i + k
passed_adds (Literal text) k i = suc_adds i k
passed_adds (Made parts) k i = suc_adds i k
passed_adds (One op a) k i = then_adds (passed a) k (passed_adds a k) i
passed_adds (Two op a b) k i = operator_adds (leaf_of a) (leaf_of b) (passed a) (passed b) k (passed_adds a k) (passed_adds b k) i
passed_adds (Both a b) k i = ap (λ n. passed a (suc n)) (then_adds (passed b) k (passed_adds b k) i) ∙ then_adds (passed a) k (passed_adds a k) (passed b (suc i))
passed_adds (Either a b) k i = ap (λ n. passed a (suc n)) (then_adds (passed b) k (passed_adds b k) i) ∙ then_adds (passed a) k (passed_adds a k) (passed b (suc i))
passed_adds (Conditional c a b) k i =
    ap (λ n. passed c (suc n)) (ap (λ n. passed a (suc n)) (passed_adds b k i) ∙ then_adds (passed a) k (passed_adds a k) (passed b i))
    ∙ then_adds (passed c) k (passed_adds c k) (passed a (suc (passed b i)))

-- so many items come before others
pub items_count : (e : Expr) (front rest : List Item) → length (compiled e (front ++ rest)) ≡ passed e (length front) + length rest
items_count e front rest = compiled_length e (front ++ rest) ∙ ap (passed e) (length-append front rest) ∙ passed_adds e (length rest) (length front)

-- how many more there are, where those of an expression were put before others, which stand in reverse
pub put_count : (e : Expr) (old new : List Item) → reverse new ≡ compiled e (reverse old) → length new ≡ passed e 0 + length old
put_count e old new is = sym (length-reverse new) ∙ ap length is ∙ items_count e [] (reverse old) ∙ ap (λ n. passed e 0 + n) (length-reverse old)

-- the same behind one more
pub put_more : (x : Item) (old more : List Item) → more ≡ old ++ x ∷ [] → reverse more ≡ x ∷ reverse old
put_more x old more is = ap reverse is ∙ reverse-append old (x ∷ [])

pub put_one_more : (e : Expr) (x : Item) (old more new : List Item) → more ≡ old ++ x ∷ [] → reverse new ≡ compiled e (reverse more) → length new ≡ passed e 1 + length old
put_one_more e x old more new one is =
    sym (length-reverse new) ∙ ap length is ∙ ap (λ rest. length (compiled e rest)) (put_more x old more one)
    ∙ items_count e (x ∷ []) (reverse old) ∙ ap (λ n. passed e 1 + n) (length-reverse old)

-- ---- leaves

-- the leaf that parts are behind a variable, if there is one
abbrev pub leaf_behind : Option (List ℕ) → Parts → Option Leaf
leaf_behind None parts = leaf_in parts
leaf_behind (Some name) parts = alone name parts

-- characters leave none
pub text_behind : (scalar : Option (List ℕ)) (text : List ℕ) (rest : Parts) → (length text == 0) ≡ false → leaf_behind scalar (chars text rest) ≡ None
text_behind scalar [] rest some = absurd cc
text_behind None (c ∷ text) rest some = refl
text_behind (Some name) (c ∷ text) rest some = refl

-- ---- chains

pub chained_last : (left : Expr) (links : List Link) (link : Link) → chained left (links ++ link ∷ []) ≡ combined link.join (chained left links) link.right
chained_last left [] link = refl
chained_last left (l ∷ links) link = chained_last (combined l.join left l.right) links link

combined_no_leaf : (join : Join) (a b : Expr) → leaf_of (combined join a b) ≡ None
combined_no_leaf (Of op) a b = refl
combined_no_leaf And a b = refl
combined_no_leaf Or a b = refl

pub chained_no_leaf : (left : Expr) (links : List Link) → leaf_of left ≡ None → leaf_of (chained left links) ≡ None
chained_no_leaf left [] h = h
chained_no_leaf left (link ∷ links) h = chained_no_leaf (combined link.join left link.right) links (combined_no_leaf link.join left link.right)

pub chain_no_leaf : (join : Join) (a b : Expr) (links : List Link) → leaf_of (chained (combined join a b) links) ≡ None
chain_no_leaf join a b links = chained_no_leaf (combined join a b) links (combined_no_leaf join a b)

pub under_no_leaf : (signs : List Unary) (sign : Unary) (e : Expr) → leaf_of (under signs (One sign e)) ≡ None
under_no_leaf [] sign e = refl
under_no_leaf (s ∷ signs) sign e = refl

pub no_leaves : (join : Join) (a b : Expr) → leaf_of a ≡ None → are_leaves join a b ≡ false
no_leaves (Of op) a b h = rw h refl
no_leaves And a b h = refl
no_leaves Or a b h = refl

-- the items of an operator between two leaves
pub two_leaves : (op : Binary) (a b : Expr) (x y : Leaf) → leaf_of a ≡ Some x → leaf_of b ≡ Some y → (rest : List Item) → compiled (Two op a b) rest ≡ item.Two op x y ∷ rest
two_leaves op a b x y h k rest = rw (h, k) refl

-- ---- how large they are

-- how many operators links have
abbrev pub links_size : List Link → ℕ
links_size [] = 0
links_size (link ∷ links) = suc (expr_size link.right) + links_size links

combined_size : (join : Join) (a b : Expr) → expr_size (combined join a b) ≡ suc (expr_size a + expr_size b)
combined_size (Of op) a b = omega arith
combined_size And a b = omega arith
combined_size Or a b = omega arith

pub chained_size : (left : Expr) (links : List Link) → expr_size (chained left links) ≡ expr_size left + links_size links
chained_size left [] = omega arith
chained_size left (link ∷ links) = omega (arith, chained_size (combined link.join left link.right) links, combined_size link.join left link.right)

pub chain_size : (join : Join) (a b : Expr) (links : List Link) → expr_size (chained (combined join a b) links) ≡ suc (expr_size a + expr_size b) + links_size links
chain_size join a b links = omega (arith, chained_size (combined join a b) links, combined_size join a b)

pub last_size : (links : List Link) (link : Link) → links_size (links ++ link ∷ []) ≡ links_size links + suc (expr_size link.right)
last_size [] link = omega arith
last_size (l ∷ links) link = omega (arith, last_size links link)

pub under_size : (signs : List Unary) (sign : Unary) (e : Expr) → expr_size e < expr_size (under signs (One sign e))
under_size [] sign e = omega arith
under_size (s ∷ signs) sign e = omega (arith, under_size signs sign e)

-- the items of signs
pub under_last : (signs : List Unary) (sign : Unary) (e : Expr) → under (signs ++ sign ∷ []) e ≡ under signs (One sign e)
under_last [] sign e = refl
under_last (s ∷ signs) sign e = ap (One s) (under_last signs sign e)

-- ---- what they do

module _ {O : Type 0} (done : List ℕ → O) (failed : ScriptFault → O) (after : O → (List ℕ → O) → O) (made : Parts → O)
    (after_done : (t : List ℕ) (f : List ℕ → O) → after (done t) f ≡ f t)
    (after_failed : (x : ScriptFault) (f : List ℕ → O) → after (failed x) f ≡ failed x)
    (after_after : (o : O) (f g : List ℕ → O) → after (after o f) g ≡ after o (λ x. after (f x) g)) where
  abbrev does : ℕ → List Item → List (List ℕ) → O
  does = items_do done failed after made

  abbrev worth : Expr → O
  worth = value done failed after made

  abbrev chosen : Result Bool ScriptFault → O → O → O
  chosen = by_condition done failed after made

  after_same : (o : O) (f g : List ℕ → O) → ((x : List ℕ) → f x ≡ g x) → after o f ≡ after o g
  after_same o f g h = ap (after o) (fun_ext h)

  chosen_then : (r : Result Bool ScriptFault) (o p : O) (f : List ℕ → O) → after (chosen r o p) f ≡ chosen r (after o f) (after p f)
  chosen_then (Ok true) o p f = refl
  chosen_then (Ok false) o p f = refl
  chosen_then (Err x) o p f = after_failed x f

  -- a leaf is worth its text
  alone_worth : (name : List ℕ) (rest : Parts) (x : Leaf) → alone name rest ≡ Some x → made (variable name rest) ≡ leaf_text done failed after made x
  alone_worth name no_part x h = let is : x ≡ leaf.Scalar name = cc in ap (leaf_text done failed after made) (sym is)
  alone_worth name (char c rest) x h = absurd cc
  alone_worth name (variable other rest) x h = absurd cc
  alone_worth name (element other index rest) x h = absurd cc
  alone_worth name (nested script rest) x h = absurd cc

  parts_worth : (parts : Parts) (x : Leaf) → leaf_in parts ≡ Some x → made parts ≡ leaf_text done failed after made x
  parts_worth no_part x h = absurd cc
  parts_worth (char c rest) x h = absurd cc
  parts_worth (variable name rest) x h = alone_worth name rest x h
  parts_worth (element name index rest) x h = absurd cc
  parts_worth (nested script rest) x h = absurd cc

  leaf_worth : (e : Expr) (x : Leaf) → leaf_of e ≡ Some x → worth e ≡ leaf_text done failed after made x
  leaf_worth (Literal text) x h = let is : x ≡ leaf.Literal text = cc in ap (leaf_text done failed after made) (sym is)
  leaf_worth (Made parts) x h = parts_worth parts x h
  leaf_worth (One op a) x h = absurd cc
  leaf_worth (Two op a b) x h = absurd cc
  leaf_worth (Both a b) x h = absurd cc
  leaf_worth (Either a b) x h = absurd cc
  leaf_worth (Conditional c a b) x h = absurd cc

  -- the items of an expression are passed over
  operator_skips : (op : Binary) (p q : Option Leaf) (left right : List Item → List Item) (l r : ℕ → ℕ)
      → ((n : ℕ) (rest : List Item) (stack : List (List ℕ)) → does (l n) (left rest) stack ≡ does n rest stack)
      → ((n : ℕ) (rest : List Item) (stack : List (List ℕ)) → does (r n) (right rest) stack ≡ does n rest stack)
      → (n : ℕ) (rest : List Item) (stack : List (List ℕ)) → does (operator_passed p q l r n) (operator_items op p q left right rest) stack ≡ does n rest stack
  operator_skips op (Some x) (Some y) left right l r a b n rest stack = refl
  operator_skips op None (Some y) left right l r a b n rest stack = a (suc n) (item.Right op y ∷ rest) stack
  operator_skips op (Some x) None left right l r a b n rest stack = a (r (suc n)) (right (item.Operator op ∷ rest)) stack ∙ b (suc n) (item.Operator op ∷ rest) stack
  operator_skips op None None left right l r a b n rest stack = a (r (suc n)) (right (item.Operator op ∷ rest)) stack ∙ b (suc n) (item.Operator op ∷ rest) stack

  skips : (e : Expr) (n : ℕ) (rest : List Item) (stack : List (List ℕ)) → does (passed e n) (compiled e rest) stack ≡ does n rest stack
  skips (Literal text) n rest stack = refl
  skips (Made parts) n rest stack = refl
  skips (One op a) n rest stack = skips a (suc n) (item.Sign op ∷ rest) stack
  skips (Two op a b) n rest stack = operator_skips op (leaf_of a) (leaf_of b) (compiled a) (compiled b) (passed a) (passed b) (skips a) (skips b) n rest stack
  skips (Both a b) n rest stack =
      skips a (suc (passed b (suc n))) (item.And (passed b 1) ∷ compiled b (item.Truth ∷ rest)) stack ∙ skips b (suc n) (item.Truth ∷ rest) stack
  skips (Either a b) n rest stack =
      skips a (suc (passed b (suc n))) (item.Or (passed b 1) ∷ compiled b (item.Truth ∷ rest)) stack ∙ skips b (suc n) (item.Truth ∷ rest) stack
  skips (Conditional c a b) n rest stack =
      skips c (suc (passed a (suc (passed b n)))) (item.If (passed a 1) ∷ compiled a (item.Skip (passed b 0) ∷ compiled b rest)) stack
      ∙ skips a (suc (passed b n)) (item.Skip (passed b 0) ∷ compiled b rest) stack ∙ skips b n rest stack

  -- and they put its value on the stack
  abbrev Makes : Expr → Type 0
  Makes e = (rest : List Item) (stack : List (List ℕ)) → does 0 (compiled e rest) stack ≡ after (worth e) (λ x. does 0 rest (x ∷ stack))

  made_makes : (parts : Parts) (o : Option Leaf) → leaf_in parts ≡ o → (rest : List Item) (stack : List (List ℕ))
      → does 0 (made_item parts o ∷ rest) stack ≡ after (made parts) (λ x. does 0 rest (x ∷ stack))
  made_makes parts None h rest stack = refl
  made_makes parts (Some x) h rest stack = ap (λ o. after o (λ text. does 0 rest (text ∷ stack))) (sym (parts_worth parts x h))

  -- what an operator puts there
  abbrev puts : Binary → List Item → List (List ℕ) → List ℕ → List ℕ → O
  puts op rest stack x y = after (operated done failed after made op x y) (λ z. does 0 rest (z ∷ stack))

  two_then : (op : Binary) (a b : Expr) (rest : List Item) (stack : List (List ℕ))
      → after (worth (Two op a b)) (λ z. does 0 rest (z ∷ stack)) ≡ after (worth a) (λ x. after (worth b) (puts op rest stack x))
  two_then op a b rest stack =
      after_after (worth a) (λ x. after (worth b) (operated done failed after made op x)) (λ z. does 0 rest (z ∷ stack))
      ∙ after_same (worth a) _ _ (λ x. after_after (worth b) (operated done failed after made op x) (λ z. does 0 rest (z ∷ stack)))

  two_makes : (op : Binary) (a b : Expr) → Makes a → Makes b → (p q : Option Leaf) → leaf_of a ≡ p → leaf_of b ≡ q → (rest : List Item) (stack : List (List ℕ))
      → does 0 (operator_items op p q (compiled a) (compiled b) rest) stack ≡ after (worth a) (λ x. after (worth b) (puts op rest stack x))
  two_makes op a b l r (Some x) (Some y) h k rest stack =
      ap (λ o. after o (λ v. after (leaf_text done failed after made y) (puts op rest stack v))) (sym (leaf_worth a x h))
      ∙ ap (λ o. after (worth a) (λ v. after o (puts op rest stack v))) (sym (leaf_worth b y k))
  two_makes op a b l r None (Some y) h k rest stack =
      l (item.Right op y ∷ rest) stack ∙ ap (λ o. after (worth a) (λ v. after o (puts op rest stack v))) (sym (leaf_worth b y k))
  two_makes op a b l r (Some x) None h k rest stack =
      l (compiled b (item.Operator op ∷ rest)) stack ∙ after_same (worth a) _ _ (λ x. r (item.Operator op ∷ rest) (x ∷ stack))
  two_makes op a b l r None None h k rest stack =
      l (compiled b (item.Operator op ∷ rest)) stack ∙ after_same (worth a) _ _ (λ x. r (item.Operator op ∷ rest) (x ∷ stack))

  pub items_make : (e : Expr) → Makes e
  items_make (Literal text) rest stack = refl
  items_make (Made parts) rest stack = made_makes parts (leaf_in parts) refl rest stack
  items_make (One op a) rest stack =
      items_make a (item.Sign op ∷ rest) stack
      ∙ sym (after_after (worth a) (λ x. told done failed after made (applied_unary op x)) (λ y. does 0 rest (y ∷ stack)))
  items_make (Two op a b) rest stack = two_makes op a b (items_make a) (items_make b) (leaf_of a) (leaf_of b) refl refl rest stack ∙ sym (two_then op a b rest stack)
  items_make (Both a b) rest stack =
      let next : List ℕ → O = λ z. does 0 rest (z ∷ stack) in
      let truth : List ℕ → O = truth_text done failed after made in
      items_make a (item.And (passed b 1) ∷ compiled b (item.Truth ∷ rest)) stack
      ∙ after_same (worth a) _ _ (λ x.
      ap (λ o. chosen (truth_of x) o (does (passed b 1) (compiled b (item.Truth ∷ rest)) (codes "0" ∷ stack)))
      (items_make b (item.Truth ∷ rest) stack ∙ sym (after_after (worth b) truth next))
      ∙ ap (λ o. chosen (truth_of x) (after (after (worth b) truth) next) o)
      (skips b 1 (item.Truth ∷ rest) (codes "0" ∷ stack) ∙ sym (after_done (codes "0") next))
      ∙ sym (chosen_then (truth_of x) (after (worth b) truth) (done (codes "0")) next))
      ∙ sym (after_after (worth a) (λ x. chosen (truth_of x) (after (worth b) truth) (done (codes "0"))) next)
  items_make (Either a b) rest stack =
      let next : List ℕ → O = λ z. does 0 rest (z ∷ stack) in
      let truth : List ℕ → O = truth_text done failed after made in
      items_make a (item.Or (passed b 1) ∷ compiled b (item.Truth ∷ rest)) stack
      ∙ after_same (worth a) _ _ (λ x.
      ap (λ o. chosen (truth_of x) (does (passed b 1) (compiled b (item.Truth ∷ rest)) (codes "1" ∷ stack)) o)
      (items_make b (item.Truth ∷ rest) stack ∙ sym (after_after (worth b) truth next))
      ∙ ap (λ o. chosen (truth_of x) o (after (after (worth b) truth) next))
      (skips b 1 (item.Truth ∷ rest) (codes "1" ∷ stack) ∙ sym (after_done (codes "1") next))
      ∙ sym (chosen_then (truth_of x) (done (codes "1")) (after (worth b) truth) next))
      ∙ sym (after_after (worth a) (λ x. chosen (truth_of x) (done (codes "1")) (after (worth b) truth)) next)
  items_make (Conditional c a b) rest stack =
      let next : List ℕ → O = λ z. does 0 rest (z ∷ stack) in
      items_make c (item.If (passed a 1) ∷ compiled a (item.Skip (passed b 0) ∷ compiled b rest)) stack
      ∙ after_same (worth c) _ _ (λ x.
      ap (λ o. chosen (truth_of x) o (does (passed a 1) (compiled a (item.Skip (passed b 0) ∷ compiled b rest)) stack))
      (items_make a (item.Skip (passed b 0) ∷ compiled b rest) stack
      ∙ after_same (worth a) _ _ (λ y. skips b 0 rest (y ∷ stack)))
      ∙ ap (λ o. chosen (truth_of x) (after (worth a) next) o)
      (skips a 1 (item.Skip (passed b 0) ∷ compiled b rest) stack ∙ items_make b rest stack)
      ∙ sym (chosen_then (truth_of x) (worth a) (worth b) next))
      ∙ sym (after_after (worth c) (λ x. chosen (truth_of x) (worth a) (worth b)) next)
