-- What is found in a fork, and what becomes of it.
use Rattle.std.proofs.Common.{◌≡◌, ℕ, T, List, [], ◌∷◌, ◌++◌, Option, Some, None, Ordering, Less, Equal, Greater, refl, sym, subst, ap, ◌∙◌}
use Rattle.std.specs.Prelude.{Result, Ok, Err, IfOk, IfSome, IfNone, OnOk}
use Rattle.std.specs.Cmp.Lexicographic.{nat_list_cmp_total}
use Rattle.std.proofs.Common.{◌⊎◌, ⊎_elim}
use Rattle.std.specs.FinMap.Entries.{find, put, is_sorted}
use Rattle.std.specs.declared.rc.Rc.{Rc}
use Rattle.tks_share.specs.Names.{order, without, behind, IsChanged}
use Rattle.tks_share.specs.Tree.{items_at, items_of, front}
use Rattle.tks_share.specs.declared.tree.Fork.{Fork}
use Rattle.tks_share.proofs.Sides.{find_left, find_here, find_right, put_front, put_here, put_right, without_left, without_here, without_right, later_left, later_right, sorted_before, sorted_behind}

-- how a name stands to another, as the code learns it
pub side : (name key other : List ℕ) (told known : Ordering) → told ≡ known → told ≡ order name other → other ≡ key → order name key ≡ known
side name key other told known is stands same = sym (ap (order name) same) ∙ sym stands ∙ is

module _ {A E : Type 0} where
  pub if_ok_through : (P Q : A → Type 0) (r : Result A E) → ((a : A) → P a → Q a) → IfOk r P → IfOk r Q
  if_ok_through P Q (Ok a) goes h = goes a h
  if_ok_through P Q (Err e) goes h = h

  pub ok_through : (P Q : Type 0) (r : Result A E) → (P → Q) → OnOk r P → OnOk r Q
  ok_through P Q (Ok a) goes h = goes h
  ok_through P Q (Err e) goes h = h

  pub some_through : (P Q : A → Type 0) (r : Result (Option A) E) → ((a : A) → P a → Q a) → IfOk r (λ o. IfSome o P) → IfOk r (λ o. IfSome o Q)
  some_through P Q (Ok (Some a)) goes h = goes a h
  some_through P Q (Ok None) goes h = h
  some_through P Q (Err e) goes h = h

  pub none_through : (P Q : Type 0) (r : Result (Option A) E) → (P → Q) → IfOk r (λ o. IfNone o P) → IfOk r (λ o. IfNone o Q)
  none_through P Q (Ok (Some a)) goes h = h
  none_through P Q (Ok None) goes h = goes h
  none_through P Q (Err e) goes h = h

module _ {E : Type 0} where
  -- what comes behind an item is never the first of them
  pub front_before : (es m n : List E) (e : E) → front ((es ++ e ∷ m) ++ n) ≡ front (es ++ e ∷ [])
  front_before [] m n e = refl
  front_before (x ∷ es) m n e = refl

module _ {E Z : Type 0} where
  -- the items of a tree with a root
  pub opened : (root : Option (Rc (Fork E) Z)) (held : Rc (Fork E) Z) (f : Fork E) (es : List E) → items_of root ≡ es → root ≡ Some held → f ≡ held.value → es ≡ items_at f
  opened root held f es view is value = sym view ∙ ap items_of is ∙ ap items_at (sym value)

  -- the same, where the root may be a copy
  pub owned : (root : Option (Rc (Fork E) Z)) (held : Rc (Fork E) Z) (f : Fork E) (es : List E) → items_of root ≡ es → root ≡ Some held → (f ≡ held.value) ⊎ (f ≡ held.value) → es ≡ items_at f
  owned root held f es view is value = ⊎_elim (opened root held f es view is) (opened root held f es view is) value

module _ {V : Type 0} (f : Fork (List ℕ × V)) (es : List (List ℕ × V)) (is : es ≡ items_at f) (name : List ℕ) where
  pub sorted_left : T (is_sorted order es) → T (is_sorted order f.left)
  sorted_left s = sorted_before order f.left (f.item ∷ f.right) (subst (λ t. T (is_sorted order t)) is s)

  pub sorted_right : T (is_sorted order es) → T (is_sorted order f.right)
  sorted_right s = sorted_behind order (f.item ∷ []) f.right (sorted_behind order f.left (f.item ∷ f.right) (subst (λ t. T (is_sorted order t)) is s))

  pub found_left : order name f.item.0 ≡ Less → T (is_sorted order es) → find order name es ≡ find order name f.left
  found_left p s = ap (find order name) is ∙ find_left order nat_list_cmp_total name f.left f.item f.right p (subst (λ t. T (is_sorted order t)) is s)

  pub found_here : order name f.item.0 ≡ Equal → T (is_sorted order es) → find order name es ≡ Some f.item.1
  found_here p s = ap (find order name) is ∙ find_here order nat_list_cmp_total name f.left f.item f.right p (subst (λ t. T (is_sorted order t)) is s)

  pub found_right : order name f.item.0 ≡ Greater → T (is_sorted order es) → find order name es ≡ find order name f.right
  found_right p s = ap (find order name) is ∙ find_right order nat_list_cmp_total name f.left f.item f.right p (subst (λ t. T (is_sorted order t)) is s)

  pub put_in_left : order name f.item.0 ≡ Less → T (is_sorted order es) → (v : V) (left : List (List ℕ × V)) → left ≡ put order name v f.left
      → left ++ f.item ∷ f.right ≡ put order name v es
  put_in_left p s v left e =
      ap (λ l. l ++ f.item ∷ f.right) e ∙ sym (put_front order name v f.left f.item f.right p) ∙ ap (put order name v) (sym is)

  pub put_in_here : order name f.item.0 ≡ Equal → T (is_sorted order es) → (v : V) → f.left ++ (f.item.0, v) ∷ f.right ≡ put order name v es
  put_in_here p s v =
      sym (put_here order nat_list_cmp_total name v f.left f.item f.right p (subst (λ t. T (is_sorted order t)) is s)) ∙ ap (put order name v) (sym is)

  pub put_in_right : order name f.item.0 ≡ Greater → T (is_sorted order es) → (v : V) (right : List (List ℕ × V)) → right ≡ put order name v f.right
      → f.left ++ f.item ∷ right ≡ put order name v es
  put_in_right p s v right e =
      ap (λ r. f.left ++ f.item ∷ r) e
      ∙ sym (put_right order nat_list_cmp_total name v f.left f.item f.right p (subst (λ t. T (is_sorted order t)) is s))
      ∙ ap (put order name v) (sym is)

  pub left_out : order name f.item.0 ≡ Less → T (is_sorted order es) → (left : List (List ℕ × V)) → left ≡ without name f.left
      → left ++ f.item ∷ f.right ≡ without name es
  left_out p s left e =
      ap (λ l. l ++ f.item ∷ f.right) e
      ∙ sym (without_left order nat_list_cmp_total name f.left f.item f.right p (subst (λ t. T (is_sorted order t)) is s))
      ∙ ap (without name) (sym is)

  pub here_out : order name f.item.0 ≡ Equal → T (is_sorted order es) → f.left ++ f.right ≡ without name es
  here_out p s =
      sym (without_here order nat_list_cmp_total name f.left f.item f.right p (subst (λ t. T (is_sorted order t)) is s)) ∙ ap (without name) (sym is)

  pub right_out : order name f.item.0 ≡ Greater → T (is_sorted order es) → (right : List (List ℕ × V)) → right ≡ without name f.right
      → f.left ++ f.item ∷ right ≡ without name es
  right_out p s right e =
      ap (λ r. f.left ++ f.item ∷ r) e
      ∙ sym (without_right order nat_list_cmp_total name f.left f.item f.right p (subst (λ t. T (is_sorted order t)) is s))
      ∙ ap (without name) (sym is)

  pub behind_left : order name f.item.0 ≡ Less → T (is_sorted order es) → behind name es ≡ behind name f.left ++ f.item ∷ f.right
  behind_left p s = ap (behind name) is ∙ later_left order nat_list_cmp_total name f.left f.item f.right p (subst (λ t. T (is_sorted order t)) is s)

  pub behind_right : (order name f.item.0 ≡ Less → ⊥) → T (is_sorted order es) → behind name es ≡ behind name f.right
  behind_right p s = ap (behind name) is ∙ later_right order nat_list_cmp_total name f.left f.item f.right p (subst (λ t. T (is_sorted order t)) is s)

  module _ {A : Type 0} (gives : V → V → A → Type 0) (answer : A) where
    pub changed_left : order name f.item.0 ≡ Less → T (is_sorted order es) → (left now : List (List ℕ × V)) → now ≡ left ++ f.item ∷ f.right
        → IsChanged gives name f.left left answer → IsChanged gives name es now answer
    changed_left p s left now e c =
        record { before = c.before; after = c.after; found = found_left p s ∙ c.found; given = c.given; now = e ∙ put_in_left p s c.after left c.now }

    pub changed_here : order name f.item.0 ≡ Equal → T (is_sorted order es) → (v w : V) → v ≡ f.item.1 → gives v w answer → (now : List (List ℕ × V))
        → now ≡ f.left ++ (f.item.0, w) ∷ f.right → IsChanged gives name es now answer
    changed_here p s v w same g now e =
        record { before = v; after = w; found = found_here p s ∙ ap (λ x. Some x) (sym same); given = g; now = e ∙ put_in_here p s w }

    pub changed_right : order name f.item.0 ≡ Greater → T (is_sorted order es) → (right now : List (List ℕ × V)) → now ≡ f.left ++ f.item ∷ right
        → IsChanged gives name f.right right answer → IsChanged gives name es now answer
    changed_right p s right now e c =
        record { before = c.before; after = c.after; found = found_right p s ∙ c.found; given = c.given; now = e ∙ put_in_right p s c.after right c.now }

  -- where nothing is found on the side where it would stand, all stays
  pub kept_left : order name f.item.0 ≡ Less → (left now : List (List ℕ × V)) → now ≡ left ++ f.item ∷ f.right
      → (left ≡ f.left) × (T (is_sorted order f.left) → find order name f.left ≡ None)
      → (now ≡ es) × (T (is_sorted order es) → find order name es ≡ None)
  kept_left p left now e told = (e ∙ ap (λ l. l ++ f.item ∷ f.right) told.0 ∙ sym is, λ s. found_left p s ∙ told.1 (sorted_left s))

  pub kept_right : order name f.item.0 ≡ Greater → (right now : List (List ℕ × V)) → now ≡ f.left ++ f.item ∷ right
      → (right ≡ f.right) × (T (is_sorted order f.right) → find order name f.right ≡ None)
      → (now ≡ es) × (T (is_sorted order es) → find order name es ≡ None)
  kept_right p right now e told = (e ∙ ap (λ r. f.left ++ f.item ∷ r) told.0 ∙ sym is, λ s. found_right p s ∙ told.1 (sorted_right s))
