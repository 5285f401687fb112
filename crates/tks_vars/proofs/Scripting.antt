-- What scripts rely on of variables: what was set is got, what was unset is gone, a link is the global.
use Rattle.std.proofs.Common.{◌≡◌, ◌≢◌, ℕ, Bool, true, false, if◌then◌else◌, List, Option, Some, None, Result, Ok, Err, refl, sym, ap, ◌∙◌}
use mathlib.Core.Logic.{inl, inr}
use Rattle.std.specs.FinMap as fin
use Rattle.tks_text.specs.declared.fault.ErrorNumber.{ErrorNumber}
use Rattle.tks_text.specs.declared.fault.ErrorNumber.TheVariants.{NoSuchVariable}
use Rattle.tks_text.specs.Fault.{fault_about}
use Rattle.tks_vars.specs.Names.{Name, named}
use Rattle.tks_vars.specs.Variables.{Variables, about, after, on_name, value_in, value_of, updated, taken, content_of, with_content, left_with, element_of, without_element}
use Rattle.tks_vars.specs.Laws.{Apart, OfOtherElements, NameApart, SetIsGot, SetLeavesOthers, UnsetIsGone, UnsetLeavesOthers}
use Rattle.tks_vars.specs.declared.content.Content.{Content}
use Rattle.tks_vars.specs.declared.content.Content.TheVariants.{Scalar, Array}
use Rattle.tks_vars.proofs.Keeping.{same_or_other, put_here, put_elsewhere, taken_here, taken_elsewhere, content_put, others_kept, content_gone, others_left}

-- ---- what stands under one name

-- what has the value of this has what this has
as_this : (c d : Content) (index : Option (List ℕ)) (r : Result (List ℕ) ErrorNumber) → d ≡ c → value_in (Some d) index ≡ r → value_in (Some c) index ≡ r
as_this c d index r e h = ap (λ (x : Content). value_in (Some x) index) (sym e) ∙ h

updated_here : (o : Option Content) (index : Option (List ℕ)) (value : List ℕ) (c : Content) → updated o index value ≡ Ok c → value_in (Some c) index ≡ Ok value
updated_here None None value c e = as_this c (Scalar value) None (Ok value) (cc) refl
updated_here None (Some i) value c e = as_this c (Array (fin.insert fin.empty i value)) (Some i) (Ok value) (cc) (ap element_of (put_here fin.empty i value))
updated_here (Some (Scalar old)) None value c e = as_this c (Scalar value) None (Ok value) (cc) refl
updated_here (Some (Scalar old)) (Some i) value c e = absurd cc
updated_here (Some (Array es)) None value c e = absurd cc
updated_here (Some (Array es)) (Some i) value c e = as_this c (Array (fin.insert es i value)) (Some i) (Ok value) (cc) (ap element_of (put_here es i value))

updated_apart : (o : Option Content) (index other : Option (List ℕ)) (value : List ℕ) (c : Content) → OfOtherElements index other → updated o index value ≡ Ok c
    → value_in (Some c) other ≡ value_in o other
updated_apart o None other value c apart e = absurd apart
updated_apart o (Some i) None value c apart e = absurd apart
updated_apart None (Some i) (Some j) value c apart e =
    as_this c (Array (fin.insert fin.empty i value)) (Some j) (Err NoSuchVariable) (cc) (ap element_of (put_elsewhere fin.empty i value j (λ same. apart (sym same)) ∙ fin.get-empty _ j))
updated_apart (Some (Scalar old)) (Some i) (Some j) value c apart e = absurd cc
updated_apart (Some (Array es)) (Some i) (Some j) value c apart e =
    as_this c (Array (fin.insert es i value)) (Some j) (element_of (fin.get es j)) (cc) (ap element_of (put_elsewhere es i value j (λ same. apart (sym same))))

-- ---- all variables, after a name was given a value

module _ (v new : Variables) (text : List ℕ) (variable : List ℕ) where
  -- the variables that came of it
  put_is : (c : Content) (r : Result Content ErrorNumber) → r ≡ Ok c → about text (after r (with_content v variable)) ≡ Ok new → new ≡ with_content v variable c
  put_is c (Ok d) same e = cc
  put_is c (Err number) same e = absurd cc

  set_got : (index : Option (List ℕ)) (value : List ℕ) (r : Result Content ErrorNumber) → updated (content_of v variable) index value ≡ r → about text (after r (with_content v variable)) ≡ Ok new
      → value_in (content_of new variable) index ≡ Ok value
  set_got index value (Err number) is e = absurd cc
  set_got index value (Ok c) is e =
      ap (λ (w : Variables). value_in (content_of w variable) index) (put_is c (Ok c) refl e)
      ∙ ap (λ (o : Option Content). value_in o index) (content_put v variable c)
      ∙ updated_here (content_of v variable) index value c is

  set_apart : (index : Option (List ℕ)) (value : List ℕ) (o : Name) (r : Result Content ErrorNumber) → Apart (record { variable = variable; index = index }) o
      → updated (content_of v variable) index value ≡ r → about text (after r (with_content v variable)) ≡ Ok new
      → value_in (content_of new o.variable) o.index ≡ value_in (content_of v o.variable) o.index
  set_apart index value o (Err number) apart is e = absurd cc
  set_apart index value o (Ok c) (inl other) is e =
      ap (λ (w : Variables). value_in (content_of w o.variable) o.index) (put_is c (Ok c) refl e)
      ∙ ap (λ (x : Option Content). value_in x o.index) (others_kept v variable c o.variable (λ same. other (sym same)))
  set_apart index value o (Ok c) (inr elements) is e = elim (same_or_other o.variable variable) as (λ _. value_in (content_of new o.variable) o.index ≡ value_in (content_of v o.variable) o.index) [
    | inl same ↦
        ap (λ (w : Variables). value_in (content_of w o.variable) o.index) (put_is c (Ok c) refl e)
        ∙ ap (λ (x : List ℕ). value_in (content_of (with_content v variable c) x) o.index) same
        ∙ ap (λ (x : Option Content). value_in x o.index) (content_put v variable c)
        ∙ updated_apart (content_of v variable) index o.index value c elements is
        ∙ ap (λ (x : List ℕ). value_in (content_of v x) o.index) (sym same)
    | inr other ↦
        ap (λ (w : Variables). value_in (content_of w o.variable) o.index) (put_is c (Ok c) refl e)
        ∙ ap (λ (x : Option Content). value_in x o.index) (others_kept v variable c o.variable other)
  ]

set_by : (v new : Variables) (text value : List ℕ) (n : Option Name)
    → about text (on_name n (λ name. after (updated (content_of v name.variable) name.index value) (with_content v name.variable))) ≡ Ok new
    → about text (on_name n (λ name. value_in (content_of new name.variable) name.index)) ≡ Ok value
set_by v new text value None e = absurd cc
set_by v new text value (Some name) e = ap (about text) (set_got v new text name.variable name.index value _ refl e)

pub set_is_got : (v new : Variables) (name value : List ℕ) → SetIsGot v name value new
set_is_got v new name value e = set_by v new name value (named name) e

-- what two texts that are apart name
module _ (text other : List ℕ) (a : NameApart text other) where
  first_named : {X : Type 0} (next : Name → Result X ErrorNumber) (r : Result X _) → about text (on_name (named text) next) ≡ r → about text (next a.first) ≡ r
  first_named {X = X} next r e = ap (λ (n : Option Name). about text (on_name n next)) (sym a.is_first) ∙ e

  second_read : (v : Variables) → value_of v other ≡ about other (value_in (content_of v a.second.variable) a.second.index)
  second_read v = ap (λ (n : Option Name). about other (on_name n (λ name. value_in (content_of v name.variable) name.index))) a.is_second

pub set_leaves_others : (v new : Variables) (name value : List ℕ) → SetLeavesOthers v name value new
set_leaves_others v new name value other a e =
    let put = first_named name other a (λ n. after (updated (content_of v n.variable) n.index value) (with_content v n.variable)) (Ok new) e in
    second_read name other a new
    ∙ ap (about other) (set_apart v new name a.first.variable a.first.index value a.second _ a.apart refl put)
    ∙ sym (second_read name other a v)

-- ---- all variables, after one was taken out

module _ (v new : Variables) (text variable : List ℕ) where
  -- the variables that came of it: without the name, or with what is left of its array
  left_is : (left : Option Content) → about text (after (Ok left) (left_with v variable)) ≡ Ok new → new ≡ left_with v variable left
  left_is left e = cc

  whole_gone : about text (after (Ok None) (left_with v variable)) ≡ Ok new → value_in (content_of new variable) None ≡ Err NoSuchVariable
  whole_gone e =
      ap (λ (w : Variables). value_in (content_of w variable) None) (left_is None e)
      ∙ ap (λ (o : Option Content). value_in o None) (content_gone v variable)

  element_is : (es : fin.FinMap _ (List ℕ)) (i : List ℕ) (b : Bool) → fin.contains_key es i ≡ b → about text (after (without_element es i) (left_with v variable)) ≡ Ok new
      → new ≡ with_content v variable (Array (fin.remove es i))
  element_is es i true is e = left_is (Some (Array (fin.remove es i))) (ap (λ (b : Bool). about text (after (if b then Ok (Some (Array (fin.remove es i))) else Err NoSuchVariable) (left_with v variable))) (sym is) ∙ e)
  element_is es i false is e = absurd (failed (ap (λ (b : Bool). about text (after (if b then Ok (Some (Array (fin.remove es i))) else Err NoSuchVariable) (left_with v variable))) (sym is) ∙ e))
    where
      failed : about {X = Variables} text (Err NoSuchVariable) ≡ Ok new → ⊥
      failed e = cc

  element_gone : (es : fin.FinMap _ (List ℕ)) (i : List ℕ) → about text (after (without_element es i) (left_with v variable)) ≡ Ok new → value_in (content_of new variable) (Some i) ≡ Err NoSuchVariable
  element_gone es i e =
      ap (λ (w : Variables). value_in (content_of w variable) (Some i)) (element_is es i (fin.contains_key es i) refl e)
      ∙ ap (λ (o : Option Content). value_in o (Some i)) (content_put v variable (Array (fin.remove es i)))
      ∙ ap element_of (taken_here es i)

  unset_gone : (index : Option (List ℕ)) (o : Option Content) → content_of v variable ≡ o → about text (after (taken o index) (left_with v variable)) ≡ Ok new
      → value_in (content_of new variable) index ≡ Err NoSuchVariable
  unset_gone index None is e = absurd cc
  unset_gone None (Some c) is e = whole_gone e
  unset_gone (Some i) (Some (Scalar value)) is e = absurd cc
  unset_gone (Some i) (Some (Array es)) is e = element_gone es i e

  -- what another variable has
  others_stay : (index : Option (List ℕ)) (q : List ℕ) (o : Option Content) → q ≢ variable → about text (after (taken o index) (left_with v variable)) ≡ Ok new → content_of new q ≡ content_of v q
  others_stay index q None other e = absurd cc
  others_stay None q (Some c) other e = ap (λ (w : Variables). content_of w q) (left_is None e) ∙ others_left v variable q other
  others_stay (Some i) q (Some (Scalar value)) other e = absurd cc
  others_stay (Some i) q (Some (Array es)) other e =
      ap (λ (w : Variables). content_of w q) (element_is es i (fin.contains_key es i) refl e) ∙ others_kept v variable (Array (fin.remove es i)) q other

  -- what another element has
  elements_stay : (index other : Option (List ℕ)) (o : Option Content) → OfOtherElements index other → content_of v variable ≡ o → about text (after (taken o index) (left_with v variable)) ≡ Ok new
      → value_in (content_of new variable) other ≡ value_in o other
  elements_stay None other o apart is e = absurd apart
  elements_stay (Some i) None o apart is e = absurd apart
  elements_stay (Some i) (Some j) None apart is e = absurd cc
  elements_stay (Some i) (Some j) (Some (Scalar value)) apart is e = absurd cc
  elements_stay (Some i) (Some j) (Some (Array es)) apart is e =
      ap (λ (w : Variables). value_in (content_of w variable) (Some j)) (element_is es i (fin.contains_key es i) refl e)
      ∙ ap (λ (x : Option Content). value_in x (Some j)) (content_put v variable (Array (fin.remove es i)))
      ∙ ap element_of (taken_elsewhere es i j (λ same. apart (sym same)))

  unset_apart : (index : Option (List ℕ)) (o : Name) → Apart (record { variable = variable; index = index }) o → about text (after (taken (content_of v variable) index) (left_with v variable)) ≡ Ok new
      → value_in (content_of new o.variable) o.index ≡ value_in (content_of v o.variable) o.index
  unset_apart index o (inl other) e = ap (λ (x : Option Content). value_in x o.index) (others_stay index o.variable (content_of v variable) (λ same. other (sym same)) e)
  unset_apart index o (inr elements) e = elim (same_or_other o.variable variable) as (λ _. value_in (content_of new o.variable) o.index ≡ value_in (content_of v o.variable) o.index) [
    | inl same ↦
        ap (λ (x : List ℕ). value_in (content_of new x) o.index) same
        ∙ elements_stay index o.index (content_of v variable) elements refl e
        ∙ ap (λ (x : List ℕ). value_in (content_of v x) o.index) (sym same)
    | inr other ↦ ap (λ (x : Option Content). value_in x o.index) (others_stay index o.variable (content_of v variable) other e)
  ]

unset_by : (v new : Variables) (text : List ℕ) (n : Option Name)
    → about text (on_name n (λ name. after (taken (content_of v name.variable) name.index) (left_with v name.variable))) ≡ Ok new
    → about text (on_name n (λ name. value_in (content_of new name.variable) name.index)) ≡ Err (fault_about NoSuchVariable text)
unset_by v new text None e = absurd cc
unset_by v new text (Some name) e = ap (about text) (unset_gone v new text name.variable name.index _ refl e)

pub unset_is_gone : (v new : Variables) (name : List ℕ) → UnsetIsGone v name new
unset_is_gone v new name e = unset_by v new name (named name) e

pub unset_leaves_others : (v new : Variables) (name : List ℕ) → UnsetLeavesOthers v name new
unset_leaves_others v new name other a e =
    let taken_out = first_named name other a (λ n. after (taken (content_of v n.variable) n.index) (left_with v n.variable)) (Ok new) e in
    second_read name other a new
    ∙ ap (about other) (unset_apart v new name a.first.variable a.first.index a.second a.apart taken_out)
    ∙ sym (second_read name other a v)
