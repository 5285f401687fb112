-- Changes of the innermost frame, which the code keeps last.
use Rattle.std.proofs.Common.{◌≡◌, ℕ, ◌+◌, ◌-◌, ◌<◌, false, if◌then◌else◌, List, [], ◌∷◌, ◌++◌, length, drop, get_or, Option, Some, None, Result, Ok, Err, refl, sym, subst, ap, ◌∙◌, arith}
use Rattle.std.specs.Prelude.{reverse, slice_set}
use Rattle.std.proofs.lemmas.List.{reverse-append, set-get_or}
use Rattle.std.specs.FinMap as map
use Rattle.tks_text.specs.declared.fault.ErrorNumber.{ErrorNumber}
use Rattle.tks_vars.specs.Table.{Map}
use Rattle.tks_vars.specs.Names.{Name, named}
use Rattle.tks_vars.specs.Variables.{Variables, Frame, about, after, taken, on_name, is_link, is_global, innermost, changed, seen_through, without_at, with_link, with_global_link, content_of, with_content, left_with}
use Rattle.tks_vars.specs.Parts.{own, local_left, take_local}
use Rattle.tks_vars.specs.declared.content.Content.{Content}
use Rattle.tks_vars.specs.declared.content.Local.{Local}
use Rattle.tks_vars.specs.declared.content.Local.TheVariants.{Own, Link}
use Rattle.tks_vars.specs.declared.procedure.Procedure.{Procedure}

module _ {A : Type 0} where
  last_first : (x : A) (xs : List A) (d : A) → reverse (x ∷ xs) ≡ get_or (x ∷ xs) (length xs) d ∷ drop 1 (reverse (x ∷ xs))
  last_first x [] d = refl
  last_first x (y ∷ xs) d =
      subst (λ (r : List A). r ≡ get_or (y ∷ xs) (length xs) d ∷ drop 1 r) (sym (reverse-append (x ∷ []) (y ∷ xs)))
      (subst (λ (r : List A). r ++ x ∷ [] ≡ get_or (y ∷ xs) (length xs) d ∷ drop 1 (r ++ x ∷ [])) (sym (last_first y xs d)) refl)

  last_set : (x : A) (xs : List A) (y : A) → reverse (slice_set (x ∷ xs) (length xs) y) ≡ y ∷ drop 1 (reverse (x ∷ xs))
  last_set x [] y = refl
  last_set x (z ∷ xs) y =
      reverse-append (x ∷ []) (slice_set (z ∷ xs) (length xs) y) ∙ ap (λ r. r ++ x ∷ []) (last_set z xs y)
      ∙ subst (λ (r : List A). (y ∷ drop 1 r) ++ x ∷ [] ≡ y ∷ drop 1 (r ++ x ∷ [])) (sym (last_first z xs y)) refl
      ∙ ap (λ r. y ∷ drop 1 r) (sym (reverse-append (x ∷ []) (z ∷ xs)))

  -- the last item of a list, which comes first in reverse
  innermost_first : (xs : List A) (k : ℕ) (d : A) → k + 1 ≡ length xs → reverse xs ≡ get_or xs k d ∷ drop 1 (reverse xs)
  innermost_first [] k d e = absurd (omega arith)
  innermost_first (x ∷ xs) k d e = let same : length xs ≡ k = omega arith in subst (λ i. reverse (x ∷ xs) ≡ get_or (x ∷ xs) i d ∷ drop 1 (reverse (x ∷ xs))) same (last_first x xs d)

  pub innermost_set : (xs : List A) (k : ℕ) (y : A) → k + 1 ≡ length xs → reverse (slice_set xs k y) ≡ y ∷ drop 1 (reverse xs)
  innermost_set [] k y e = absurd (omega arith)
  innermost_set (x ∷ xs) k y e = let same : length xs ≡ k = omega arith in subst (λ i. reverse (slice_set (x ∷ xs) i y) ≡ y ∷ drop 1 (reverse (x ∷ xs))) same (last_set x xs y)

module _ (frames : List (Option Frame)) (there : Option Frame) (frame new : Frame) (some : 0 < length frames) (found : get_or frames (length frames - 1) there ≡ Some frame) where
  last : (length frames - 1) + 1 ≡ length frames
  last = omega (arith, some)

  last_first_of : reverse frames ≡ Some frame ∷ drop 1 (reverse frames)
  last_first_of = innermost_first frames (length frames - 1) there last ∙ ap (λ f. f ∷ drop 1 (reverse frames)) found

  -- the last of these frames is the innermost one
  pub last_present : innermost (reverse frames) ≡ Some frame
  last_present = ap innermost last_first_of

  pub last_changed : (change : Frame → Frame) → new ≡ change frame → reverse (slice_set frames (length frames - 1) (Some new)) ≡ changed change (reverse frames)
  last_changed change is =
      innermost_set frames (length frames - 1) (Some new) last
      ∙ ap (λ f. Some f ∷ drop 1 (reverse frames)) is
      ∙ sym (ap (changed change) last_first_of)

  pub last_kept : new ≡ frame → slice_set frames (length frames - 1) (Some new) ≡ frames
  last_kept same = ap (λ f. slice_set frames (length frames - 1) f) (ap Some same ∙ sym found) ∙ set-get_or frames (length frames - 1) there

-- where a name is no global's there is a frame
some_frame : (frames : List (Option Frame)) (variable : List ℕ) → is_global (innermost (reverse frames)) variable ≡ false → 0 < length frames
some_frame [] variable local = absurd cc
some_frame (frame ∷ below) variable local = omega arith

-- the last of these frames is this one, and it is the innermost one of these variables
pub record Last (now : Variables) (globals : Map Content) (procedures : Map Procedure) (frames : List (Option Frame)) (top : ℕ) (frame : Frame) : Type 0 where
  pub is_last : top + 1 ≡ length frames
  pub held : now ≡ record { globals = globals; locals = Some frame ∷ drop 1 (reverse frames); procedures = procedures }

module _ (now : Variables) (globals : Map Content) (procedures : Map Procedure) (frames : List (Option Frame)) (len : ℕ) (there : Option Frame) (frame : Frame) (these : record { globals = globals; locals = reverse frames; procedures = procedures } ≡ now) (all : len ≡ length frames) where
  pub found_last : 0 < length frames → get_or frames (len - 1) there ≡ Some frame → Last now globals procedures frames (len - 1) frame
  found_last some found =
      let last : (len - 1) + 1 ≡ length frames = omega (arith, some, all) in
      record { is_last = last; held = sym these ∙ ap (λ (ls : List (Option Frame)). record { globals = globals; locals = ls; procedures = procedures }) (innermost_first frames (len - 1) there last ∙ ap (λ f. f ∷ drop 1 (reverse frames)) found) }

  -- a name that is no global's is looked up in it
  pub found_own : (variable : List ℕ) → is_global (innermost now.locals) variable ≡ false → get_or frames (len - 1) there ≡ Some frame → Last now globals procedures frames (len - 1) frame
  found_own variable local = found_last (some_frame frames variable (ap (λ (v : Variables). is_global (innermost v.locals) variable) these ∙ local))

seen_own : (o : Option Local) (global : Option Content) → is_link o ≡ false → seen_through o global ≡ own o
seen_own None global e = refl
seen_own (Some (Own content)) global e = refl
seen_own (Some Link) global e = absurd cc

after_same : {X Y : Type 0} (r : Result X ErrorNumber) (f g : X → Y) → ((x : X) → f x ≡ g x) → after r f ≡ after r g
after_same (Ok x) f g h = ap Ok (h x)
after_same (Err number) f g h = refl

after_both : {X Y W : Type 0} (r : Result X ErrorNumber) (f : X → Y) (g : Y → W) → after (after r f) g ≡ after r (λ x. g (f x))
after_both (Ok x) f g = refl
after_both (Err number) f g = refl

module _ (globals : Map Content) (procedures : Map Procedure) (below : List (Option Frame)) where
  -- all variables, by the innermost frame
  abbrev pub holding : Frame → Variables
  holding frame = record { globals = globals; locals = Some frame ∷ below; procedures = procedures }

  module _ (frame : Frame) (name : Name) (no_link : is_link (map.get frame name.variable) ≡ false) where
    reads_own : content_of (holding frame) name.variable ≡ own (map.get frame name.variable)
    reads_own = seen_own (map.get frame name.variable) (map.get globals name.variable) no_link

    puts_own : (c : Content) → with_content (holding frame) name.variable c ≡ holding (map.insert frame name.variable (Own c))
    puts_own c = ap (λ b. if b then record (holding frame) { globals = map.insert globals name.variable c } else holding (map.insert frame name.variable (Own c))) no_link

    leaves_own : (o : Option Content) → left_with (holding frame) name.variable o ≡ holding (local_left frame name.variable o)
    leaves_own None = ap (λ b. if b then record (holding frame) { globals = map.remove globals name.variable } else holding (map.remove frame name.variable)) no_link
    leaves_own (Some c) = puts_own c

    local_taken : after (taken (content_of (holding frame) name.variable) name.index) (left_with (holding frame) name.variable) ≡ after (take_local frame name) holding
    local_taken =
        ap (λ (o : Option Content). after (taken o name.index) (left_with (holding frame) name.variable)) reads_own
        ∙ after_same (taken (own (map.get frame name.variable)) name.index) _ _ leaves_own
        ∙ sym (after_both (taken (own (map.get frame name.variable)) name.index) (local_left frame name.variable) holding)

  module _ (now : Variables) (frame : Frame) (held : now ≡ holding frame) (text : List ℕ) where
    no_link_in : (name : Name) → is_global (innermost now.locals) name.variable ≡ false → is_link (map.get frame name.variable) ≡ false
    no_link_in name local = ap (λ (v : Variables). is_global (innermost v.locals) name.variable) (sym held) ∙ local

    -- to take a procedure's own variable out is a change of the innermost frame
    pub takes : (name : Name) → named text ≡ Some name → is_global (innermost now.locals) name.variable ≡ false → without_at now text ≡ after (take_local frame name) holding
    takes name is local =
        ap (λ v. without_at v text) held
        ∙ ap (λ (n : Option Name). on_name n (λ name. after (taken (content_of (holding frame) name.variable) name.index) (left_with (holding frame) name.variable))) is
        ∙ local_taken frame name (no_link_in name local)

    pub links : with_global_link now text ≡ about text (after (with_link frame text) holding)
    links = ap (λ v. with_global_link v text) held
