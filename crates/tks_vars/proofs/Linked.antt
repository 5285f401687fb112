-- Names that are made links one after the other.
use Rattle.std.proofs.Common.{◌≡◌, ℕ, ◌+◌, ◌<◌, Bool, true, false, if◌then◌else◌, List, [], ◌∷◌, ◌++◌, length, take, drop, Option, Some, None, is_some, Ok, refl, sym, subst, ap, ◌∙◌, arith}
use Rattle.std.specs.Prelude.{IfSome, reverse, slice_set}
use Rattle.std.specs.FinMap as map
use Rattle.std.proofs.lemmas.List.{take-append-le, length-take}
use Rattle.tks_vars.specs.Table.{Map}
use Rattle.tks_vars.specs.Few.{Entry, put_behind}
use Rattle.tks_vars.specs.Links.{IsNew, IsLinked, AreLinked}
use Rattle.tks_vars.specs.Names.{Name, named, named_in, named_behind, halves, closed, whole, is_whole}
use Rattle.tks_vars.specs.Variables.{Variables, Frame, about, after, on_name, link_by, link_at, with_link, with_link_in, innermost, grown_in, grown_by_name}
use Rattle.tks_vars.specs.declared.content.Content.{Content}
use Rattle.tks_vars.specs.declared.content.Local.TheVariants.{Link}
use Rattle.tks_vars.specs.declared.procedure.Procedure.{Procedure}
use Rattle.tks_vars.proofs.Firsts.{found_behind, put_at_end, len_behind}
use Rattle.tks_vars.proofs.Frames.{Last, holding, innermost_set}

-- the name of a whole variable is the variable
pub names_itself : (text : List ℕ) → is_whole (named text) ≡ true → named text ≡ Some (whole text)
names_itself text e = by_halves (halves text) e
  where
    by_end : (variable : List ℕ) (index : Option (List ℕ)) → is_whole (named_behind text variable index) ≡ true → named_behind text variable index ≡ Some (whole text)
    by_end variable None e = refl
    by_end [] (Some index) e = absurd cc
    by_end (c ∷ variable) (Some index) e = absurd cc

    by_halves : (o : Option (List ℕ × List ℕ)) → is_whole (named_in text o) ≡ true → named_in text o ≡ Some (whole text)
    by_halves None e = refl
    by_halves (Some parts) e = by_end parts.0 (closed parts.1) e

-- ---- one frame

nothing : {V : Type 0} (o : Option V) → is_some o ≡ false → o ≡ None
nothing None e = refl
nothing (Some v) e = absurd cc

module _ (rest : Frame) (first : List Entry) (name : List ℕ) (new : IsNew name first rest) where
  abbrev more : List Entry
  more = first ++ (name, Link) ∷ []

  pub link_joins : with_link (put_behind rest first) name ≡ Ok (put_behind rest more)
  link_joins =
      let frame = put_behind rest first in
      let missing : map.get frame name ≡ None = found_behind name rest first new.lacking ∙ nothing (map.get rest name) new.absent in
      ap (λ (n : Option Name). on_name n (λ n. link_by frame n.variable n.index)) new.is_whole
      ∙ ap (link_at frame name) missing
      ∙ ap Ok (sym (put_at_end name rest Link first new.lacking))

  pub link_counts : map.len (put_behind rest first) + 1 ≡ map.len (put_behind rest more)
  link_counts =
      let whole = put_behind rest first in
      ap (λ b. if b then map.len whole else map.len whole + 1) (sym new.absent)
      ∙ len_behind name rest Link first new.lacking ∙ ap map.len (sym (put_at_end name rest Link first new.lacking))

-- what was there stays at the front
pub front_stays : {A : Type 0} (old now : List A) (x : A) → take (length old) now ≡ old → take (length old) (now ++ x ∷ []) ≡ old
front_stays old now x e = take-append-le (length old) now (x ∷ []) (omega (arith, ap length e, length-take (length old) now)) ∙ e

-- ---- all variables

-- where the globals aren't the present frame, there is a frame
pub some_frame : (frames : List (Option Frame)) → is_some (innermost (reverse frames)) ≡ true → 0 < length frames
some_frame [] e = absurd cc
some_frame (frame ∷ frames) e = omega arith

module _ (most : ℕ) where
  grows : (frame : Frame) (n : Option Name) → map.len frame < most → IfSome (grown_in (Some frame) n) (λ n. n < most)
  grows frame None h = tt
  grows frame (Some n) h = by_index n.index
    where
      by_room : (b : Bool) → IfSome (if b then None else Some (map.len frame)) (λ n. n < most)
      by_room true = tt
      by_room false = h

      by_index : (index : Option (List ℕ)) → IfSome (grown_by_name frame n.variable index) (λ n. n < most)
      by_index None = by_room (map.contains_key frame n.variable)
      by_index (Some index) = tt

  -- links of the present frame are links of all variables
  pub all_linked : (globals : Map Content) (procedures : Map Procedure) (below : List (Option Frame)) (names : List (List ℕ)) (old new : Frame) → IsLinked most names old new
      → AreLinked most names (holding globals procedures below old) (holding globals procedures below new)
  all_linked globals procedures below [] old new h = ap (holding globals procedures below) h
  all_linked globals procedures below (name ∷ names) old new (next, room, made, others) = (
    holding globals procedures below next,
    grows old (named name) room,
    ap (λ r. about name (after r (holding globals procedures below))) made,
    all_linked globals procedures below names next new others,
  )

  -- which the code keeps last
  pub last_linked : (globals : Map Content) (procedures : Map Procedure) (frames : List (Option Frame)) (top : ℕ) (names : List (List ℕ)) (now : Variables) (old new : Frame)
      → Last now globals procedures frames top old → IsLinked most names old new → AreLinked most names now (record { globals = globals; locals = reverse (slice_set frames top (Some new)); procedures = procedures })
  last_linked globals procedures frames top names now old new here h =
      let below = drop 1 (reverse frames) in
      let with_locals : List (Option Frame) → Variables = λ ls. record { globals = globals; locals = ls; procedures = procedures } in
      subst (λ v. AreLinked most names v (with_locals (reverse (slice_set frames top (Some new))))) (sym here.held)
      (subst (λ ls. AreLinked most names (holding globals procedures below old) (with_locals ls)) (sym (innermost_set frames top (Some new) here.is_last))
      (all_linked globals procedures below names old new h))

  -- where the globals are the present frame, nothing is done
  pub none_linked : (names : List (List ℕ)) (v : Variables) → innermost v.locals ≡ None → AreLinked most names v v
  none_linked [] v top = refl
  none_linked (name ∷ names) v top = (
    v,
    subst (λ (f : Option Frame). IfSome (grown_in f (named name)) (λ n. n < most)) (sym top) tt,
    ap (λ (f : Option Frame). about name (with_link_in v f name)) top,
    none_linked names v top,
  )
