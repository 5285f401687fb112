-- What is under a name after a change under it or under another.
use Rattle.std.proofs.Common.{◌≡◌, ◌≢◌, ℕ, true, false, cond, if◌then◌else◌, List, [], ◌∷◌, Option, Some, None, Ordering, Less, Equal, Greater, is_eq, refl, subst, ap, ◌∙◌}
use Rattle.std.specs.Prelude.{◌⊎◌}
use mathlib.Core.Logic.{inl, inr}
use Rattle.std.specs.Ordering.{nat_cmp, eq_by_cmp}
use Rattle.std.specs.Cmp.Lexicographic.{slice_cmp, nat_list_cmp_total}
use Rattle.std.proofs.lemmas.Cmp.{eq_by_cmp_equiv}
use Rattle.std.specs.FinMap as fin
use Rattle.tks_vars.specs.Table.{Map}
use Rattle.tks_vars.specs.Variables.{Variables, Frame, content_of, with_content, without_content, is_link, seen_through}
use Rattle.tks_vars.specs.declared.content.Content.{Content}
use Rattle.tks_vars.specs.declared.content.Local.{Local}
use Rattle.tks_vars.specs.declared.content.Local.TheVariants.{Own, Link}
use Rattle.tks_vars.specs.declared.procedure.Procedure.{Procedure}

abbrev order : List ℕ → List ℕ → Ordering
order = slice_cmp nat_cmp

is_equal : (r : Ordering) → is_eq r ≡ true → r ≡ Equal
is_equal Less e = absurd cc
is_equal Equal e = refl
is_equal Greater e = absurd cc

-- a name is told to be itself
other_than : (q k : List ℕ) → q ≡ k → eq_by_cmp order q k ≡ false → ⊥
other_than q k same e =
    let itself : eq_by_cmp order k k ≡ false = subst (λ x. eq_by_cmp order x k ≡ false) same e in
    let told : eq_by_cmp order k k ≡ true = (eq_by_cmp_equiv nat_list_cmp_total).refl k in
    cc

-- two names that are not the same are told apart
told_apart : (q k : List ℕ) → q ≢ k → eq_by_cmp order q k ≡ false
told_apart q k other = elim (eq_by_cmp order q k) as (λ b. eq_by_cmp order q k ≡ b → b ≡ false) [
  | true ↦ λ e. absurd (other (fin.slice_cmp-IsAntisymmetric fin.nat_cmp-IsAntisymmetric q k (is_equal _ e)))
  | false ↦ λ e. refl
] refl

-- two names are the same, or they aren't
pub same_or_other : (q k : List ℕ) → (q ≡ k) ⊎ (q ≢ k)
same_or_other q k = elim (eq_by_cmp order q k) as (λ b. eq_by_cmp order q k ≡ b → (q ≡ k) ⊎ (q ≢ k)) [
  | true ↦ λ e. inl (fin.slice_cmp-IsAntisymmetric fin.nat_cmp-IsAntisymmetric q k (is_equal _ e))
  | false ↦ λ e. inr (λ same. other_than q k same e)
] refl

module _ {V : Type 0} (m : Map V) (k : List ℕ) where
  pub put_here : (v : V) → fin.get (fin.insert m k v) k ≡ Some v
  put_here v = fin.get-insert nat_list_cmp_total m k v k ∙ ap (λ b. cond b (Some v) (fin.get m k)) ((eq_by_cmp_equiv nat_list_cmp_total).refl k)

  pub put_elsewhere : (v : V) (q : List ℕ) → q ≢ k → fin.get (fin.insert m k v) q ≡ fin.get m q
  put_elsewhere v q other = fin.get-insert nat_list_cmp_total m k v q ∙ ap (λ b. cond b (Some v) (fin.get m q)) (told_apart q k other)

  pub taken_here : fin.get (fin.remove m k) k ≡ None
  taken_here = fin.get-remove nat_list_cmp_total m k k ∙ ap (λ b. cond b None (fin.get m k)) ((eq_by_cmp_equiv nat_list_cmp_total).refl k)

  pub taken_elsewhere : (q : List ℕ) → q ≢ k → fin.get (fin.remove m k) q ≡ fin.get m q
  taken_elsewhere q other = fin.get-remove nat_list_cmp_total m k q ∙ ap (λ b. cond b None (fin.get m q)) (told_apart q k other)

module _ (globals : Map Content) (below : List (Option Frame)) (procedures : Map Procedure) where
  -- all variables, by the innermost frame or none
  abbrev by : Option Frame → Variables
  by frame = record { globals = globals; locals = frame ∷ below; procedures = procedures }

  abbrev at_top : Variables
  at_top = record { globals = globals; locals = []; procedures = procedures }

  module _ (name : List ℕ) where
    -- where the name is a link's or not, the one or the other
    by_local : {X : Type 0} (o : Option Local) (link other : X) (found : Option Local) → o ≡ found → (if is_link o then link else other) ≡ (if is_link found then link else other)
    by_local o link other found e = ap (λ (x : Option Local). if is_link x then link else other) e

    module _ (c : Content) where
      put_in : (frame : Frame) (o : Option Local) → fin.get frame name ≡ o → content_of (with_content (by (Some frame)) name c) name ≡ Some c
      put_in frame None e =
          ap (λ (v : Variables). content_of v name) (by_local (fin.get frame name) _ _ None e)
          ∙ ap (λ (x : Option Local). seen_through x (fin.get globals name)) (put_here frame name (Own c))
      put_in frame (Some (Own d)) e =
          ap (λ (v : Variables). content_of v name) (by_local (fin.get frame name) _ _ (Some (Own d)) e)
          ∙ ap (λ (x : Option Local). seen_through x (fin.get globals name)) (put_here frame name (Own c))
      put_in frame (Some Link) e =
          ap (λ (v : Variables). content_of v name) (by_local (fin.get frame name) _ _ (Some Link) e)
          ∙ ap (λ (x : Option Local). seen_through x (fin.get (fin.insert globals name c) name)) e
          ∙ put_here globals name c

      put_apart : (frame : Frame) (o : Option Local) (q : List ℕ) → q ≢ name → fin.get frame name ≡ o → content_of (with_content (by (Some frame)) name c) q ≡ content_of (by (Some frame)) q
      put_apart frame None q other e =
          ap (λ (v : Variables). content_of v q) (by_local (fin.get frame name) _ _ None e)
          ∙ ap (λ (x : Option Local). seen_through x (fin.get globals q)) (put_elsewhere frame name (Own c) q other)
      put_apart frame (Some (Own d)) q other e =
          ap (λ (v : Variables). content_of v q) (by_local (fin.get frame name) _ _ (Some (Own d)) e)
          ∙ ap (λ (x : Option Local). seen_through x (fin.get globals q)) (put_elsewhere frame name (Own c) q other)
      put_apart frame (Some Link) q other e =
          ap (λ (v : Variables). content_of v q) (by_local (fin.get frame name) _ _ (Some Link) e)
          ∙ ap (λ (x : Option Content). seen_through (fin.get frame q) x) (put_elsewhere globals name c q other)

    taken_in : (frame : Frame) (o : Option Local) → fin.get frame name ≡ o → content_of (without_content (by (Some frame)) name) name ≡ None
    taken_in frame None e =
        ap (λ (v : Variables). content_of v name) (by_local (fin.get frame name) _ _ None e)
        ∙ ap (λ (x : Option Local). seen_through x (fin.get globals name)) (taken_here frame name)
    taken_in frame (Some (Own d)) e =
        ap (λ (v : Variables). content_of v name) (by_local (fin.get frame name) _ _ (Some (Own d)) e)
        ∙ ap (λ (x : Option Local). seen_through x (fin.get globals name)) (taken_here frame name)
    taken_in frame (Some Link) e =
        ap (λ (v : Variables). content_of v name) (by_local (fin.get frame name) _ _ (Some Link) e)
        ∙ ap (λ (x : Option Local). seen_through x (fin.get (fin.remove globals name) name)) e
        ∙ taken_here globals name

    taken_apart : (frame : Frame) (o : Option Local) (q : List ℕ) → q ≢ name → fin.get frame name ≡ o → content_of (without_content (by (Some frame)) name) q ≡ content_of (by (Some frame)) q
    taken_apart frame None q other e =
        ap (λ (v : Variables). content_of v q) (by_local (fin.get frame name) _ _ None e)
        ∙ ap (λ (x : Option Local). seen_through x (fin.get globals q)) (taken_elsewhere frame name q other)
    taken_apart frame (Some (Own d)) q other e =
        ap (λ (v : Variables). content_of v q) (by_local (fin.get frame name) _ _ (Some (Own d)) e)
        ∙ ap (λ (x : Option Local). seen_through x (fin.get globals q)) (taken_elsewhere frame name q other)
    taken_apart frame (Some Link) q other e =
        ap (λ (v : Variables). content_of v q) (by_local (fin.get frame name) _ _ (Some Link) e)
        ∙ ap (λ (x : Option Content). seen_through (fin.get frame q) x) (taken_elsewhere globals name q other)

-- the same of all variables

with_by : (globals : Map Content) (locals : List (Option Frame)) (procedures : Map Procedure) (name : List ℕ) (c : Content)
    → content_of (with_content (record { globals = globals; locals = locals; procedures = procedures }) name c) name ≡ Some c
with_by globals [] procedures name c = put_here globals name c
with_by globals (None ∷ below) procedures name c = put_here globals name c
with_by globals (Some frame ∷ below) procedures name c = put_in globals below procedures name c frame (fin.get frame name) refl

pub content_put : (v : Variables) (name : List ℕ) (c : Content) → content_of (with_content v name c) name ≡ Some c
content_put v name c = with_by v.globals v.locals v.procedures name c

with_apart_by : (globals : Map Content) (locals : List (Option Frame)) (procedures : Map Procedure) (name : List ℕ) (c : Content) (q : List ℕ) → q ≢ name
    → content_of (with_content (record { globals = globals; locals = locals; procedures = procedures }) name c) q
    ≡ content_of (record { globals = globals; locals = locals; procedures = procedures }) q
with_apart_by globals [] procedures name c q other = put_elsewhere globals name c q other
with_apart_by globals (None ∷ below) procedures name c q other = put_elsewhere globals name c q other
with_apart_by globals (Some frame ∷ below) procedures name c q other = put_apart globals below procedures name c frame (fin.get frame name) q other refl

pub others_kept : (v : Variables) (name : List ℕ) (c : Content) (q : List ℕ) → q ≢ name → content_of (with_content v name c) q ≡ content_of v q
others_kept v name c q other = with_apart_by v.globals v.locals v.procedures name c q other

without_by : (globals : Map Content) (locals : List (Option Frame)) (procedures : Map Procedure) (name : List ℕ)
    → content_of (without_content (record { globals = globals; locals = locals; procedures = procedures }) name) name ≡ None
without_by globals [] procedures name = taken_here globals name
without_by globals (None ∷ below) procedures name = taken_here globals name
without_by globals (Some frame ∷ below) procedures name = taken_in globals below procedures name frame (fin.get frame name) refl

pub content_gone : (v : Variables) (name : List ℕ) → content_of (without_content v name) name ≡ None
content_gone v name = without_by v.globals v.locals v.procedures name

without_apart_by : (globals : Map Content) (locals : List (Option Frame)) (procedures : Map Procedure) (name q : List ℕ) → q ≢ name
    → content_of (without_content (record { globals = globals; locals = locals; procedures = procedures }) name) q
    ≡ content_of (record { globals = globals; locals = locals; procedures = procedures }) q
without_apart_by globals [] procedures name q other = taken_elsewhere globals name q other
without_apart_by globals (None ∷ below) procedures name q other = taken_elsewhere globals name q other
without_apart_by globals (Some frame ∷ below) procedures name q other = taken_apart globals below procedures name frame (fin.get frame name) q other refl

pub others_left : (v : Variables) (name q : List ℕ) → q ≢ name → content_of (without_content v name) q ≡ content_of v q
others_left v name q other = without_apart_by v.globals v.locals v.procedures name q other
