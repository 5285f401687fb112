-- By which sequences virtual events are met, where one of them is changed.
use Rattle.std.specs.List.{list_all}
use Rattle.std.proofs.Common.{Decides, ◌≡◌, ◌⊎◌, inl, inr, ℕ, Bool, true, false, not, if◌then◌else◌, List, [], ◌∷◌, ◌++◌, refl, ap, sym, subst, ◌∙◌}
use Rattle.std.specs.Cmp.Lexicographic.{bytes_decides}
use Rattle.std.proofs.lemmas.Bool.{and_from}
use Rattle.tks_share.specs.Maps.{Map}
use Rattle.tks_text.proofs.Texts.{both}
use Rattle.tks_text.specs.Text.{same_text}
use Rattle.tks_event.specs.Equality.{equal_patterns}
use Rattle.tks_event.specs.declared.pattern.Pattern.{Pattern}
use Rattle.tks_event.proofs.Equal.{equal_so}
use Rattle.tks_bind.specs.declared.through.Through.{Through}
use Rattle.tks_bind.specs.declared.virtual_event.VirtualEvent.{VirtualEvent}
use Rattle.tks_bind.specs.Chosen.{IsOneOf}
use Rattle.tks_bind.specs.Distinct.{all_differ}
use Rattle.tks_bind.specs.WellFormed.{names_differ, are_virtuals}
use Rattle.tks_bind.specs.VirtualEvents.{is_named, has_sequence, sequences_of, with_sequence, added, deleted, other_sequences, with_sequences, deleted_sequence}
use Rattle.tks_bind.specs.Groups.{IsMetBy, Leads}
use Rattle.tks_bind.specs.Throughs.{IsOf, Gains, Drops}
use Rattle.tks_bind.proofs.Members.{all_at, one_left, one_right, one_either}
use Rattle.tks_bind.proofs.Leading.{leads_gained, leads_dropped}

-- ---- sequences but one

others_of : (q s : List Pattern) (ss : List (List Pattern)) → IsOneOf s (other_sequences q ss) → IsOneOf s ss × (¬ (s ≡ q))
others_of q s [] i = absurd i
others_of q s (p ∷ ss) i = by (equal_patterns p q) (equal_so p q) i (others_of q s ss)
  where
    by : (b : Bool) → Decides b (p ≡ q) → IsOneOf s (if b then other_sequences q ss else p ∷ other_sequences q ss)
        → (IsOneOf s (other_sequences q ss) → IsOneOf s ss × (¬ (s ≡ q))) → IsOneOf s (p ∷ ss) × (¬ (s ≡ q))
    by true d j rest = let r = rest j in (inr r.0, r.1)
    by false d (inl e) rest = (inl e, λ f. let g : false ≡ true = d.1 (sym e ∙ f) in cc)
    by false d (inr j) rest = let r = rest j in (inr r.0, r.1)

of_others : (q s : List Pattern) (ss : List (List Pattern)) → IsOneOf s ss → (¬ (s ≡ q)) → IsOneOf s (other_sequences q ss)
of_others q s [] i other = i
of_others q s (p ∷ ss) i other = by (equal_patterns p q) (equal_so p q) i (λ j. of_others q s ss j other)
  where
    by : (b : Bool) → Decides b (p ≡ q) → IsOneOf s (p ∷ ss) → (IsOneOf s ss → IsOneOf s (other_sequences q ss)) → IsOneOf s (if b then other_sequences q ss else p ∷ other_sequences q ss)
    by true d (inl e) rest = absurd (other (e ∙ d.0 refl))
    by true d (inr j) rest = rest j
    by false d (inl e) rest = inl e
    by false d (inr j) rest = inr (rest j)

-- ---- of another name

named_itself : (name : List ℕ) → same_text name name ≡ true
named_itself name = (bytes_decides name name).1 refl

other_named : (name n : List ℕ) (v : VirtualEvent) → is_named name v ≡ true → (¬ (n ≡ name)) → is_named n v ≡ false
other_named name n v h other = by (is_named n v) refl
  where
    by : (b : Bool) → is_named n v ≡ b → b ≡ false
    by true k = absurd (other (sym ((bytes_decides v.name n).0 k) ∙ (bytes_decides v.name name).0 h))
    by false k = refl

module _ (name n : List ℕ) (other : ¬ (n ≡ name)) where
  with_elsewhere : (q : List Pattern) (v : VirtualEvent) (vs : List VirtualEvent) → is_named name v ≡ true → sequences_of n (with_sequence q v ∷ vs) ≡ sequences_of n vs
  with_elsewhere q v vs h = by (has_sequence q v.sequences) (other_named name n v h other)
    where
      by : (b : Bool) → is_named n v ≡ false → sequences_of n ((if b then v else record v { sequences = v.sequences ++ q ∷ [] }) ∷ vs) ≡ sequences_of n vs
      by true k = rw k refl
      by false k = rw k refl

  added_elsewhere : (q : List Pattern) (vs : List VirtualEvent) → sequences_of n (added name q vs) ≡ sequences_of n vs
  added_elsewhere q [] = rw (other_named name n (record { name = name; sequences = q ∷ [] }) (named_itself name) other) refl
  added_elsewhere q (v ∷ vs) = by (is_named name v) refl (added_elsewhere q vs)
    where
      by : (b : Bool) → is_named name v ≡ b → sequences_of n (added name q vs) ≡ sequences_of n vs
          → sequences_of n (if b then with_sequence q v ∷ vs else v ∷ added name q vs) ≡ sequences_of n (v ∷ vs)
      by true h rest = with_elsewhere q v vs h ∙ (rw (other_named name n v h other) refl)
      by false h rest = ap (λ l. if is_named n v then v.sequences else l) rest

  deleted_elsewhere : (vs : List VirtualEvent) → sequences_of n (deleted name vs) ≡ sequences_of n vs
  deleted_elsewhere [] = refl
  deleted_elsewhere (v ∷ vs) = by (is_named name v) refl (deleted_elsewhere vs)
    where
      by : (b : Bool) → is_named name v ≡ b → sequences_of n (deleted name vs) ≡ sequences_of n vs → sequences_of n (if b then vs else v ∷ deleted name vs) ≡ sequences_of n (v ∷ vs)
      by true h rest = rw (other_named name n v h other) refl
      by false h rest = ap (λ l. if is_named n v then v.sequences else l) rest

  fewer_elsewhere : (v : VirtualEvent) (l : List (List Pattern)) (vs : List VirtualEvent) → is_named name v ≡ true → sequences_of n (with_sequences v l vs) ≡ sequences_of n vs
  fewer_elsewhere v [] vs h = refl
  fewer_elsewhere v (s ∷ ss) vs h = rw (other_named name n v h other) refl

  less_elsewhere : (q : List Pattern) (vs : List VirtualEvent) → sequences_of n (deleted_sequence name q vs) ≡ sequences_of n vs
  less_elsewhere q [] = refl
  less_elsewhere q (v ∷ vs) = by (is_named name v) refl (less_elsewhere q vs)
    where
      by : (b : Bool) → is_named name v ≡ b → sequences_of n (deleted_sequence name q vs) ≡ sequences_of n vs
          → sequences_of n (if b then with_sequences v (other_sequences q v.sequences) vs else v ∷ deleted_sequence name q vs) ≡ sequences_of n (v ∷ vs)
      by true h rest = fewer_elsewhere v (other_sequences q v.sequences) vs h ∙ (rw (other_named name n v h other) refl)
      by false h rest = ap (λ l. if is_named n v then v.sequences else l) rest

  pushed_elsewhere : (v : VirtualEvent) (vs : List VirtualEvent) → v.name ≡ name → sequences_of n (vs ++ v ∷ []) ≡ sequences_of n vs
  pushed_elsewhere v [] e = rw (other_named name n v ((bytes_decides v.name name).1 e) other) refl
  pushed_elsewhere v (u ∷ vs) e = ap (λ l. if is_named n u then u.sequences else l) (pushed_elsewhere v vs e)

-- ---- of the name

module _ (name : List ℕ) where
  added_here : (q : List Pattern) (vs : List VirtualEvent) → has_sequence q (sequences_of name vs) ≡ false → sequences_of name (added name q vs) ≡ sequences_of name vs ++ q ∷ []
  added_here q [] h = rw (named_itself name) refl
  added_here q (v ∷ vs) h = by (is_named name v) refl h (added_here q vs)
    where
      by : (b : Bool) → is_named name v ≡ b → has_sequence q (if b then v.sequences else sequences_of name vs) ≡ false
          → (has_sequence q (sequences_of name vs) ≡ false → sequences_of name (added name q vs) ≡ sequences_of name vs ++ q ∷ [])
          → sequences_of name (if b then with_sequence q v ∷ vs else v ∷ added name q vs) ≡ (if b then v.sequences else sequences_of name vs) ++ q ∷ []
      by true e k rest = rw (k, e) refl
      by false e k rest = rw e (rest k)

  none_named : (v : VirtualEvent) (vs : List VirtualEvent) → v.name ≡ name → list_all (names_differ v) vs ≡ true → sequences_of name vs ≡ []
  none_named v [] e h = refl
  none_named v (w ∷ vs) e h = by (is_named name w) refl (both (names_differ v w) (list_all (names_differ v) vs) h) (none_named v vs e)
    where
      by : (b : Bool) → is_named name w ≡ b → (names_differ v w ≡ true) × (list_all (names_differ v) vs ≡ true) → (list_all (names_differ v) vs ≡ true → sequences_of name vs ≡ [])
          → (if b then w.sequences else sequences_of name vs) ≡ []
      by true k two rest =
          let same = (bytes_decides v.name w.name).1 (e ∙ sym ((bytes_decides w.name name).0 k)) in
          absurd (let apart : not (same_text v.name w.name) ≡ true = two.0 in let g : false ≡ true = rw same at apart in cc)
      by false k two rest = rest two.1

  deleted_here : (vs : List VirtualEvent) → are_virtuals vs ≡ true → sequences_of name (deleted name vs) ≡ []
  deleted_here [] h = refl
  deleted_here (v ∷ vs) h = by (is_named name v) refl (both (list_all (names_differ v) vs) (all_differ names_differ vs) h) (deleted_here vs)
    where
      by : (b : Bool) → is_named name v ≡ b → (list_all (names_differ v) vs ≡ true) × (all_differ names_differ vs ≡ true)
          → (are_virtuals vs ≡ true → sequences_of name (deleted name vs) ≡ []) → sequences_of name (if b then vs else v ∷ deleted name vs) ≡ []
      by true k two rest = none_named v vs ((bytes_decides v.name name).0 k) two.0
      by false k two rest = rw k (rest two.1)

  fewer_here : (v : VirtualEvent) (l : List (List Pattern)) (vs : List VirtualEvent) → is_named name v ≡ true → sequences_of name vs ≡ [] → sequences_of name (with_sequences v l vs) ≡ l
  fewer_here v [] vs h k = k
  fewer_here v (s ∷ ss) vs h k = rw h refl

  less_here : (q : List Pattern) (vs : List VirtualEvent) → are_virtuals vs ≡ true → sequences_of name (deleted_sequence name q vs) ≡ other_sequences q (sequences_of name vs)
  less_here q [] h = refl
  less_here q (v ∷ vs) h = by (is_named name v) refl (both (list_all (names_differ v) vs) (all_differ names_differ vs) h) (less_here q vs)
    where
      by : (b : Bool) → is_named name v ≡ b → (list_all (names_differ v) vs ≡ true) × (all_differ names_differ vs ≡ true)
          → (are_virtuals vs ≡ true → sequences_of name (deleted_sequence name q vs) ≡ other_sequences q (sequences_of name vs))
          → sequences_of name (if b then with_sequences v (other_sequences q v.sequences) vs else v ∷ deleted_sequence name q vs) ≡ other_sequences q (if b then v.sequences else sequences_of name vs)
      by true k two rest = fewer_here v (other_sequences q v.sequences) vs k (none_named v vs ((bytes_decides v.name name).0 k) two.0)
      by false k two rest = rw k (rest two.1)

  -- one more, whose name none before has
  pushed_here : (v : VirtualEvent) (vs : List VirtualEvent) → v.name ≡ name → list_all (λ u. names_differ u v) vs ≡ true → sequences_of name (vs ++ v ∷ []) ≡ v.sequences
  pushed_here v [] e h = rw ((bytes_decides v.name name).1 e) refl
  pushed_here v (u ∷ vs) e h = by (is_named name u) refl (both (names_differ u v) (list_all (λ w. names_differ w v) vs) h) (pushed_here v vs e)
    where
      by : (b : Bool) → is_named name u ≡ b → (names_differ u v ≡ true) × (list_all (λ w. names_differ w v) vs ≡ true)
          → (list_all (λ w. names_differ w v) vs ≡ true → sequences_of name (vs ++ v ∷ []) ≡ v.sequences) → (if b then u.sequences else sequences_of name (vs ++ v ∷ [])) ≡ v.sequences
      by true k two rest =
          let same = (bytes_decides u.name v.name).1 ((bytes_decides u.name name).0 k ∙ sym e) in
          absurd (let apart : not (same_text u.name v.name) ≡ true = two.0 in let g : false ≡ true = rw same at apart in cc)
      by false k two rest = rest two.1

  none_before : (v : VirtualEvent) (vs : List VirtualEvent) → v.name ≡ name → list_all (λ u. names_differ u v) vs ≡ true → sequences_of name vs ≡ []
  none_before v [] e h = refl
  none_before v (u ∷ vs) e h = by (is_named name u) refl (both (names_differ u v) (list_all (λ w. names_differ w v) vs) h) (none_before v vs e)
    where
      by : (b : Bool) → is_named name u ≡ b → (names_differ u v ≡ true) × (list_all (λ w. names_differ w v) vs ≡ true)
          → (list_all (λ w. names_differ w v) vs ≡ true → sequences_of name vs ≡ []) → (if b then u.sequences else sequences_of name vs) ≡ []
      by true k two rest =
          let same = (bytes_decides u.name v.name).1 ((bytes_decides u.name name).0 k ∙ sym e) in
          absurd (let apart : not (same_text u.name v.name) ≡ true = two.0 in let g : false ≡ true = rw same at apart in cc)
      by false k two rest = rest two.1

-- those before one differ from it
pub differ_before : (vs : List VirtualEvent) (v : VirtualEvent) (rest : List VirtualEvent) → are_virtuals (vs ++ v ∷ rest) ≡ true → list_all (λ u. names_differ u v) vs ≡ true
differ_before [] v rest h = refl
differ_before (u ∷ vs) v rest h =
    let two = both (list_all (names_differ u) (vs ++ v ∷ rest)) (all_differ names_differ (vs ++ v ∷ rest)) h in
    and_from (names_differ u v) (list_all (λ w. names_differ w v) vs) (all_at (names_differ u) vs v rest two.0) (differ_before vs v rest two.1)

-- ---- what the groups lead to

-- a name is this one, or another
either_name : (n name : List ℕ) → (n ≡ name) ⊎ (¬ (n ≡ name))
either_name n name = by (same_text n name) (bytes_decides n name)
  where
    by : (b : Bool) → Decides b (n ≡ name) → (n ≡ name) ⊎ (¬ (n ≡ name))
    by true d = inl (d.0 refl)
    by false d = inr (λ e. let g : false ≡ true = d.1 e in cc)

at_name : (t : Through) (name : List ℕ) (vs : List VirtualEvent) → t.name ≡ name → IsMetBy t vs → IsOneOf t.sequence (sequences_of name vs)
at_name t name vs e i = subst (λ n. IsOneOf t.sequence (sequences_of n vs)) e i

from_name : (t : Through) (name : List ℕ) (vs : List VirtualEvent) → t.name ≡ name → IsOneOf t.sequence (sequences_of name vs) → IsMetBy t vs
from_name t name vs e i = subst (λ n. IsOneOf t.sequence (sequences_of n vs)) (sym e) i

module _ (name : List ℕ) (m made : Map (Map (Map (List Through)))) (vs : List VirtualEvent) where
  -- some sequences join behind those of a name
  joined : (qs : List (List Pattern)) (ws : List VirtualEvent) → ((n : List ℕ) → ¬ (n ≡ name) → sequences_of n ws ≡ sequences_of n vs)
      → sequences_of name ws ≡ sequences_of name vs ++ qs → Leads m vs → Gains name qs m made → Leads made ws
  joined qs ws elsewhere here h g = leads_gained name qs m made vs ws down up new h g
    where
      down : (t : Through) → IsMetBy t ws → IsMetBy t vs ⊎ IsOf name qs t
      down t i = by (either_name t.name name)
        where
          by : (t.name ≡ name) ⊎ (¬ (t.name ≡ name)) → IsMetBy t vs ⊎ IsOf name qs t
          by (inl e) = at (one_either t.sequence (sequences_of name vs) qs (subst (IsOneOf t.sequence) here (at_name t name ws e i)))
            where
              at : IsOneOf t.sequence (sequences_of name vs) ⊎ IsOneOf t.sequence qs → IsMetBy t vs ⊎ IsOf name qs t
              at (inl j) = inl (from_name t name vs e j)
              at (inr j) = inr (e, j)
          by (inr other) = inl (subst (IsOneOf t.sequence) (elsewhere t.name other) i)

      up : (t : Through) → IsMetBy t vs → IsMetBy t ws
      up t i = by (either_name t.name name)
        where
          by : (t.name ≡ name) ⊎ (¬ (t.name ≡ name)) → IsMetBy t ws
          by (inl e) = from_name t name ws e (subst (IsOneOf t.sequence) (sym here) (one_left t.sequence (sequences_of name vs) qs (at_name t name vs e i)))
          by (inr other) = subst (IsOneOf t.sequence) (sym (elsewhere t.name other)) i

      new : (t : Through) → IsOf name qs t → IsMetBy t ws
      new t (e, j) = from_name t name ws e (subst (IsOneOf t.sequence) (sym here) (one_right t.sequence (sequences_of name vs) qs j))

  pub leads_added : (q : List Pattern) → has_sequence q (sequences_of name vs) ≡ false → Leads m vs → Gains name (q ∷ []) m made → Leads made (added name q vs)
  leads_added q lacks h g = joined (q ∷ []) (added name q vs) (λ n other. added_elsewhere name n other q vs) (added_here name q vs lacks) h g

  pub leads_deleted : are_virtuals vs ≡ true → Leads m vs → Drops name (sequences_of name vs) m made → Leads made (deleted name vs)
  leads_deleted apart h d = leads_dropped name (sequences_of name vs) m made vs (deleted name vs) down up h d
    where
      down : (t : Through) → IsMetBy t (deleted name vs) → IsMetBy t vs × (¬ IsOf name (sequences_of name vs) t)
      down t i = by (either_name t.name name)
        where
          by : (t.name ≡ name) ⊎ (¬ (t.name ≡ name)) → IsMetBy t vs × (¬ IsOf name (sequences_of name vs) t)
          by (inl e) = absurd (subst (IsOneOf t.sequence) (deleted_here name vs apart) (at_name t name (deleted name vs) e i))
          by (inr other) = (subst (IsOneOf t.sequence) (deleted_elsewhere name t.name other vs) i, λ n. other n.0)

      up : (t : Through) → IsMetBy t vs → (¬ IsOf name (sequences_of name vs) t) → IsMetBy t (deleted name vs)
      up t i none = by (either_name t.name name)
        where
          by : (t.name ≡ name) ⊎ (¬ (t.name ≡ name)) → IsMetBy t (deleted name vs)
          by (inl e) = absurd (none (e, at_name t name vs e i))
          by (inr other) = subst (IsOneOf t.sequence) (sym (deleted_elsewhere name t.name other vs)) i

  pub leads_less : (q : List Pattern) → are_virtuals vs ≡ true → Leads m vs → Drops name (q ∷ []) m made → Leads made (deleted_sequence name q vs)
  leads_less q apart h d = leads_dropped name (q ∷ []) m made vs (deleted_sequence name q vs) down up h d
    where
      down : (t : Through) → IsMetBy t (deleted_sequence name q vs) → IsMetBy t vs × (¬ IsOf name (q ∷ []) t)
      down t i = by (either_name t.name name)
        where
          isnt : (¬ (t.sequence ≡ q)) → IsOneOf t.sequence (q ∷ []) → ⊥
          isnt other (inl e) = other e
          isnt other (inr none) = none

          by : (t.name ≡ name) ⊎ (¬ (t.name ≡ name)) → IsMetBy t vs × (¬ IsOf name (q ∷ []) t)
          by (inl e) =
              let r = others_of q t.sequence (sequences_of name vs) (subst (IsOneOf t.sequence) (less_here name q vs apart) (at_name t name (deleted_sequence name q vs) e i)) in
              (from_name t name vs e r.0, λ n. isnt r.1 n.1)
          by (inr other) = (subst (IsOneOf t.sequence) (less_elsewhere name t.name other q vs) i, λ n. other n.0)

      up : (t : Through) → IsMetBy t vs → (¬ IsOf name (q ∷ []) t) → IsMetBy t (deleted_sequence name q vs)
      up t i none = by (either_name t.name name)
        where
          by : (t.name ≡ name) ⊎ (¬ (t.name ≡ name)) → IsMetBy t (deleted_sequence name q vs)
          by (inl e) =
              from_name t name (deleted_sequence name q vs) e (
              subst (IsOneOf t.sequence) (sym (less_here name q vs apart)) (of_others q t.sequence (sequences_of name vs) (at_name t name vs e i) (λ f. none (e, inl f)))
              )
          by (inr other) = subst (IsOneOf t.sequence) (sym (less_elsewhere name t.name other q vs)) i

  pub leads_pushed : (v : VirtualEvent) (rest : List VirtualEvent) → v.name ≡ name → are_virtuals (vs ++ v ∷ rest) ≡ true → Leads m vs → Gains name v.sequences m made → Leads made (vs ++ v ∷ [])
  leads_pushed v rest e apart h g =
      let before = differ_before vs v rest apart in
      joined v.sequences (vs ++ v ∷ []) (λ n other. pushed_elsewhere name n other v vs e) (pushed_here name v vs e before ∙ (rw (none_before name v vs e before) refl)) h g
