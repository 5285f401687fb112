-- Sequences of virtual events by their endings, where some join or go.
use Rattle.std.specs.List.{filter}
use Rattle.std.proofs.Common.{◌≡◌, ◌⊎◌, inl, inr, ℕ, Bool, true, false, ◌&&◌, not, if◌then◌else◌, List, [], ◌∷◌, ◌++◌, refl, ap, sym, subst, ◌∙◌}
use Rattle.std.specs.Cmp.Lexicographic.{bytes_decides}
use Rattle.std.proofs.lemmas.Bool.{and_from}
use Rattle.std.specs.FinMap as map
use Rattle.tks_share.specs.Maps.{Map}
use Rattle.tks_text.proofs.Texts.{both}
use Rattle.tks_text.specs.Text.{same_text}
use Rattle.tks_event.specs.Equality.{equal_patterns}
use Rattle.tks_event.specs.declared.pattern.Pattern.{Pattern}
use Rattle.tks_event.proofs.Equal.{equal_so}
use Rattle.tks_bind.specs.declared.through.Through.{Through}
use Rattle.tks_bind.specs.declared.virtual_event.VirtualEvent.{VirtualEvent}
use Rattle.tks_bind.specs.Chosen.{IsOneOf}
use Rattle.tks_bind.specs.Endings.{Key, same_ending, last_ending}
use Rattle.tks_bind.specs.Groups.{names_in, Spot, spot_of, same_spot, list_at, IsMetBy, Tells, Leads, is_other}
use Rattle.tks_bind.specs.Tagged.{all_listed}
use Rattle.tks_bind.specs.Throughs.{IsOf, ArePlaced, Gains, Drops}
use Rattle.tks_bind.proofs.Grouping.{no_list}
use Rattle.tks_bind.proofs.Tagged.{in_some_list, in_lists}
use Rattle.tks_bind.proofs.Members.{one_left, one_right, one_either, one_kept, one_of_kept}

-- ---- endings that are the same

pub ending_from : (e k : Key) → same_ending e k ≡ true → e ≡ k
ending_from e k h =
    let ends = both (same_text e.kind k.kind) (same_text e.detail k.detail) h in
    whole e.kind e.detail ((bytes_decides e.kind k.kind).0 ends.0) ((bytes_decides e.detail k.detail).0 ends.1)
  where
    whole : (x y : List ℕ) → x ≡ k.kind → y ≡ k.detail → ◌≡◌ {A = Key} (record { kind = x; detail = y }) k
    whole x y f g = ap (λ z. record { kind = z; detail = y }) f ∙ ap (λ z. record { kind = k.kind; detail = z }) g

pub ending_same : (e : Key) → same_ending e e ≡ true
ending_same e = and_from (same_text e.kind e.kind) (same_text e.detail e.detail) ((bytes_decides e.kind e.kind).1 refl) ((bytes_decides e.detail e.detail).1 refl)

-- ---- and where they are found

pub spot_from : (s t : Spot) → same_spot s t ≡ true → s ≡ t
spot_from s t h =
    let parts = both (same_text s.ending.kind t.ending.kind) (same_text s.ending.detail t.ending.detail && same_text s.name t.name) h in
    let more = both (same_text s.ending.detail t.ending.detail) (same_text s.name t.name) parts.1 in
    whole s.ending s.name (ending_from s.ending t.ending (and_from (same_text s.ending.kind t.ending.kind) (same_text s.ending.detail t.ending.detail) parts.0 more.0)) ((bytes_decides s.name t.name).0 more.1)
  where
    whole : (e : Key) (n : List ℕ) → e ≡ t.ending → n ≡ t.name → ◌≡◌ {A = Spot} (record { ending = e; name = n }) t
    whole e n f g = ap (λ z. record { ending = z; name = n }) f ∙ ap (λ z. record { ending = t.ending; name = z }) g

pub spot_same : (s : Spot) → same_spot s s ≡ true
spot_same s =
    and_from (same_text s.ending.kind s.ending.kind) (same_text s.ending.detail s.ending.detail && same_text s.name s.name) ((bytes_decides s.ending.kind s.ending.kind).1 refl)
    (and_from (same_text s.ending.detail s.ending.detail) (same_text s.name s.name) ((bytes_decides s.ending.detail s.ending.detail).1 refl) ((bytes_decides s.name s.name).1 refl))

-- ---- one that joins, and one that goes

through_is : (t : Through) (name : List ℕ) (q : List Pattern) → t.name ≡ name → t.sequence ≡ q → t ≡ record { name = name; sequence = q }
through_is t name q e f = ap (λ z. record { name = z; sequence = t.sequence }) e ∙ ap (λ z. record { name = name; sequence = z }) f

module _ (name : List ℕ) (q : List Pattern) (m made : Map (Map (Map (List Through)))) where
  pub gains_one : ((s : Spot) → list_at made s ≡ (if same_spot s (record { ending = last_ending q; name = name }) then list_at m (record { ending = last_ending q; name = name }) ++ record { name = name; sequence = q } ∷ [] else list_at m s))
      → Gains name (q ∷ []) m made
  gains_one told = record { from = λ s t i. from s t (same_spot s (record { ending = last_ending q; name = name })) refl (subst (IsOneOf t) (told s) i); stays = λ s t i. subst (IsOneOf t) (sym (told s)) (old s t (same_spot s (record { ending = last_ending q; name = name })) refl i); joins = new }
    where
      from : (s : Spot) (t : Through) (b : Bool) → same_spot s (record { ending = last_ending q; name = name }) ≡ b
          → IsOneOf t (if b then list_at m (record { ending = last_ending q; name = name }) ++ record { name = name; sequence = q } ∷ [] else list_at m s)
          → IsOneOf t (list_at m s) ⊎ (IsOf name (q ∷ []) t × (spot_of t ≡ s))
      from s t true h i = by (one_either t (list_at m (record { ending = last_ending q; name = name })) (record { name = name; sequence = q } ∷ []) i)
        where
          by : IsOneOf t (list_at m (record { ending = last_ending q; name = name })) ⊎ IsOneOf t (record { name = name; sequence = q } ∷ []) → IsOneOf t (list_at m s) ⊎ (IsOf name (q ∷ []) t × (spot_of t ≡ s))
          by (inl j) = inl (subst (λ x. IsOneOf t (list_at m x)) (sym (spot_from s (record { ending = last_ending q; name = name }) h)) j)
          by (inr (inl same)) = inr ((ap (λ (x : Through). x.name) same, inl (ap (λ (x : Through). x.sequence) same)), ap spot_of same ∙ sym (spot_from s (record { ending = last_ending q; name = name }) h))
          by (inr (inr none)) = absurd none
      from s t false h i = inl i

      old : (s : Spot) (t : Through) (b : Bool) → same_spot s (record { ending = last_ending q; name = name }) ≡ b → IsOneOf t (list_at m s)
          → IsOneOf t (if b then list_at m (record { ending = last_ending q; name = name }) ++ record { name = name; sequence = q } ∷ [] else list_at m s)
      old s t true h i = one_left t (list_at m (record { ending = last_ending q; name = name })) (record { name = name; sequence = q } ∷ []) (subst (λ x. IsOneOf t (list_at m x)) (spot_from s (record { ending = last_ending q; name = name }) h) i)
      old s t false h i = i

      new : (t : Through) → IsOf name (q ∷ []) t → IsOneOf t (list_at made (spot_of t))
      new t (n, inl f) =
          let r : Through = record { name = name; sequence = q } in
          subst (λ x. IsOneOf x (list_at made (spot_of x))) (sym (through_is t name q n f)) (
          subst (IsOneOf r) (sym (told (record { ending = last_ending q; name = name }))) (rw (spot_same (record { ending = last_ending q; name = name })) (one_right r (list_at m (record { ending = last_ending q; name = name })) (record { name = name; sequence = q } ∷ []) (inl refl)))
          )
      new t (n, inr none) = absurd none

  is_it : (t : Through) → is_other name q t ≡ false → IsOf name (q ∷ []) t
  is_it t h = by (same_text t.name name) (equal_patterns t.sequence q) refl refl h
    where
      by : (a b : Bool) → same_text t.name name ≡ a → equal_patterns t.sequence q ≡ b → not (a && b) ≡ false → IsOf name (q ∷ []) t
      by true true e f g = ((bytes_decides t.name name).0 e, inl ((equal_so t.sequence q).0 f))
      by true false e f g = absurd (let wrong : true ≡ false = g in cc)
      by false b e f g = absurd (let wrong : true ≡ false = g in cc)

  isnt_it : (t : Through) → is_other name q t ≡ true → ¬ IsOf name (q ∷ []) t
  isnt_it t h (n, inl f) =
      let same = and_from (same_text t.name name) (equal_patterns t.sequence q) ((bytes_decides t.name name).1 n) ((equal_so t.sequence q).1 f) in
      let g : false ≡ true = rw same at h in
      cc
  isnt_it t h (n, inr none) = none

  pub drops_one : ((s : Spot) → list_at made s ≡ (if same_spot s (record { ending = last_ending q; name = name }) then filter (is_other name q) (list_at m (record { ending = last_ending q; name = name })) else list_at m s))
      → ArePlaced m → Drops name (q ∷ []) m made
  drops_one told placed = record { from = λ s t i. from s t (same_spot s (record { ending = last_ending q; name = name })) refl (subst (IsOneOf t) (told s) i); stays = λ s t i isnt. subst (IsOneOf t) (sym (told s)) (kept s t (same_spot s (record { ending = last_ending q; name = name })) refl i isnt) }
    where
      elsewhere : (s : Spot) (t : Through) → same_spot s (record { ending = last_ending q; name = name }) ≡ false → IsOneOf t (list_at m s) → ¬ IsOf name (q ∷ []) t
      elsewhere s t h i (n, inl f) =
          let there = sym (placed s t i) ∙ ap spot_of (through_is t name q n f) in
          let g : true ≡ false = sym (spot_same (record { ending = last_ending q; name = name })) ∙ (ap (λ x. same_spot x (record { ending = last_ending q; name = name })) (sym there) ∙ h) in
          cc
      elsewhere s t h i (n, inr none) = none

      from : (s : Spot) (t : Through) (b : Bool) → same_spot s (record { ending = last_ending q; name = name }) ≡ b
          → IsOneOf t (if b then filter (is_other name q) (list_at m (record { ending = last_ending q; name = name })) else list_at m s) → IsOneOf t (list_at m s) × (¬ IsOf name (q ∷ []) t)
      from s t true h i =
          let r = one_of_kept t (is_other name q) (list_at m (record { ending = last_ending q; name = name })) i in
          (subst (λ x. IsOneOf t (list_at m x)) (sym (spot_from s (record { ending = last_ending q; name = name }) h)) r.0, isnt_it t r.1)
      from s t false h i = (i, elsewhere s t h i)

      kept : (s : Spot) (t : Through) (b : Bool) → same_spot s (record { ending = last_ending q; name = name }) ≡ b → IsOneOf t (list_at m s) → (¬ IsOf name (q ∷ []) t)
          → IsOneOf t (if b then filter (is_other name q) (list_at m (record { ending = last_ending q; name = name })) else list_at m s)
      kept s t true h i isnt = by (is_other name q t) refl
        where
          by : (b : Bool) → is_other name q t ≡ b → IsOneOf t (filter (is_other name q) (list_at m (record { ending = last_ending q; name = name })))
          by true other = one_kept t (is_other name q) (list_at m (record { ending = last_ending q; name = name })) (subst (λ x. IsOneOf t (list_at m x)) (spot_from s (record { ending = last_ending q; name = name }) h) i) other
          by false same = absurd (isnt (is_it t same))
      kept s t false h i isnt = i

-- ---- several, one behind the other

module _ (name : List ℕ) where
  pub gains_none : (m : Map (Map (Map (List Through)))) → Gains name [] m m
  gains_none m = record { from = λ s t i. inl i; stays = λ s t i. i; joins = λ t n. absurd n.1 }

  pub gains_more : (qs : List (List Pattern)) (q : List Pattern) (a b c : Map (Map (Map (List Through)))) → Gains name qs a b → Gains name (q ∷ []) b c → Gains name (qs ++ q ∷ []) a c
  gains_more qs q a b c g h = record { from = from; stays = λ s t i. h.stays s t (g.stays s t i); joins = new }
    where
      wider : (t : Through) (s : Spot) → IsOneOf t (list_at a s) ⊎ (IsOf name qs t × (spot_of t ≡ s)) → IsOneOf t (list_at a s) ⊎ (IsOf name (qs ++ q ∷ []) t × (spot_of t ≡ s))
      wider t s (inl i) = inl i
      wider t s (inr r) = inr ((r.0.0, one_left t.sequence qs (q ∷ []) r.0.1), r.1)

      from : (s : Spot) (t : Through) → IsOneOf t (list_at c s) → IsOneOf t (list_at a s) ⊎ (IsOf name (qs ++ q ∷ []) t × (spot_of t ≡ s))
      from s t i = by (h.from s t i)
        where
          by : IsOneOf t (list_at b s) ⊎ (IsOf name (q ∷ []) t × (spot_of t ≡ s)) → IsOneOf t (list_at a s) ⊎ (IsOf name (qs ++ q ∷ []) t × (spot_of t ≡ s))
          by (inl j) = wider t s (g.from s t j)
          by (inr r) = inr ((r.0.0, one_right t.sequence qs (q ∷ []) r.0.1), r.1)

      new : (t : Through) → IsOf name (qs ++ q ∷ []) t → IsOneOf t (list_at c (spot_of t))
      new t (n, i) = by (one_either t.sequence qs (q ∷ []) i)
        where
          by : IsOneOf t.sequence qs ⊎ IsOneOf t.sequence (q ∷ []) → IsOneOf t (list_at c (spot_of t))
          by (inl j) = h.stays (spot_of t) t (g.joins t (n, j))
          by (inr j) = h.joins t (n, j)

  pub drops_none : (m : Map (Map (Map (List Through)))) → Drops name [] m m
  drops_none m = record { from = λ s t i. (i, λ n. n.1); stays = λ s t i isnt. i }

  pub still_placed : (qs : List (List Pattern)) (a b : Map (Map (Map (List Through)))) → ArePlaced a → Drops name qs a b → ArePlaced b
  still_placed qs a b placed d s t i = placed s t (d.from s t i).0

  pub drops_more : (qs : List (List Pattern)) (q : List Pattern) (a b c : Map (Map (Map (List Through)))) → Drops name qs a b → Drops name (q ∷ []) b c → Drops name (qs ++ q ∷ []) a c
  drops_more qs q a b c g h = record { from = from; stays = kept }
    where
      from : (s : Spot) (t : Through) → IsOneOf t (list_at c s) → IsOneOf t (list_at a s) × (¬ IsOf name (qs ++ q ∷ []) t)
      from s t i = let r = h.from s t i in let one = g.from s t r.0 in (one.0, λ n. by r.1 one.1 n.0 (one_either t.sequence qs (q ∷ []) n.1))
        where
          by : (¬ IsOf name (q ∷ []) t) → (¬ IsOf name qs t) → t.name ≡ name → IsOneOf t.sequence qs ⊎ IsOneOf t.sequence (q ∷ []) → ⊥
          by isnt none n (inl j) = none (n, j)
          by isnt none n (inr j) = isnt (n, j)

      kept : (s : Spot) (t : Through) → IsOneOf t (list_at a s) → (¬ IsOf name (qs ++ q ∷ []) t) → IsOneOf t (list_at c s)
      kept s t i isnt = h.stays s t (g.stays s t i (λ n. isnt (n.0, one_left t.sequence qs (q ∷ []) n.1))) (λ n. isnt (n.0, one_right t.sequence qs (q ∷ []) n.1))

-- ---- what they lead to

-- all that end so
pub tells_all : (m : Map (Map (Map (List Through)))) (vs : List VirtualEvent) → Leads m vs → (e : Key) → Tells vs e (all_listed (map.entries (names_in m e)))
tells_all m vs h e = record {
  met = λ t i.
      let one = in_some_list t (names_in m e) i in
      let told = (h (record { ending = e; name = one.0 })).met t one.1 in
      (told.0, ap (λ (s : Spot). s.ending) told.1);
  all = λ t i f. in_lists t (names_in m e) t.name ((h (record { ending = e; name = t.name })).all t i (ap (λ x. record { ending = x; name = t.name }) f));
}

pub none_led : Leads map.empty []
none_led s = record { met = λ t i. absurd (subst (IsOneOf t) (no_list s) i); all = λ t n f. absurd n }

pub placed_by : (m : Map (Map (Map (List Through)))) (vs : List VirtualEvent) → Leads m vs → ArePlaced m
placed_by m vs h s t i = ((h s).met t i).1

module _ (name : List ℕ) (qs : List (List Pattern)) (m made : Map (Map (Map (List Through)))) (vs ws : List VirtualEvent) where
  pub leads_gained : ((t : Through) → IsMetBy t ws → IsMetBy t vs ⊎ IsOf name qs t) → ((t : Through) → IsMetBy t vs → IsMetBy t ws) → ((t : Through) → IsOf name qs t → IsMetBy t ws)
      → Leads m vs → Gains name qs m made → Leads made ws
  leads_gained down up new h g s = record { met = met; all = all }
    where
      met : (t : Through) → IsOneOf t (list_at made s) → IsMetBy t ws × (spot_of t ≡ s)
      met t i = by (g.from s t i)
        where
          by : IsOneOf t (list_at m s) ⊎ (IsOf name qs t × (spot_of t ≡ s)) → IsMetBy t ws × (spot_of t ≡ s)
          by (inl j) = let r = (h s).met t j in (up t r.0, r.1)
          by (inr r) = (new t r.0, r.1)

      all : (t : Through) → IsMetBy t ws → spot_of t ≡ s → IsOneOf t (list_at made s)
      all t n f = by (down t n)
        where
          by : IsMetBy t vs ⊎ IsOf name qs t → IsOneOf t (list_at made s)
          by (inl i) = g.stays s t ((h s).all t i f)
          by (inr i) = subst (λ x. IsOneOf t (list_at made x)) f (g.joins t i)

  pub leads_dropped : ((t : Through) → IsMetBy t ws → IsMetBy t vs × (¬ IsOf name qs t)) → ((t : Through) → IsMetBy t vs → (¬ IsOf name qs t) → IsMetBy t ws)
      → Leads m vs → Drops name qs m made → Leads made ws
  leads_dropped down up h g s = record { met = met; all = all }
    where
      met : (t : Through) → IsOneOf t (list_at made s) → IsMetBy t ws × (spot_of t ≡ s)
      met t i = let one = g.from s t i in let r = (h s).met t one.0 in (up t r.0 one.1, r.1)

      all : (t : Through) → IsMetBy t ws → spot_of t ≡ s → IsOneOf t (list_at made s)
      all t n f = let r = down t n in g.stays s t ((h s).all t r.0 f) r.1
