-- What the code chooses is the chosen binding.
use Rattle.std.proofs.Common.{Decides, ◌≡◌, ◌⊎◌, inl, inr, ◌≤◌, ◌-◌, ◌&&◌, ◌||◌, not, nat_lt, if◌then◌else◌, ℕ, Bool, true, false, List, [], ◌∷◌, ◌++◌, length, Option, Some, None, is_some, refl, ap, sym, subst, ◌∙◌, arith}
use Rattle.std.specs.Cmp.Lexicographic.{bytes_decides}
use Rattle.std.proofs.lemmas.Bool.Decides.{Decides-and, Decides-or, Decides-like, Decides-not, nat_tests}
use Rattle.tks_text.specs.Text.{same_text}
use Rattle.tks_event.specs.Kinds.{is_virtual}
use Rattle.tks_event.specs.declared.pattern.Pattern.{Pattern}
use Rattle.tks_bind.specs.declared.binding.Binding.{Binding}
use Rattle.tks_bind.specs.Occurs.{turned, Occurs}
use Rattle.tks_bind.specs.Search.{ends_at}
use Rattle.tks_bind.specs.Choice.{Way, Beats, IsAmong}
use Rattle.tks_bind.specs.Beating.{beats}
use Rattle.tks_bind.specs.Chosen.{Scene, name_of, IsOneOf, Meets, itself, through, by_name, Candidate, Wins, ChosenSo}
use Rattle.tks_bind.specs.Choosing.{is_this, meets, tried_for, tried, is_through, way, one_beats, is_beaten_by, is_beaten, stands, one_wins, wins, later, latest_of}
use Rattle.tks_bind.proofs.Deciding.{beats_so}
use Rattle.tks_bind.proofs.Finding.{occurs_so}
use Rattle.tks_bind.proofs.Winner.{one_wins as one_unbeaten}

is_itself : (v : Bool) → Decides v (v ≡ true)
is_itself v = (λ e. e, λ e. e)

never : {P : Type 0} → ¬ P → Decides false P
never f = (λ e. absurd (let g : false ≡ true = e in cc), λ p. absurd (f p))

no_name : (name : List ℕ) → ◌≡◌ {A = Option (List ℕ)} None (Some name) → ⊥
no_name name e = cc

one_name : (m n : List ℕ) → ◌≡◌ {A = Option (List ℕ)} (Some m) (Some n) → m ≡ n
one_name m n e = cc

pub this_so : (o : Option (List ℕ)) (name : List ℕ) → Decides (is_this o name) (o ≡ Some name)
this_so None name = never (no_name name)
this_so (Some n) name = Decides-like (same_text n name) (λ e. ap (λ x. Some x) e) (one_name n name) (bytes_decides n name)

module _ (s : Scene) where
  -- ---- the ways by which a binding is met

  module _ (b : Binding) where
    -- a sequence that is tried and met
    pub met : (q : List Pattern) → IsOneOf q (tried s b) → meets s q ≡ true → Meets s b (way (is_through s b) q)
    met q = by (is_virtual s.event.kind) refl (name_of b.sequence) refl
      where
        by : (v : Bool) → is_virtual s.event.kind ≡ v → (n : Option (List ℕ)) → name_of b.sequence ≡ n
            → IsOneOf q (if v then b.sequence ∷ [] else tried_for n b.sequence s.virtuals)
            → (if v then is_this (name_of q) s.event.detail else ends_at (turned q []) s.history (length s.history - 1)) ≡ true
            → Meets s b (way (not v && is_some n) q)
        by true e n f (inl same) m =
            subst (λ x. Meets s b (way false x)) (sym same) (by_name e (subst (λ x. name_of x ≡ Some s.event.detail) same ((this_so (name_of q) s.event.detail).0 m)))
        by true e n f (inr none) m = absurd none
        by false e None f (inl same) m =
            subst (λ x. Meets s b (way false x)) (sym same) (itself e f (subst (λ x. Occurs x s.history) same ((occurs_so q s.history).0 m)))
        by false e None f (inr none) m = absurd none
        by false e (Some name) f there m = through e name q f there ((occurs_so q s.history).0 m)

    pub met_tried : (w : Way) → Meets s b w → (q : List Pattern) × IsOneOf q (tried s b) × (meets s q ≡ true) × (w ≡ way (is_through s b) q)
    met_tried _ (itself e f o) = (b.sequence, rw (e, f) (inl refl), rw e ((occurs_so b.sequence s.history).1 o), rw (e, f) refl)
    met_tried _ (through e name q f there o) = (q, rw (e, f) there, rw e ((occurs_so q s.history).1 o), rw (e, f) refl)
    met_tried _ (by_name e f) = (b.sequence, rw e (inl refl), rw e ((this_so (name_of b.sequence) s.event.detail).1 f), rw e refl)

  -- ---- what beats a way

  one_beats_so : (v : Bool) (w : Way) (qs : List (List Pattern))
      → Decides (one_beats s v w qs) ((q : List Pattern) × IsOneOf q qs × (meets s q ≡ true) × Beats (way v q) w)
  one_beats_so v w [] = never (λ h. h.1)
  one_beats_so v w (q ∷ qs) =
      Decides-like ((meets s q && beats (way v q) w) || one_beats s v w qs) to from (
      Decides-or (meets s q && beats (way v q) w) (one_beats s v w qs)
      (Decides-and (meets s q) (beats (way v q) w) (is_itself (meets s q)) (beats_so (way v q) w)) (one_beats_so v w qs)
      )
    where
      to : ((meets s q ≡ true) × Beats (way v q) w) ⊎ ((p : List Pattern) × IsOneOf p qs × (meets s p ≡ true) × Beats (way v p) w)
          → (p : List Pattern) × IsOneOf p (q ∷ qs) × (meets s p ≡ true) × Beats (way v p) w
      to (inl h) = (q, inl refl, h.0, h.1)
      to (inr h) = (h.0, inr h.1, h.2, h.3)

      from : ((p : List Pattern) × IsOneOf p (q ∷ qs) × (meets s p ≡ true) × Beats (way v p) w)
          → ((meets s q ≡ true) × Beats (way v q) w) ⊎ ((p : List Pattern) × IsOneOf p qs × (meets s p ≡ true) × Beats (way v p) w)
      from (p, inl e, m, h) = inl (subst (λ x. (meets s x ≡ true) × Beats (way v x) w) e (m, h))
      from (p, inr i, m, h) = inr (p, i, m, h)

  -- a binding of some that is of the tag and met so
  abbrev Met : List Binding → Binding → Way → Type 0
  Met bs b w = IsOneOf b bs × (same_text b.tag s.tag ≡ true) × Meets s b w

  by_so : (w : Way) (b : Binding) → Decides (is_beaten_by s w b) ((same_text b.tag s.tag ≡ true) × ((v : Way) × Meets s b v × Beats v w))
  by_so w b =
      Decides-and (same_text b.tag s.tag) (one_beats s (is_through s b) w (tried s b)) (is_itself (same_text b.tag s.tag)) (
      Decides-like (one_beats s (is_through s b) w (tried s b)) to from (one_beats_so (is_through s b) w (tried s b))
      )
    where
      to : ((q : List Pattern) × IsOneOf q (tried s b) × (meets s q ≡ true) × Beats (way (is_through s b) q) w) → (v : Way) × Meets s b v × Beats v w
      to h = (way (is_through s b) h.0, met b h.0 h.1 h.2, h.3)

      from : ((v : Way) × Meets s b v × Beats v w) → (q : List Pattern) × IsOneOf q (tried s b) × (meets s q ≡ true) × Beats (way (is_through s b) q) w
      from (v, m, h) = let t = met_tried b v m in (t.0, t.1, t.2, subst (λ x. Beats x w) t.3 h)

  beaten_so : (w : Way) (bs : List Binding) → Decides (is_beaten s w bs) ((b : Binding) × (v : Way) × Met bs b v × Beats v w)
  beaten_so w [] = never (λ h. h.2.0)
  beaten_so w (b ∷ bs) = Decides-like (is_beaten_by s w b || is_beaten s w bs) to from (Decides-or (is_beaten_by s w b) (is_beaten s w bs) (by_so w b) (beaten_so w bs))
    where
      to : ((same_text b.tag s.tag ≡ true) × ((v : Way) × Meets s b v × Beats v w)) ⊎ ((c : Binding) × (v : Way) × Met bs c v × Beats v w)
          → (c : Binding) × (v : Way) × Met (b ∷ bs) c v × Beats v w
      to (inl (t, h)) = (b, h.0, (inl refl, t, h.1), h.2)
      to (inr h) = (h.0, h.1, (inr h.2.0, h.2.1, h.2.2), h.3)

      from : ((c : Binding) × (v : Way) × Met (b ∷ bs) c v × Beats v w)
          → ((same_text b.tag s.tag ≡ true) × ((v : Way) × Meets s b v × Beats v w)) ⊎ ((c : Binding) × (v : Way) × Met bs c v × Beats v w)
      from (c, v, (inl e, t, m), h) = inl (subst (λ x. (same_text x.tag s.tag ≡ true) × ((u : Way) × Meets s x u × Beats u w)) e (t, (v, m, h)))
      from (c, v, (inr i, t, m), h) = inr (c, v, (i, t, m), h)

  -- ---- what wins

  abbrev Unbeatable : Way → Type 0
  Unbeatable w = (c : Binding) (v : Way) → Candidate s c v → ¬ Beats v w

  unbeaten_so : (w : Way) → Decides (not (is_beaten s w s.bindings)) (Unbeatable w)
  unbeaten_so w =
      Decides-like (not (is_beaten s w s.bindings)) (λ f c v k h. f (c, v, (k.there, k.tagged, k.meets), h))
      (λ f h. f h.0 h.1 (record { there = h.2.0; tagged = h.2.1; meets = h.2.2 }) h.3)
      (Decides-not (is_beaten s w s.bindings) (beaten_so w s.bindings))

  one_wins_so : (v : Bool) (qs : List (List Pattern)) → Decides (one_wins s v qs) ((q : List Pattern) × IsOneOf q qs × (meets s q ≡ true) × Unbeatable (way v q))
  one_wins_so v [] = never (λ h. h.1)
  one_wins_so v (q ∷ qs) =
      Decides-like (stands s v q || one_wins s v qs) to from (
      Decides-or (stands s v q) (one_wins s v qs)
      (Decides-and (meets s q) (not (is_beaten s (way v q) s.bindings)) (is_itself (meets s q)) (unbeaten_so (way v q))) (one_wins_so v qs)
      )
    where
      to : ((meets s q ≡ true) × Unbeatable (way v q)) ⊎ ((p : List Pattern) × IsOneOf p qs × (meets s p ≡ true) × Unbeatable (way v p))
          → (p : List Pattern) × IsOneOf p (q ∷ qs) × (meets s p ≡ true) × Unbeatable (way v p)
      to (inl h) = (q, inl refl, h.0, h.1)
      to (inr h) = (h.0, inr h.1, h.2, h.3)

      from : ((p : List Pattern) × IsOneOf p (q ∷ qs) × (meets s p ≡ true) × Unbeatable (way v p))
          → ((meets s q ≡ true) × Unbeatable (way v q)) ⊎ ((p : List Pattern) × IsOneOf p qs × (meets s p ≡ true) × Unbeatable (way v p))
      from (p, inl e, m, h) = inl (subst (λ x. (meets s x ≡ true) × Unbeatable (way v x)) e (m, h))
      from (p, inr i, m, h) = inr (p, i, m, h)

  wins_so : (b : Binding) → IsOneOf b s.bindings → Decides (wins s b) ((w : Way) × Wins s b w)
  wins_so b there =
      Decides-like (same_text b.tag s.tag && one_wins s (is_through s b) (tried s b)) to from (
      Decides-and (same_text b.tag s.tag) (one_wins s (is_through s b) (tried s b)) (is_itself (same_text b.tag s.tag)) (one_wins_so (is_through s b) (tried s b))
      )
    where
      to : (same_text b.tag s.tag ≡ true) × ((q : List Pattern) × IsOneOf q (tried s b) × (meets s q ≡ true) × Unbeatable (way (is_through s b) q)) → (w : Way) × Wins s b w
      to (t, h) = (way (is_through s b) h.0, record { candidate = record { there = there; tagged = t; meets = met b h.0 h.1 h.2 }; unbeaten = h.3 })

      from : ((w : Way) × Wins s b w) → (same_text b.tag s.tag ≡ true) × ((q : List Pattern) × IsOneOf q (tried s b) × (meets s q ≡ true) × Unbeatable (way (is_through s b) q))
      from (w, k) = let t = met_tried b w k.candidate.meets in (k.candidate.tagged, (t.0, t.1, t.2, subst (λ x. Unbeatable x) t.3 k.unbeaten))

  -- ---- that something wins, where something is met

  abbrev ways_in : Bool → List (List Pattern) → List Way
  ways_in v [] = []
  ways_in v (q ∷ qs) = if meets s q then way v q ∷ ways_in v qs else ways_in v qs

  abbrev all_ways : List Binding → List Way
  all_ways [] = []
  all_ways (b ∷ bs) = if same_text b.tag s.tag then ways_in (is_through s b) (tried s b) ++ all_ways bs else all_ways bs

  in_ways : (v : Bool) (qs : List (List Pattern)) (q : List Pattern) → IsOneOf q qs → meets s q ≡ true → IsAmong (way v q) (ways_in v qs)
  in_ways v [] q i m = i
  in_ways v (p ∷ qs) q i m = by (meets s p) refl i (in_ways v qs q)
    where
      by : (t : Bool) → meets s p ≡ t → IsOneOf q (p ∷ qs) → (IsOneOf q qs → meets s q ≡ true → IsAmong (way v q) (ways_in v qs))
          → IsAmong (way v q) (if t then way v p ∷ ways_in v qs else ways_in v qs)
      by true e (inl same) rest = inl (ap (way v) same)
      by true e (inr j) rest = inr (rest j m)
      by false e (inl same) rest = let g : false ≡ true = sym e ∙ (ap (meets s) (sym same) ∙ m) in absurd cc
      by false e (inr j) rest = rest j m

  of_ways : (v : Bool) (qs : List (List Pattern)) (u : Way) → IsAmong u (ways_in v qs) → (q : List Pattern) × IsOneOf q qs × (meets s q ≡ true) × (u ≡ way v q)
  of_ways v [] u i = absurd i
  of_ways v (p ∷ qs) u i = by (meets s p) refl i (of_ways v qs u)
    where
      by : (t : Bool) → meets s p ≡ t → IsAmong u (if t then way v p ∷ ways_in v qs else ways_in v qs)
          → (IsAmong u (ways_in v qs) → (q : List Pattern) × IsOneOf q qs × (meets s q ≡ true) × (u ≡ way v q))
          → (q : List Pattern) × IsOneOf q (p ∷ qs) × (meets s q ≡ true) × (u ≡ way v q)
      by true e (inl same) rest = (p, inl refl, e, same)
      by true e (inr j) rest = let r = rest j in (r.0, inr r.1, r.2, r.3)
      by false e j rest = let r = rest j in (r.0, inr r.1, r.2, r.3)

  among_left : (u : Way) (ws vs : List Way) → IsAmong u ws → IsAmong u (ws ++ vs)
  among_left u [] vs i = absurd i
  among_left u (w ∷ ws) vs (inl e) = inl e
  among_left u (w ∷ ws) vs (inr i) = inr (among_left u ws vs i)

  among_right : (u : Way) (ws vs : List Way) → IsAmong u vs → IsAmong u (ws ++ vs)
  among_right u [] vs i = i
  among_right u (w ∷ ws) vs i = inr (among_right u ws vs i)

  among_either : (u : Way) (ws vs : List Way) → IsAmong u (ws ++ vs) → IsAmong u ws ⊎ IsAmong u vs
  among_either u [] vs i = inr i
  among_either u (w ∷ ws) vs (inl e) = inl (inl e)
  among_either u (w ∷ ws) vs (inr i) = by (among_either u ws vs i)
    where
      by : IsAmong u ws ⊎ IsAmong u vs → IsAmong u (w ∷ ws) ⊎ IsAmong u vs
      by (inl j) = inl (inr j)
      by (inr j) = inr j

  in_all : (bs : List Binding) (b : Binding) (w : Way) → Met bs b w → IsAmong w (all_ways bs)
  in_all [] b w m = m.0
  in_all (c ∷ bs) b w (i, t, m) = by (same_text c.tag s.tag) refl i (λ j. in_all bs b w (j, t, m))
    where
      here : b ≡ c → IsAmong w (ways_in (is_through s c) (tried s c))
      here same =
          let tr = met_tried c w (subst (λ x. Meets s x w) same m) in
          subst (λ x. IsAmong x (ways_in (is_through s c) (tried s c))) (sym tr.3) (in_ways (is_through s c) (tried s c) tr.0 tr.1 tr.2)

      by : (v : Bool) → same_text c.tag s.tag ≡ v → IsOneOf b (c ∷ bs) → (IsOneOf b bs → IsAmong w (all_ways bs))
          → IsAmong w (if v then ways_in (is_through s c) (tried s c) ++ all_ways bs else all_ways bs)
      by true e (inl same) rest = among_left w (ways_in (is_through s c) (tried s c)) (all_ways bs) (here same)
      by true e (inr j) rest = among_right w (ways_in (is_through s c) (tried s c)) (all_ways bs) (rest j)
      by false e (inl same) rest = let g : false ≡ true = sym e ∙ (ap (λ x. same_text x.tag s.tag) (sym same) ∙ t) in absurd cc
      by false e (inr j) rest = rest j

  of_all : (bs : List Binding) (u : Way) → IsAmong u (all_ways bs) → (b : Binding) × IsOneOf b bs × (same_text b.tag s.tag ≡ true) × Meets s b u
  of_all [] u i = absurd i
  of_all (c ∷ bs) u i = by (same_text c.tag s.tag) refl i (of_all bs u)
    where
      here : same_text c.tag s.tag ≡ true → IsAmong u (ways_in (is_through s c) (tried s c))
          → (b : Binding) × IsOneOf b (c ∷ bs) × (same_text b.tag s.tag ≡ true) × Meets s b u
      here e j = let r = of_ways (is_through s c) (tried s c) u j in (c, inl refl, e, subst (λ x. Meets s c x) (sym r.3) (met c r.0 r.1 r.2))

      later_on : ((b : Binding) × IsOneOf b bs × (same_text b.tag s.tag ≡ true) × Meets s b u) → (b : Binding) × IsOneOf b (c ∷ bs) × (same_text b.tag s.tag ≡ true) × Meets s b u
      later_on r = (r.0, inr r.1, r.2, r.3)

      either : same_text c.tag s.tag ≡ true → (IsAmong u (all_ways bs) → (b : Binding) × IsOneOf b bs × (same_text b.tag s.tag ≡ true) × Meets s b u)
          → IsAmong u (ways_in (is_through s c) (tried s c)) ⊎ IsAmong u (all_ways bs) → (b : Binding) × IsOneOf b (c ∷ bs) × (same_text b.tag s.tag ≡ true) × Meets s b u
      either e rest (inl j) = here e j
      either e rest (inr j) = later_on (rest j)

      by : (v : Bool) → same_text c.tag s.tag ≡ v → IsAmong u (if v then ways_in (is_through s c) (tried s c) ++ all_ways bs else all_ways bs)
          → (IsAmong u (all_ways bs) → (b : Binding) × IsOneOf b bs × (same_text b.tag s.tag ≡ true) × Meets s b u)
          → (b : Binding) × IsOneOf b (c ∷ bs) × (same_text b.tag s.tag ≡ true) × Meets s b u
      by true e j rest = either e rest (among_either u (ways_in (is_through s c) (tried s c)) (all_ways bs) j)
      by false e j rest = later_on (rest j)

  some_wins : (b : Binding) (w : Way) → Candidate s b w → (c : Binding) × (u : Way) × Wins s c u
  some_wins b w k = by (all_ways s.bindings) (in_all s.bindings b w (k.there, k.tagged, k.meets)) (of_all s.bindings) (λ c v j. in_all s.bindings c v (j.there, j.tagged, j.meets))
    where
      by : (ways : List Way) → IsAmong w ways → ((u : Way) → IsAmong u ways → (c : Binding) × IsOneOf c s.bindings × (same_text c.tag s.tag ≡ true) × Meets s c u)
          → ((c : Binding) (v : Way) → Candidate s c v → IsAmong v ways) → (c : Binding) × (u : Way) × Wins s c u
      by [] i of into = absurd i
      by (first ∷ ways) i of into =
          let best = one_unbeaten first ways in
          let its = of best.0 best.1.among in
          (its.0, best.0, record { candidate = record { there = its.1; tagged = its.2; meets = its.3 }; unbeaten = λ c v j h. best.1.none v (into c v j) h })

  -- ---- the latest of those that win

  none_wins : (bs : List Binding) → latest_of s bs ≡ None → (b : Binding) → IsOneOf b bs → wins s b ≡ false
  none_wins [] e b i = absurd i
  none_wins (x ∷ bs) e b i = by (wins s x) refl (latest_of s bs) (none_wins bs) e i
    where
      by : (t : Bool) → wins s x ≡ t → (o : Option Binding) → (o ≡ None → (c : Binding) → IsOneOf c bs → wins s c ≡ false)
          → (if t then later (Some x) o else o) ≡ None → IsOneOf b (x ∷ bs) → wins s b ≡ false
      by true w None rest f j = absurd (let g : ◌≡◌ {A = Option Binding} (Some x) None = f in cc)
      by true w (Some y) rest f j = absurd (let g : ◌≡◌ {A = Option Binding} (Some (if nat_lt x.number y.number then y else x)) None = f in cc)
      by false w o rest f (inl same) = ap (wins s) same ∙ w
      by false w o rest f (inr j) = rest f b j

  latest_wins : (bs : List Binding) (b : Binding) → latest_of s bs ≡ Some b
      → IsOneOf b bs × (wins s b ≡ true) × ((c : Binding) → IsOneOf c bs → wins s c ≡ true → c.number ≤ b.number)
  latest_wins [] b e = absurd (let g : ◌≡◌ {A = Option Binding} None (Some b) = e in cc)
  latest_wins (x ∷ bs) b e = by (wins s x) refl (latest_of s bs) (none_wins bs) (latest_wins bs) e
    where
      first_last : wins s x ≡ true → (low : (c : Binding) → IsOneOf c bs → wins s c ≡ true → c.number ≤ x.number) → x ≡ b
          → IsOneOf b (x ∷ bs) × (wins s b ≡ true) × ((c : Binding) → IsOneOf c (x ∷ bs) → wins s c ≡ true → c.number ≤ b.number)
      first_last w low same = subst (λ y. IsOneOf y (x ∷ bs) × (wins s y ≡ true) × ((c : Binding) → IsOneOf c (x ∷ bs) → wins s c ≡ true → c.number ≤ y.number)) same (inl refl, w, all)
        where
          all : (c : Binding) → IsOneOf c (x ∷ bs) → wins s c ≡ true → c.number ≤ x.number
          all c (inl f) v = let g = ap (λ y. y.number) f in omega (arith, g)
          all c (inr j) v = low c j v

      other_last : (y : Binding) → IsOneOf y bs × (wins s y ≡ true) × ((c : Binding) → IsOneOf c bs → wins s c ≡ true → c.number ≤ y.number)
          → (wins s x ≡ true → x.number ≤ y.number) → y ≡ b
          → IsOneOf b (x ∷ bs) × (wins s b ≡ true) × ((c : Binding) → IsOneOf c (x ∷ bs) → wins s c ≡ true → c.number ≤ b.number)
      other_last y r low same = subst (λ z. IsOneOf z (x ∷ bs) × (wins s z ≡ true) × ((c : Binding) → IsOneOf c (x ∷ bs) → wins s c ≡ true → c.number ≤ z.number)) same (inr r.0, r.1, all)
        where
          all : (c : Binding) → IsOneOf c (x ∷ bs) → wins s c ≡ true → c.number ≤ y.number
          all c (inl f) v = let g = ap (λ z. z.number) f in let h = low (ap (wins s) (sym f) ∙ v) in omega (arith, g, h)
          all c (inr j) v = r.2 c j v

      by : (t : Bool) → wins s x ≡ t → (o : Option Binding) → (o ≡ None → (c : Binding) → IsOneOf c bs → wins s c ≡ false)
          → ((y : Binding) → o ≡ Some y → IsOneOf y bs × (wins s y ≡ true) × ((c : Binding) → IsOneOf c bs → wins s c ≡ true → c.number ≤ y.number))
          → (if t then later (Some x) o else o) ≡ Some b
          → IsOneOf b (x ∷ bs) × (wins s b ≡ true) × ((c : Binding) → IsOneOf c (x ∷ bs) → wins s c ≡ true → c.number ≤ b.number)
      by true w None none some f =
          first_last w (λ c j v. let g : false ≡ true = sym (none refl c j) ∙ v in absurd cc) (let g : ◌≡◌ {A = Option Binding} (Some x) (Some b) = f in cc)
      by true w (Some y) none some f = pick (nat_lt x.number y.number) refl f
        where
          pick : (t : Bool) → nat_lt x.number y.number ≡ t → ◌≡◌ {A = Option Binding} (Some (if t then y else x)) (Some b)
              → IsOneOf b (x ∷ bs) × (wins s b ≡ true) × ((c : Binding) → IsOneOf c (x ∷ bs) → wins s c ≡ true → c.number ≤ b.number)
          pick true lt g = other_last y (some y refl) (λ _. grind (arith, nat_tests)) (cc)
          pick false lt g = let r = some y refl in first_last w (λ c j v. let low = r.2 c j v in grind (arith, nat_tests)) (cc)
      by false w o none some f = other_last b (some b f) (λ v. let g : false ≡ true = sym w ∙ v in absurd cc) refl

  pub chosen_so : ChosenSo s (latest_of s s.bindings)
  chosen_so = by (latest_of s s.bindings) refl
    where
      by : (o : Option Binding) → latest_of s s.bindings ≡ o → ChosenSo s o
      by None e = λ b w k.
          let r = some_wins b w k in
          let won = (wins_so r.0 r.2.candidate.there).1 (r.1, r.2) in
          let lost = none_wins s.bindings e r.0 r.2.candidate.there in
          let g : false ≡ true = sym lost ∙ won in
          cc
      by (Some b) e =
          let r = latest_wins s.bindings b e in
          record {
            wins = (wins_so b r.0).0 r.1;
            last = λ c v k. r.2 c k.candidate.there ((wins_so c k.candidate.there).1 (v, k));
          }
