-- What is tried and met is what the event meets.
use Rattle.std.specs.List.{filter}
use Rattle.std.proofs.Common.{◌≡◌, ◌⊎◌, inl, inr, ℕ, ◌-◌, ◌==◌, ◌&&◌, ◌||◌, not, bit_and, Bool, true, false, if◌then◌else◌, List, [], ◌∷◌, length, codes, Option, Some, None, refl, ap, sym, subst, ◌∙◌}
use Rattle.std.specs.Cmp.Lexicographic.{bytes_decides}
use Rattle.std.proofs.lemmas.Bool.{and_from}
use Rattle.tks_text.proofs.Texts.{both}
use Rattle.tks_text.specs.Text.{same_text}
use Rattle.tks_event.specs.Event.{Event}
use Rattle.tks_event.specs.Kinds.{same_kind, kind_name, is_virtual}
use Rattle.tks_event.specs.Sequences.{is_some_text}
use Rattle.tks_event.specs.declared.kind.Kind.{Kind}
use Rattle.tks_event.specs.declared.kind.Kind.TheVariants as kinds
use Rattle.tks_event.specs.declared.pattern.Pattern.{Pattern}
use Rattle.tks_bind.specs.declared.binding.Binding.{Binding}
use Rattle.tks_bind.specs.declared.through.Through.{Through}
use Rattle.tks_bind.specs.VirtualEvents.{sequences_of}
use Rattle.tks_bind.specs.Matching.{fits}
use Rattle.tks_bind.specs.Occurs.{turned, EndsAt, Occurs}
use Rattle.tks_bind.specs.Choice.{Way}
use Rattle.tks_bind.specs.Chosen.{Scene, name_of, IsOneOf, Meets, itself, through, by_name, Candidate}
use Rattle.tks_bind.specs.Choosing.{is_this, meets}
use Rattle.tks_bind.specs.Endings.{Key, named, of_event, bare, first_ending, last_ending, ending_by, ending_of, same_ending, is_under}
use Rattle.tks_bind.specs.Ends.{Ends, nothing, EndSo, last_event, EndFull, EndBarely, EndBare}
use Rattle.tks_bind.specs.Passes.{Trial, trial_by, trials_by, trials_through, trials_at, trials}
use Rattle.tks_bind.proofs.Finding.{occurs_so}
use Rattle.tks_bind.proofs.Leading.{ending_from, ending_same}
use Rattle.tks_bind.proofs.Members.{one_left, one_right, one_either, one_kept, one_of_kept}
use Rattle.tks_bind.proofs.Passing.{Covers}
use Rattle.tks_bind.proofs.Winning.{this_so}

-- ---- endings

-- no kind has the name that stands for virtual events
no_kind : (k : Kind) → same_text (kind_name k) (codes "<<>>") ≡ false
no_kind kinds.KeyPress = refl
no_kind kinds.KeyRelease = refl
no_kind kinds.ButtonPress = refl
no_kind kinds.ButtonRelease = refl
no_kind kinds.FocusIn = refl
no_kind kinds.FocusOut = refl
no_kind kinds.Virtual = refl

kind_isnt : (k : Kind) → kind_name k ≡ codes "<<>>" → ⊥
kind_isnt k e = let f : false ≡ true = sym (no_kind k) ∙ (bytes_decides (kind_name k) (codes "<<>>")).1 e in cc

kinds_alike : (k l : Kind) → same_kind k l ≡ true → kind_name k ≡ kind_name l
kinds_alike kinds.KeyPress kinds.KeyPress h = refl
kinds_alike kinds.KeyRelease kinds.KeyRelease h = refl
kinds_alike kinds.ButtonPress kinds.ButtonPress h = refl
kinds_alike kinds.ButtonRelease kinds.ButtonRelease h = refl
kinds_alike kinds.FocusIn kinds.FocusIn h = refl
kinds_alike kinds.FocusOut kinds.FocusOut h = refl
kinds_alike kinds.Virtual kinds.Virtual h = refl
kinds_alike k l h = cc

ending_is : (k d : List ℕ) (e : Key) → k ≡ e.kind → d ≡ e.detail → ◌≡◌ {A = Key} (record { kind = k; detail = d }) e
ending_is k d e f g = ap (λ x. record { kind = x; detail = d }) f ∙ ap (λ x. record { kind = e.kind; detail = x }) g

-- what a pattern that an event fits ends in
fitted : (p : Pattern) (e : Event) → fits p e ≡ true → (first_ending (p ∷ []) ≡ of_event e) ⊎ (first_ending (p ∷ []) ≡ bare e)
fitted p e h = by p.detail refl two.1
  where
    rest : Bool
    rest = (not (is_some_text p.detail) || same_text p.detail e.detail) && (bit_and e.state p.modifiers == p.modifiers)

    two : (same_kind p.kind e.kind ≡ true) × (rest ≡ true)
    two = both (same_kind p.kind e.kind) rest h

    kind : kind_name p.kind ≡ kind_name e.kind
    kind = kinds_alike p.kind e.kind two.0

    by : (d : List ℕ) → p.detail ≡ d → ((not (is_some_text d) || same_text d e.detail) && (bit_and e.state p.modifiers == p.modifiers)) ≡ true
        → (first_ending (p ∷ []) ≡ of_event e) ⊎ (first_ending (p ∷ []) ≡ bare e)
    by [] f g = inr (ending_is (kind_name p.kind) p.detail (bare e) kind f)
    by (c ∷ d) f g =
        let same = (both (same_text (c ∷ d) e.detail) (bit_and e.state p.modifiers == p.modifiers) g).0 in
        inl (ending_is (kind_name p.kind) p.detail (of_event e) kind (f ∙ (bytes_decides (c ∷ d) e.detail).0 same))

-- ---- names

ends_named : (q : List Pattern) (n : List ℕ) → ending_of q ≡ named n → name_of q ≡ Some n
ends_named q n e = by (name_of q) (turned q []) refl e
  where
    by : (o : Option (List ℕ)) (ps : List Pattern) → turned q [] ≡ ps → ending_by o q ≡ named n → o ≡ Some n
    by (Some m) ps f g = ap (λ x. Some x) (ap (λ (x : Key). x.detail) g)
    by None [] f g = let h : first_ending [] ≡ named n = rw f at g in let k : [] ≡ codes "<<>>" = ap (λ (x : Key). x.kind) h in absurd (no_text k)
      where
        no_text : [] ≡ codes "<<>>" → ⊥
        no_text k = cc
    by None (p ∷ ps) f g = let h : first_ending (p ∷ ps) ≡ named n = rw f at g in absurd (kind_isnt p.kind (ap (λ (x : Key). x.kind) h))

ends_unnamed : (q : List Pattern) (k : Kind) (d : List ℕ) → ending_of q ≡ record { kind = kind_name k; detail = d } → name_of q ≡ None
ends_unnamed q k d e = by (name_of q) e
  where
    by : (o : Option (List ℕ)) → ending_by o q ≡ record { kind = kind_name k; detail = d } → o ≡ None
    by None g = refl
    by (Some m) g = absurd (kind_isnt k (sym (ap (λ (x : Key). x.kind) g)))

-- ---- those of a tag that end so

under_parts : (tag : List ℕ) (e : Key) (b : Binding) → is_under tag e b ≡ true → (same_text b.tag tag ≡ true) × (ending_of b.sequence ≡ e)
under_parts tag e b h =
    let two = both (same_text tag b.tag) (same_ending e (ending_of b.sequence)) h in
    ((bytes_decides b.tag tag).1 (sym ((bytes_decides tag b.tag).0 two.0)), sym (ending_from e (ending_of b.sequence) two.1))

parts_under : (tag : List ℕ) (e : Key) (b : Binding) → same_text b.tag tag ≡ true → ending_of b.sequence ≡ e → is_under tag e b ≡ true
parts_under tag e b h f =
    and_from (same_text tag b.tag) (same_ending e (ending_of b.sequence)) ((bytes_decides tag b.tag).1 (sym ((bytes_decides b.tag tag).0 h)))
    (subst (λ x. same_ending e x ≡ true) (sym f) (ending_same e))

of_by : (by_one : Option (List Pattern)) (bs : List Binding) (t : Trial) → IsOneOf t (trials_by by_one bs) → (b : Binding) × IsOneOf b bs × (t ≡ trial_by by_one b)
of_by by_one [] t i = absurd i
of_by by_one (c ∷ bs) t (inl e) = (c, inl refl, e)
of_by by_one (c ∷ bs) t (inr i) = let r = of_by by_one bs t i in (r.0, inr r.1, r.2)

in_by : (by_one : Option (List Pattern)) (bs : List Binding) (b : Binding) → IsOneOf b bs → IsOneOf (trial_by by_one b) (trials_by by_one bs)
in_by by_one [] b i = absurd i
in_by by_one (c ∷ bs) b (inl e) = inl (ap (trial_by by_one) e)
in_by by_one (c ∷ bs) b (inr i) = inr (in_by by_one bs b i)

module _ (s : Scene) where
  abbrev For : List ℕ → List Binding
  For name = filter (is_under s.tag (named name)) s.bindings

  of_through : (ts : List Through) (t : Trial) → IsOneOf t (trials_through s ts)
      → (u : Through) × (b : Binding) × IsOneOf u ts × IsOneOf b (For u.name) × (t ≡ trial_by (Some u.sequence) b)
  of_through [] t i = absurd i
  of_through (u ∷ ts) t i = by (one_either t (trials_by (Some u.sequence) (For u.name)) (trials_through s ts) i) (of_through ts t)
    where
      by : IsOneOf t (trials_by (Some u.sequence) (For u.name)) ⊎ IsOneOf t (trials_through s ts)
          → (IsOneOf t (trials_through s ts) → (v : Through) × (b : Binding) × IsOneOf v ts × IsOneOf b (For v.name) × (t ≡ trial_by (Some v.sequence) b))
          → (v : Through) × (b : Binding) × IsOneOf v (u ∷ ts) × IsOneOf b (For v.name) × (t ≡ trial_by (Some v.sequence) b)
      by (inl j) rest = let r = of_by (Some u.sequence) (For u.name) t j in (u, r.0, inl refl, r.1, r.2)
      by (inr j) rest = let r = rest j in (r.0, r.1, inr r.2, r.3, r.4)

  in_through : (ts : List Through) (u : Through) (b : Binding) → IsOneOf u ts → IsOneOf b (For u.name) → IsOneOf (trial_by (Some u.sequence) b) (trials_through s ts)
  in_through [] u b i j = absurd i
  in_through (v ∷ ts) u b i j = by i (λ k. in_through ts u b k j)
    where
      by : IsOneOf u (v ∷ ts) → (IsOneOf u ts → IsOneOf (trial_by (Some u.sequence) b) (trials_through s ts)) → IsOneOf (trial_by (Some u.sequence) b) (trials_through s (v ∷ ts))
      by (inl e) rest =
          one_left _ (trials_by (Some v.sequence) (For v.name)) (trials_through s ts)
          (subst (λ (x : Through). IsOneOf (trial_by (Some u.sequence) b) (trials_by (Some x.sequence) (For x.name))) e (in_by (Some u.sequence) (For u.name) b j))
      by (inr k) rest = one_right _ (trials_by (Some v.sequence) (For v.name)) (trials_through s ts) (rest k)

  -- ---- one that ends so, and is met

  module _ (physical : is_virtual s.event.kind ≡ false) where
    occurs : (q : List Pattern) → meets s q ≡ true → Occurs q s.history
    occurs q m = (occurs_so q s.history).0 (let h : (if is_virtual s.event.kind then is_this (name_of q) s.event.detail else _) ≡ true = m in rw physical at h)

    is_met : (q : List Pattern) → Occurs q s.history → meets s q ≡ true
    is_met q o = rw physical ((occurs_so q s.history).1 o)

    sound_at : (k : Kind) (d : List ℕ) (ends : Ends) → EndSo s (record { kind = kind_name k; detail = d }) ends
        → (t : Trial) → IsOneOf t (trials_at s ends) → meets s t.way.sequence ≡ true → Candidate s t.binding t.way
    sound_at k d ends so t i m = by (one_either t (trials_by None ends.bindings) (trials_through s ends.sequences) i)
      where
        own : (b : Binding) → IsOneOf b ends.bindings → t ≡ trial_by None b → Candidate s t.binding t.way
        own b j e =
            let r = one_of_kept b (is_under s.tag (record { kind = kind_name k; detail = d })) s.bindings (subst (IsOneOf b) so.bindings j) in
            let u = under_parts s.tag (record { kind = kind_name k; detail = d }) b r.1 in
            let o = occurs b.sequence (subst (λ (x : Trial). meets s x.way.sequence ≡ true) e m) in
            subst (λ (x : Trial). Candidate s x.binding x.way) (sym e)
            (record { there = r.0; tagged = u.0; meets = itself physical (ends_unnamed b.sequence k d u.1) o })

        other : (u : Through) (b : Binding) → IsOneOf u ends.sequences → IsOneOf b (For u.name) → t ≡ trial_by (Some u.sequence) b → Candidate s t.binding t.way
        other u b j l e =
            let r = one_of_kept b (is_under s.tag (named u.name)) s.bindings l in
            let parts = under_parts s.tag (named u.name) b r.1 in
            let o = occurs u.sequence (subst (λ (x : Trial). meets s x.way.sequence ≡ true) e m) in
            subst (λ (x : Trial). Candidate s x.binding x.way) (sym e)
            (record { there = r.0; tagged = parts.0; meets = through physical u.name u.sequence (ends_named b.sequence u.name parts.1) (so.sequences.met u j).0 o })

        by : IsOneOf t (trials_by None ends.bindings) ⊎ IsOneOf t (trials_through s ends.sequences) → Candidate s t.binding t.way
        by (inl j) = let r = of_by None ends.bindings t j in own r.0 r.1 r.2
        by (inr j) = let r = of_through ends.sequences t j in other r.0 r.1 r.2 r.3 r.4

    -- what ends so is there
    own_at : (e : Key) (ends : Ends) → EndSo s e ends → (b : Binding) → IsOneOf b s.bindings → same_text b.tag s.tag ≡ true → ending_of b.sequence ≡ e
        → IsOneOf (trial_by None b) (trials_at s ends)
    own_at e ends so b i t f =
        one_left _ (trials_by None ends.bindings) (trials_through s ends.sequences) (
        in_by None ends.bindings b (subst (IsOneOf b) (sym so.bindings) (one_kept b (is_under s.tag e) s.bindings i (parts_under s.tag e b t f)))
        )

    through_at : (e : Key) (ends : Ends) → EndSo s e ends → (name : List ℕ) (q : List Pattern) (b : Binding) → IsOneOf b s.bindings → same_text b.tag s.tag ≡ true
        → name_of b.sequence ≡ Some name → IsOneOf q (sequences_of name s.virtuals) → last_ending q ≡ e → IsOneOf (trial_by (Some q) b) (trials_at s ends)
    through_at e ends so name q b i t f there g =
        let u : Through = record { name = name; sequence = q } in
        let ends_so : ending_of b.sequence ≡ named name = ap (λ o. ending_by o b.sequence) f in
        one_right _ (trials_by None ends.bindings) (trials_through s ends.sequences) (
        in_through ends.sequences u b (so.sequences.all u there g) (one_kept b (is_under s.tag (named name)) s.bindings i (parts_under s.tag (named name) b t ends_so))
        )

  -- the last event is one that the last pattern of what occurs fits
  record Fitted (q : List Pattern) : Type 0 where
    event : Event
    last : last_event s ≡ Some event
    ends : (last_ending q ≡ of_event event) ⊎ (last_ending q ≡ bare event)

  last_fits : (q : List Pattern) → Occurs q s.history → Fitted q
  last_fits q o = by (turned q []) refl o
    where
      by : (ps : List Pattern) → turned q [] ≡ ps → EndsAt ps s.history (length s.history - 1) → Fitted q
      by [] e k = absurd k
      by (p ∷ ps) e k = record { event = k.0; last = k.1.stands; ends = at (fitted p k.0 k.1.fits) }
        where
          at : (first_ending (p ∷ []) ≡ of_event k.0) ⊎ (first_ending (p ∷ []) ≡ bare k.0) → (last_ending q ≡ of_event k.0) ⊎ (last_ending q ≡ bare k.0)
          at (inl f) = inl (ap first_ending e ∙ f)
          at (inr f) = inr (ap first_ending e ∙ f)

  -- what is at either of both ends, by what it ends in
  at_either : (T : Trial) (full bares : Ends) (e : Event) (ending : Key) → EndSo s (of_event e) full → EndBarely s e.detail e bares
      → ((f : Key) (ends : Ends) → EndSo s f ends → ending ≡ f → IsOneOf T (trials_at s ends))
      → (ending ≡ of_event e) ⊎ (ending ≡ bare e) → IsOneOf T (trials s full bares)
  at_either T full bares e ending so barely there (inl f) = one_left T (trials_at s full) (trials_at s bares) (there (of_event e) full so f)
  at_either T full bares e ending so barely there (inr f) = by e.detail refl barely
    where
      by : (d : List ℕ) → e.detail ≡ d → EndBarely s d e bares → IsOneOf T (trials s full bares)
      by [] g k = one_left T (trials_at s full) (trials_at s bares) (there (of_event e) full so (f ∙ ap (λ x. record { kind = kind_name e.kind; detail = x }) (sym g)))
      by (c ∷ d) g k = one_right T (trials_at s full) (trials_at s bares) (there (bare e) bares k f)

  module _ (full bares : Ends) (so : EndFull s (is_virtual s.event.kind) (last_event s) full) (barely : EndBare s (is_virtual s.event.kind) (last_event s) bares) where
    none_there : (t : Trial) (e : Ends) → e ≡ nothing → IsOneOf t (trials_at s e) → ⊥
    none_there t e same i = let j : IsOneOf t (trials_at s nothing) = subst (λ x. IsOneOf t (trials_at s x)) same i in j

    sound : (t : Trial) → IsOneOf t (trials s full bares) → meets s t.way.sequence ≡ true → Candidate s t.binding t.way
    sound t i m = by (is_virtual s.event.kind) refl (last_event s) so barely (one_either t (trials_at s full) (trials_at s bares) i)
      where
        bare_sound : is_virtual s.event.kind ≡ false → (e : Event) (d : List ℕ) → EndBarely s d e bares → IsOneOf t (trials_at s bares) → Candidate s t.binding t.way
        bare_sound v e [] k j = absurd (none_there t bares k j)
        bare_sound v e (c ∷ d) k j = sound_at v e.kind [] bares k t j m

        virtual_sound : is_virtual s.event.kind ≡ true → full ≡ record { bindings = For s.event.detail; sequences = [] } → IsOneOf t (trials_at s full) → Candidate s t.binding t.way
        virtual_sound v k j = own (one_either t (trials_by None (For s.event.detail)) [] (subst (λ x. IsOneOf t (trials_at s x)) k j))
          where
            own : IsOneOf t (trials_by None (For s.event.detail)) ⊎ IsOneOf t [] → Candidate s t.binding t.way
            own (inr none) = absurd none
            own (inl l) =
                let r = of_by None (For s.event.detail) t l in
                let in_list = one_of_kept r.0 (is_under s.tag (named s.event.detail)) s.bindings r.1 in
                let u = under_parts s.tag (named s.event.detail) r.0 in_list.1 in
                subst (λ (x : Trial). Candidate s x.binding x.way) (sym r.2)
                (record { there = in_list.0; tagged = u.0; meets = by_name v (ends_named r.0.sequence s.event.detail u.1) })

        by : (v : Bool) → is_virtual s.event.kind ≡ v → (last : Option Event) → EndFull s v last full → EndBare s v last bares
            → IsOneOf t (trials_at s full) ⊎ IsOneOf t (trials_at s bares) → Candidate s t.binding t.way
        by true v last f b (inl j) = virtual_sound v f j
        by true v last f b (inr j) = absurd (none_there t bares b j)
        by false v None f b (inl j) = absurd (none_there t full f j)
        by false v None f b (inr j) = absurd (none_there t bares b j)
        by false v (Some e) f b (inl j) = sound_at v e.kind e.detail full f t j m
        by false v (Some e) f b (inr j) = bare_sound v e e.detail b j

    complete : (b : Binding) (w : Way) → Candidate s b w → IsOneOf (record { binding = b; way = w }) (trials s full bares) × (meets s w.sequence ≡ true)
    complete b w k = by w k.meets
      where
        ends_at : is_virtual s.event.kind ≡ false → (e : Event) → last_event s ≡ Some e → EndSo s (of_event e) full × EndBarely s e.detail e bares
        ends_at v e last =
            let f : EndFull s false (Some e) full = subst (λ x. EndFull s x (Some e) full) v (subst (λ o. EndFull s (is_virtual s.event.kind) o full) last so) in
            let g : EndBare s false (Some e) bares = subst (λ x. EndBare s x (Some e) bares) v (subst (λ o. EndBare s (is_virtual s.event.kind) o bares) last barely) in
            (f, g)

        by : (x : Way) → Meets s b x → IsOneOf (record { binding = b; way = x }) (trials s full bares) × (meets s x.sequence ≡ true)
        by _ (itself v f o) =
            let fit = last_fits b.sequence o in
            let ends = ends_at v fit.event fit.last in
            let ending : ending_of b.sequence ≡ last_ending b.sequence = ap (λ n. ending_by n b.sequence) f in (
              at_either (trial_by None b) full bares fit.event (last_ending b.sequence) ends.0 ends.1
                  (λ g e so g_is. own_at v g e so b k.there k.tagged (ending ∙ g_is)) fit.ends,
              is_met v b.sequence o,
            )
        by _ (through v name q f there o) =
            let fit = last_fits q o in
            let ends = ends_at v fit.event fit.last in (
              at_either (trial_by (Some q) b) full bares fit.event (last_ending q) ends.0 ends.1
                  (λ g e so g_is. through_at v g e so name q b k.there k.tagged f there g_is) fit.ends,
              is_met v q o,
            )
        by _ (by_name v f) =
            let same : EndFull s true (last_event s) full = subst (λ x. EndFull s x (last_event s) full) v so in
            let ends : ending_of b.sequence ≡ named s.event.detail = ap (λ n. ending_by n b.sequence) f in
            let there = one_kept b (is_under s.tag (named s.event.detail)) s.bindings k.there (parts_under s.tag (named s.event.detail) b k.tagged ends) in (
              one_left _ (trials_at s full) (trials_at s bares)
                  (subst (λ x. IsOneOf (trial_by None b) (trials_at s x)) (sym same) (one_left _ (trials_by None (For s.event.detail)) [] (in_by None (For s.event.detail) b there))),
              rw v ((this_so (name_of b.sequence) s.event.detail).1 f),
            )

    pub covered : Covers s (trials s full bares)
    covered = record { sound = sound; complete = complete }
