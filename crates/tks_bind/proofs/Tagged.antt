-- The bindings of a tag, and what is left without them.
use Rattle.std.specs.FinMap as map
use Rattle.std.specs.List.{filter, list_all, list_any}
use Rattle.std.specs.Cmp.Lexicographic.{bytes_decides}
use Rattle.std.proofs.Common.{◌≡◌, inl, inr, ℕ, Bool, true, false, cond, not, ◌||◌, List, [], ◌∷◌, length, ◌==◌, arith, Option, Some, None, refl, sym, ap, subst, ◌∙◌, true≢false}
use Rattle.std.proofs.lemmas.Bool.{and_from}
use Rattle.tks_share.specs.Maps.{Map}
use Rattle.tks_share.specs.Names.{order}
use Rattle.tks_share.proofs.Members as entries
use Rattle.tks_text.specs.Text.{same_text}
use Rattle.tks_text.proofs.Texts.{both}
use Rattle.tks_event.specs.Equality.{equal_patterns}
use Rattle.tks_event.proofs.Equal.{equal_so}
use Rattle.tks_bind.specs.declared.binding.Binding.{Binding}
use Rattle.tks_bind.specs.Binding.{Content, is_for, without, without_tag}
use Rattle.tks_bind.specs.Chosen.{IsOneOf}
use Rattle.tks_bind.specs.Distinct.{all_differ}
use Rattle.tks_bind.specs.Ends.{sequences_in}
use Rattle.tks_bind.specs.Endings.{Key, same_ending, ending_of, is_under}
use Rattle.tks_bind.specs.Groups.{listed, items_in, mapped, map_in, group_in, Groups}
use Rattle.tks_bind.specs.Tagged.{all_listed, all_grouped, all_in, AreOf, without_each}
use Rattle.tks_bind.specs.WellFormed.{differ}
use Rattle.tks_bind.proofs.Grouped.{itself, differ_left}
use Rattle.tks_bind.proofs.Members.{one_left, one_right, one_either, one_kept, one_of_kept}

-- ---- all items of groups

pub no_entries : {V : Type 0} → map.entries (map.empty {X = V} {R = order}) ≡ []
no_entries {V = V} = empty_entries (map.entries (map.empty {X = V} {R = order})) (sym (map.len-entries (map.empty {X = V} {R = order})) ∙ map.len-empty order V)
  where
    empty_entries : (es : List (List ℕ × V)) → length es ≡ 0 → es ≡ []
    empty_entries [] h = refl
    empty_entries (e ∷ es) h = absurd (omega (arith, h))

-- all of lists by names, where there are none too
pub all_mapped : {X : Type 0} (o : Option (Map (List X))) → sequences_in o ≡ all_listed (map.entries (mapped o))
all_mapped None = sym (ap all_listed no_entries)
all_mapped (Some m) = refl

module _ {X : Type 0} (x : X) where
  -- an item of the lists is one of the list under some name
  listed_from : (m : Map (List X)) (es : List (List ℕ × List X)) → ((e : List ℕ × List X) → entries.IsOneOf e es → map.get m e.0 ≡ Some e.1) → IsOneOf x (all_listed es) → (name : List ℕ) × IsOneOf x (items_in m name)
  listed_from m [] found i = absurd i
  listed_from m (e ∷ es) found i = elim (one_either x e.1 (all_listed es) i) [
    | inl j ↦ (e.0, subst (λ o. IsOneOf x (listed o)) (sym (found e (inl refl))) j)
    | inr j ↦ listed_from m es (λ f k. found f (inr k)) j
  ]

  listed_there : (name xs : _) (es : List (List ℕ × List X)) → entries.IsOneOf (name, xs) es → IsOneOf x xs → IsOneOf x (all_listed es)
  listed_there name xs [] i j = absurd i
  listed_there name xs (e ∷ es) i j = elim i [
    | inl same ↦ one_left x e.1 (all_listed es) (subst (λ (f : List ℕ × List X). IsOneOf x f.1) same j)
    | inr k ↦ one_right x e.1 (all_listed es) (listed_there name xs es k j)
  ]

  pub in_some_list : (m : Map (List X)) → IsOneOf x (all_listed (map.entries m)) → (name : List ℕ) × IsOneOf x (items_in m name)
  in_some_list m i = listed_from m (map.entries m) (λ f k. map.get-entries m f.0 ∙ entries.entry_found f (map.entries m) (map.entries_sorted m) k) i

  pub in_lists : (m : Map (List X)) (name : List ℕ) → IsOneOf x (items_in m name) → IsOneOf x (all_listed (map.entries m))
  in_lists m name i = by (map.get m name) refl i
    where
      by : (o : Option (List X)) → map.get m name ≡ o → IsOneOf x (listed o) → IsOneOf x (all_listed (map.entries m))
      by None is j = absurd j
      by (Some xs) is j = listed_there name xs (map.entries m) (entries.found_entry name xs (map.entries m) (sym (map.get-entries m name) ∙ is)) j

  grouped_from : (m : Map (Map (List X))) (es : List (List ℕ × Map (List X))) → ((e : List ℕ × Map (List X)) → entries.IsOneOf e es → map.get m e.0 ≡ Some e.1) → IsOneOf x (all_grouped es) → (k : Key) × IsOneOf x (group_in m k)
  grouped_from m [] found i = absurd i
  grouped_from m (e ∷ es) found i = elim (one_either x (all_listed (map.entries e.1)) (all_grouped es) i) [
    | inl j ↦
        let one = in_some_list e.1 j in
        (record { kind = e.0; detail = one.0 }, subst (λ o. IsOneOf x (items_in (mapped o) one.0)) (sym (found e (inl refl))) one.1)
    | inr j ↦ grouped_from m es (λ f k. found f (inr k)) j
  ]

  grouped_there : (kind : List ℕ) (lists : Map (List X)) (es : List (List ℕ × Map (List X))) → entries.IsOneOf (kind, lists) es → IsOneOf x (all_listed (map.entries lists)) → IsOneOf x (all_grouped es)
  grouped_there kind lists [] i j = absurd i
  grouped_there kind lists (e ∷ es) i j = elim i [
    | inl same ↦ one_left x (all_listed (map.entries e.1)) (all_grouped es) (subst (λ (f : List ℕ × Map (List X)). IsOneOf x (all_listed (map.entries f.1))) same j)
    | inr k ↦ one_right x (all_listed (map.entries e.1)) (all_grouped es) (grouped_there kind lists es k j)
  ]

  pub in_some_group : (m : Map (Map (List X))) → IsOneOf x (all_in m) → (k : Key) × IsOneOf x (group_in m k)
  in_some_group m i = grouped_from m (map.entries m) (λ f k. map.get-entries m f.0 ∙ entries.entry_found f (map.entries m) (map.entries_sorted m) k) i

  pub in_all : (m : Map (Map (List X))) (k : Key) → IsOneOf x (group_in m k) → IsOneOf x (all_in m)
  in_all m k i = by (map.get m k.kind) refl i
    where
      nothing : IsOneOf x (items_in (mapped {X = List X} None) k.detail) → ⊥
      nothing j = subst (λ o. IsOneOf x (listed o)) (map.get-empty order k.detail) j

      by : (o : Option (Map (List X))) → map.get m k.kind ≡ o → IsOneOf x (items_in (mapped o) k.detail) → IsOneOf x (all_in m)
      by None is j = absurd (nothing j)
      by (Some lists) is j =
          grouped_there k.kind lists (map.entries m) (entries.found_entry k.kind lists (map.entries m) (sym (map.get-entries m k.kind) ∙ is)) (in_lists lists k.detail j)

-- ---- the bindings of a tag

same_turned : (p q : List ℕ) → same_text p q ≡ true → same_text q p ≡ true
same_turned p q h = (bytes_decides q p).1 (sym ((bytes_decides p q).0 h))

own_ending : (e : Key) → same_ending e e ≡ true
own_ending e = and_from (same_text e.kind e.kind) (same_text e.detail e.detail) ((bytes_decides e.kind e.kind).1 refl) ((bytes_decides e.detail e.detail).1 refl)

pub all_tagged : (m : Map (Map (Map (List Binding)))) (tag : List ℕ) (bs : List Binding) → Groups m bs → AreOf tag bs (all_in (map_in m tag))
all_tagged m tag bs groups = record {
  from = λ b i.
      let one = in_some_group b (map_in m tag) i in
      let kept = one_of_kept b (is_under tag one.0) bs (subst (IsOneOf b) (groups tag one.0) one.1) in
      (kept.0, same_turned tag b.tag (both (same_text tag b.tag) (same_ending one.0 (ending_of b.sequence)) kept.1).0);
  all = λ b i h.
      let e = ending_of b.sequence in
      let under = and_from (same_text tag b.tag) (same_ending e e) (same_turned b.tag tag h) (own_ending e) in
      in_all b (map_in m tag) e (subst (IsOneOf b) (sym (groups tag e)) (one_kept b (is_under tag e) bs i under));
}

pub none_tagged : (m : Map (Map (Map (List Binding)))) (tag : List ℕ) (bs : List Binding) → map.get m tag ≡ None → Groups m bs → AreOf tag bs []
none_tagged m tag bs none groups = subst (AreOf tag bs) (ap (λ o. all_in (mapped o)) none ∙ nothing) (all_tagged m tag bs groups)
  where
    nothing : all_in {X = Binding} map.empty ≡ []
    nothing = ap all_grouped no_entries

-- ---- what is left

-- whether a binding is of the tag and the sequence of one of these
abbrev is_of : List Binding → Binding → Bool
is_of gone b = list_any (λ g. is_for g.tag g.sequence b) gone

filter_all : (bs : List Binding) → filter (λ b. true) bs ≡ bs
filter_all [] = refl
filter_all (b ∷ bs) = ap (λ l. b ∷ l) (filter_all bs)

twice : (p q : Binding → Bool) (bs : List Binding) → filter (λ b. not (p b)) (filter (λ b. not (q b)) bs) ≡ filter (λ b. not (q b || p b)) bs
twice p q [] = refl
twice p q (b ∷ bs) = by (q b) (twice p q bs)
  where
    by : (v : Bool) → filter (λ c. not (p c)) (filter (λ c. not (q c)) bs) ≡ filter (λ c. not (q c || p c)) bs
        → filter (λ c. not (p c)) (cond (not v) (b ∷ filter (λ c. not (q c)) bs) (filter (λ c. not (q c)) bs)) ≡ cond (not (v || p b)) (b ∷ filter (λ c. not (q c || p c)) bs) (filter (λ c. not (q c || p c)) bs)
    by true rest = rest
    by false rest = ap (λ l. cond (not (p b)) (b ∷ l) l) rest

-- of bindings that differ, one at most is of a tag and a sequence
none_further : (g : Binding) (bs : List Binding) → list_all (differ g) bs ≡ true → filter (λ b. not (is_for g.tag g.sequence b)) bs ≡ bs
none_further g [] h = refl
none_further g (b ∷ bs) h =
    let two = both (differ g b) (list_all (differ g) bs) h in
    let other = (both (not (g.number == b.number)) (not (is_for g.tag g.sequence b)) two.0).1 in
    ap (λ v. cond v (b ∷ filter (λ c. not (is_for g.tag g.sequence c)) bs) (filter (λ c. not (is_for g.tag g.sequence c)) bs)) other ∙ ap (λ l. b ∷ l) (none_further g bs two.1)

taken_one : (g : Binding) (bs : List Binding) → all_differ differ bs ≡ true → without g.tag g.sequence bs ≡ filter (λ b. not (is_for g.tag g.sequence b)) bs
taken_one g [] h = refl
taken_one g (b ∷ bs) h = by (is_for g.tag g.sequence b) refl (both (list_all (differ b) bs) (all_differ differ bs) h) (taken_one g bs)
  where
    alike : is_for g.tag g.sequence b ≡ true → (c : Binding) → is_for g.tag g.sequence c ≡ is_for b.tag b.sequence c
    alike e c =
        let two = both (same_text b.tag g.tag) (equal_patterns b.sequence g.sequence) e in
        ap (λ t. is_for t g.sequence c) (sym ((bytes_decides b.tag g.tag).0 two.0)) ∙ ap (λ s. is_for b.tag s c) (sym ((equal_so b.sequence g.sequence).0 two.1))

    same : is_for g.tag g.sequence b ≡ true → (cs : List Binding) → filter (λ c. not (is_for g.tag g.sequence c)) cs ≡ filter (λ c. not (is_for b.tag b.sequence c)) cs
    same e [] = refl
    same e (c ∷ cs) = ap (λ v. cond (not v) (c ∷ filter (λ d. not (is_for g.tag g.sequence d)) cs) (filter (λ d. not (is_for g.tag g.sequence d)) cs)) (alike e c) ∙ ap (λ l. cond (not (is_for b.tag b.sequence c)) (c ∷ l) l) (same e cs)

    by : (v : Bool) → is_for g.tag g.sequence b ≡ v → (list_all (differ b) bs ≡ true) × (all_differ differ bs ≡ true) → (all_differ differ bs ≡ true → without g.tag g.sequence bs ≡ filter (λ c. not (is_for g.tag g.sequence c)) bs)
        → cond v bs (b ∷ without g.tag g.sequence bs) ≡ cond (not v) (b ∷ filter (λ c. not (is_for g.tag g.sequence c)) bs) (filter (λ c. not (is_for g.tag g.sequence c)) bs)
    by true e h rest = sym (same e bs ∙ none_further b bs h.0)
    by false e h rest = ap (λ l. b ∷ l) (rest h.1)

taken_each : (gone : List Binding) (c : Content) → all_differ differ c.bindings ≡ true → without_each gone c ≡ record c { bindings = filter (λ b. not (is_of gone b)) c.bindings }
taken_each [] c h = ap (λ bs. record c { bindings = bs }) (sym (filter_all c.bindings))
taken_each (g ∷ gone) c h =
    let one = taken_one g c.bindings h in
    let left = record c { bindings = without g.tag g.sequence c.bindings } in
    taken_each gone left (subst (λ bs. all_differ differ bs ≡ true) (sym one) (differ_left (λ b. not (is_for g.tag g.sequence b)) c.bindings h))
    ∙ ap (λ bs. record c { bindings = filter (λ b. not (is_of gone b)) bs }) one
    ∙ ap (λ bs. record c { bindings = bs }) (twice (is_of gone) (λ b. is_for g.tag g.sequence b) c.bindings)

same_kept : (p q : Binding → Bool) (bs : List Binding) → ((b : Binding) → IsOneOf b bs → p b ≡ q b) → filter p bs ≡ filter q bs
same_kept p q [] h = refl
same_kept p q (b ∷ bs) h = ap (λ v. cond v (b ∷ filter p bs) (filter p bs)) (h b (inl refl)) ∙ ap (λ l. cond (q b) (b ∷ l) l) (same_kept p q bs (λ c i. h c (inr i)))

-- without those of a tag
pub without_tagged : (tag : List ℕ) (gone : List Binding) (c : Content) → all_differ differ c.bindings ≡ true → AreOf tag c.bindings gone → without_each gone c ≡ without_tag tag c
without_tagged tag gone c h of =
    taken_each gone c h ∙ ap (λ bs. record c { bindings = bs }) (same_kept (λ b. not (is_of gone b)) (λ b. not (same_text b.tag tag)) c.bindings (λ b i. ap not (one b i)))
  where
    there : (b : Binding) (gs : List Binding) → IsOneOf b gs → is_of gs b ≡ true
    there b [] i = absurd i
    there b (g ∷ gs) (inl same) = ap (λ v. v || is_of gs b) (subst (λ (d : Binding). is_for d.tag d.sequence b ≡ true) same (itself b))
    there b (g ∷ gs) (inr j) = by (is_for g.tag g.sequence b) (there b gs j)
      where
        by : (v : Bool) → is_of gs b ≡ true → (v || is_of gs b) ≡ true
        by true k = refl
        by false k = k

    tagged : (b : Binding) (gs : List Binding) → ((g : Binding) → IsOneOf g gs → same_text g.tag tag ≡ true) → is_of gs b ≡ true → same_text b.tag tag ≡ true
    tagged b [] each k = absurd (true≢false (sym k))
    tagged b (g ∷ gs) each k = by (is_for g.tag g.sequence b) refl k (tagged b gs (λ d i. each d (inr i)))
      where
        by : (v : Bool) → is_for g.tag g.sequence b ≡ v → (v || is_of gs b) ≡ true → (is_of gs b ≡ true → same_text b.tag tag ≡ true) → same_text b.tag tag ≡ true
        by true e k rest =
            let same = (bytes_decides b.tag g.tag).0 (both (same_text b.tag g.tag) (equal_patterns b.sequence g.sequence) e).0 in
            subst (λ t. same_text t tag ≡ true) (sym same) (each g (inl refl))
        by false e k rest = rest k

    one : (b : Binding) → IsOneOf b c.bindings → is_of gone b ≡ same_text b.tag tag
    one b i = by (is_of gone b) (same_text b.tag tag) refl refl
      where
        by : (u v : Bool) → is_of gone b ≡ u → same_text b.tag tag ≡ v → u ≡ v
        by true true x y = refl
        by false false x y = refl
        by true false x y = absurd (true≢false (sym (tagged b gone (λ g j. (of.from g j).1) x) ∙ y))
        by false true x y = absurd (true≢false (sym (there b gone (of.all b i y)) ∙ x))
