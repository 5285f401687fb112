-- Virtual events have other names, and each has sequences of physical events that differ, whatever is done to them.
use Rattle.std.specs.Prelude.{not, ◌&&◌}
use Rattle.std.specs.List.{list_all, remove}
use Rattle.std.proofs.Common.{◌≡◌, ℕ, ◌==◌, Bool, true, false, List, [], ◌∷◌, ◌++◌, length, slice_set, Option, Some, None, refl, sym, ap, subst, ◌∙◌}
use Rattle.tks_text.proofs.Texts.{both}
use Rattle.tks_text.specs.Text.{same_text}
use Rattle.tks_event.specs.Equality.{equal_patterns}
use Rattle.tks_event.specs.Sequences.{is_name}
use Rattle.tks_event.specs.declared.pattern.Pattern.{Pattern}
use Rattle.tks_bind.specs.declared.virtual_event.VirtualEvent.{VirtualEvent}
use Rattle.tks_bind.specs.Distinct.{all_differ}
use Rattle.tks_bind.specs.VirtualEvents.{is_named, is_of_name, has_sequence, other_sequences}
use Rattle.tks_bind.specs.VirtualIndexes.{index_of, found}
use Rattle.tks_bind.specs.WellFormed.{sequences_differ, is_some, is_met, are_physical, is_virtual_event, names_differ, are_virtuals, AreVirtuals}
use Rattle.tks_bind.proofs.Differing.{join, all_removed, differ_removed, all_pushed, all_set, differ_pushed, all_told, all_tested}

abbrev Nothing : Option VirtualEvent
Nothing = None

negated : (a : Bool) → a ≡ false → not a ≡ true
negated true h = sym h
negated false h = refl

-- ---- sequences

-- one more, which isn't there
one_more_apart : (s : List Pattern) (ss : List (List Pattern)) → has_sequence s ss ≡ false → list_all (λ t. sequences_differ t s) ss ≡ true
one_more_apart s [] h = refl
one_more_apart s (t ∷ ss) h = by (equal_patterns t s) refl h (one_more_apart s ss)
  where
    by : (b : Bool) → equal_patterns t s ≡ b → has_sequence s (t ∷ ss) ≡ false → (has_sequence s ss ≡ false → list_all (λ t. sequences_differ t s) ss ≡ true)
        → list_all (λ t. sequences_differ t s) (t ∷ ss) ≡ true
    by true e h rest = absurd (let g : true ≡ false = rw e at h in cc)
    by false e h rest = join (sequences_differ t s) (list_all (λ t. sequences_differ t s) ss) (negated (equal_patterns t s) e) (rest (rw e at h))

some_more : (s : List Pattern) (ss : List (List Pattern)) → is_some (ss ++ s ∷ []) ≡ true
some_more s [] = refl
some_more s (t ∷ ss) = refl

-- a virtual event with one more sequence
met_more : (name : List ℕ) (s : List Pattern) (ss : List (List Pattern)) → all_differ sequences_differ ss ≡ true → has_sequence s ss ≡ false
    → is_met (record { name = name; sequences = ss ++ s ∷ [] }) ≡ true
met_more name s ss h k = join (is_some (ss ++ s ∷ [])) (all_differ sequences_differ (ss ++ s ∷ [])) (some_more s ss) (differ_pushed sequences_differ ss s h (one_more_apart s ss k))

all_others : (test : List Pattern → Bool) (s : List Pattern) (ss : List (List Pattern)) → list_all test ss ≡ true → list_all test (other_sequences s ss) ≡ true
all_others test s [] h = refl
all_others test s (t ∷ ss) h = by (equal_patterns t s) refl (both (test t) (list_all test ss) h) (all_others test s ss)
  where
    by : (b : Bool) → equal_patterns t s ≡ b → (test t ≡ true) × (list_all test ss ≡ true) → (list_all test ss ≡ true → list_all test (other_sequences s ss) ≡ true)
        → list_all test (other_sequences s (t ∷ ss)) ≡ true
    by true e h rest = rw e (rest h.1)
    by false e h rest = rw e (join (test t) (list_all test (other_sequences s ss)) h.0 (rest h.1))

others_differ : (s : List Pattern) (ss : List (List Pattern)) → all_differ sequences_differ ss ≡ true → all_differ sequences_differ (other_sequences s ss) ≡ true
others_differ s [] h = refl
others_differ s (t ∷ ss) h = by (equal_patterns t s) refl (both (list_all (sequences_differ t) ss) (all_differ sequences_differ ss) h) (others_differ s ss)
  where
    by : (b : Bool) → equal_patterns t s ≡ b → (list_all (sequences_differ t) ss ≡ true) × (all_differ sequences_differ ss ≡ true)
        → (all_differ sequences_differ ss ≡ true → all_differ sequences_differ (other_sequences s ss) ≡ true) → all_differ sequences_differ (other_sequences s (t ∷ ss)) ≡ true
    by true e h rest = rw e (rest h.1)
    by false e h rest =
        rw e (join (list_all (sequences_differ t) (other_sequences s ss)) (all_differ sequences_differ (other_sequences s ss)) (all_others (sequences_differ t) s ss h.0) (rest h.1))

some_left : (ss : List (List Pattern)) → (length ss == 0) ≡ false → is_some ss ≡ true
some_left [] k = absurd (let g : true ≡ false = k in cc)
some_left (s ∷ ss) k = refl

-- a virtual event with one sequence less, where some are left
met_less : (name : List ℕ) (s : List Pattern) (ss left : List (List Pattern)) → all_differ sequences_differ ss ≡ true → left ≡ other_sequences s ss → (length left == 0) ≡ false
    → is_met (record { name = name; sequences = left }) ≡ true
met_less name s ss left h e k =
    let apart : all_differ sequences_differ left ≡ true = subst (λ l. all_differ sequences_differ l ≡ true) (sym e) (others_differ s ss h) in
    join (is_some left) (all_differ sequences_differ left) (some_left left k) apart

-- ---- names and sequences

-- a new one, with its first sequence
pub legal_first : (name : List ℕ) (s : List Pattern) → is_name name ≡ true → is_of_name s ≡ false → is_virtual_event (record { name = name; sequences = s ∷ [] }) ≡ true
legal_first name s n p =
    join (is_name name) (are_physical (s ∷ []) && is_met (record { name = name; sequences = s ∷ [] })) n
    (join (are_physical (s ∷ [])) (is_met (record { name = name; sequences = s ∷ [] })) (join (not (is_of_name s)) true (negated (is_of_name s) p) refl) refl)

-- one with one more sequence
pub legal_more : (v : VirtualEvent) (s : List Pattern) → is_virtual_event v ≡ true → has_sequence s v.sequences ≡ false → is_of_name s ≡ false
    → is_virtual_event (record { name = v.name; sequences = v.sequences ++ s ∷ [] }) ≡ true
legal_more v s h k p =
    let more : VirtualEvent = record { name = v.name; sequences = v.sequences ++ s ∷ [] } in
    let b = both (is_name v.name) (are_physical v.sequences && is_met v) h in
    let d = both (are_physical v.sequences) (is_met v) b.1 in
    let differ = both (is_some v.sequences) (all_differ sequences_differ v.sequences) d.1 in
    join (is_name v.name) (are_physical more.sequences && is_met more) b.0
    (join (are_physical more.sequences) (is_met more) (all_pushed (λ t. not (is_of_name t)) v.sequences s d.0 (negated (is_of_name s) p)) (met_more v.name s v.sequences differ.1 k))

-- one with one sequence less, where some are left
pub legal_less : (v : VirtualEvent) (s : List Pattern) (left : List (List Pattern)) → is_virtual_event v ≡ true → left ≡ other_sequences s v.sequences → (length left == 0) ≡ false
    → is_virtual_event (record { name = v.name; sequences = left }) ≡ true
legal_less v s left h e k =
    let less : VirtualEvent = record { name = v.name; sequences = left } in
    let b = both (is_name v.name) (are_physical v.sequences && is_met v) h in
    let d = both (are_physical v.sequences) (is_met v) b.1 in
    let differ = both (is_some v.sequences) (all_differ sequences_differ v.sequences) d.1 in
    let physical : are_physical left ≡ true = subst (λ l. are_physical l ≡ true) (sym e) (all_others (λ t. not (is_of_name t)) s v.sequences d.0) in
    join (is_name v.name) (are_physical left && is_met less) b.0 (join (are_physical left) (is_met less) physical (met_less v.name s v.sequences left differ.1 e k))

-- ---- those of a name

-- what holds of each holds of the one that is found
all_found : (test : VirtualEvent → Bool) (name : List ℕ) (v : VirtualEvent) (vs : List VirtualEvent) → found name vs ≡ Some v → list_all test vs ≡ true → test v ≡ true
all_found test name v [] f h = absurd (let g : Nothing ≡ Some v = f in cc)
all_found test name v (u ∷ vs) f h = by (is_named name u) refl f (both (test u) (list_all test vs) h) (all_found test name v vs)
  where
    by : (b : Bool) → is_named name u ≡ b → found name (u ∷ vs) ≡ Some v → (test u ≡ true) × (list_all test vs ≡ true)
        → (found name vs ≡ Some v → list_all test vs ≡ true → test v ≡ true) → test v ≡ true
    by true e f h rest = let g : Some u ≡ Some v = rw e at f in let same : u ≡ v = cc in subst (λ x. test x ≡ true) same h.0
    by false e f h rest = rest (rw e at f) h.1

-- the one that is found is a virtual event
pub found_legal : (name : List ℕ) (v : VirtualEvent) (vs : List VirtualEvent) → found name vs ≡ Some v → AreVirtuals vs → is_virtual_event v ≡ true
found_legal name v vs f h = all_found is_virtual_event name v vs f (all_tested is_virtual_event vs h.legal)

-- none has the name
none_named : (name : List ℕ) (vs : List VirtualEvent) → found name vs ≡ None → list_all (λ u. not (same_text u.name name)) vs ≡ true
none_named name [] f = refl
none_named name (u ∷ vs) f = by (is_named name u) refl f (none_named name vs)
  where
    by : (b : Bool) → is_named name u ≡ b → found name (u ∷ vs) ≡ None → (found name vs ≡ None → list_all (λ u. not (same_text u.name name)) vs ≡ true)
        → list_all (λ u. not (same_text u.name name)) (u ∷ vs) ≡ true
    by true e f rest = absurd (let g : Some u ≡ Nothing = rw e at f in cc)
    by false e f rest = join (not (same_text u.name name)) (list_all (λ u. not (same_text u.name name)) vs) (negated (same_text u.name name) e) (rest (rw e at f))

-- another of the same name takes the place of the one that is found
renamed_apart : (name : List ℕ) (v w : VirtualEvent) (vs : List VirtualEvent) → found name vs ≡ Some v → w.name ≡ v.name → are_virtuals vs ≡ true
    → are_virtuals (slice_set vs (index_of name vs) w) ≡ true
renamed_apart name v w [] f n h = absurd (let g : Nothing ≡ Some v = f in cc)
renamed_apart name v w (u ∷ vs) f n h = by (is_named name u) refl f (both (list_all (names_differ u) vs) (are_virtuals vs) h) (renamed_apart name v w vs)
  where
    by : (b : Bool) → is_named name u ≡ b → found name (u ∷ vs) ≡ Some v → (list_all (names_differ u) vs ≡ true) × (are_virtuals vs ≡ true)
        → (found name vs ≡ Some v → w.name ≡ v.name → are_virtuals vs ≡ true → are_virtuals (slice_set vs (index_of name vs) w) ≡ true)
        → are_virtuals (slice_set (u ∷ vs) (index_of name (u ∷ vs)) w) ≡ true
    by true e f h rest =
        let g : Some u ≡ Some v = rw e at f in
        let same : u ≡ v = cc in
        let first : list_all (names_differ w) vs ≡ true = subst (λ m. list_all (λ x. not (same_text m x.name)) vs ≡ true) (ap (λ (x : VirtualEvent). x.name) same ∙ sym n) h.0 in
        rw e (join (list_all (names_differ w) vs) (are_virtuals vs) first h.1)
    by false e f h rest =
        let there : found name vs ≡ Some v = rw e at f in
        let apart : names_differ u w ≡ true = subst (λ m. not (same_text u.name m) ≡ true) (sym n) (all_found (names_differ u) name v vs there h.0) in
        rw e (join (list_all (names_differ u) (slice_set vs (index_of name vs) w)) (are_virtuals (slice_set vs (index_of name vs) w)) (all_set (names_differ u) vs (index_of name vs) w h.0 apart) (rest there n h.1))

-- ---- what is done

-- one is taken out
pub removed_apart : (vs : List VirtualEvent) (i : ℕ) → AreVirtuals vs → AreVirtuals (remove vs i)
removed_apart vs i h = record { names = differ_removed names_differ vs i h.names; legal = all_told is_virtual_event (remove vs i) (all_removed is_virtual_event vs i (all_tested is_virtual_event vs h.legal)) }

-- one of a new name is added
pub pushed_apart : (v : VirtualEvent) (vs : List VirtualEvent) → found v.name vs ≡ None → is_virtual_event v ≡ true → AreVirtuals vs → AreVirtuals (vs ++ v ∷ [])
pushed_apart v vs f m h = record {
  names = differ_pushed names_differ vs v h.names (none_named v.name vs f);
  legal = all_told is_virtual_event (vs ++ v ∷ []) (all_pushed is_virtual_event vs v (all_tested is_virtual_event vs h.legal) m);
}

-- one takes another's place, under its name
pub replaced_apart : (name : List ℕ) (v w : VirtualEvent) (vs : List VirtualEvent) → found name vs ≡ Some v → w.name ≡ v.name → is_virtual_event w ≡ true → AreVirtuals vs
    → AreVirtuals (slice_set vs (index_of name vs) w)
replaced_apart name v w vs f n m h = record {
  names = renamed_apart name v w vs f n h.names;
  legal = all_told is_virtual_event (slice_set vs (index_of name vs) w) (all_set is_virtual_event vs (index_of name vs) w (all_tested is_virtual_event vs h.legal) m);
}
