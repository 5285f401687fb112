-- What a command doesn't name stays.
use Rattle.std.proofs.Common.{◌≡◌, ℕ, Bool, true, false, cond, List, [], ◌∷◌, ◌++◌, refl, ap, ◌∙◌}
use Rattle.std.specs.Cmp.Lexicographic.{bytes_decides}
use Rattle.std.proofs.lemmas.Bool.{and_from}
use Rattle.tks_text.specs.Text.{same_text}
use Rattle.tks_event.specs.Equality.{equal_patterns}
use Rattle.tks_event.specs.declared.pattern.Pattern.{Pattern}
use Rattle.tks_event.proofs.Equal.{equal_so}
use Rattle.tks_bind.specs.Binding.{Content, is_for, placed, without, bound, made, script_for}
use Rattle.tks_bind.specs.VirtualEvents.{is_named, has_sequence, with_sequence, added, deleted, other_sequences, with_sequences, deleted_sequence}
use Rattle.tks_bind.specs.Others.{other_bindings, other_events}
use Rattle.tks_bind.specs.declared.binding.Binding.{Binding}
use Rattle.tks_bind.specs.declared.virtual_event.VirtualEvent.{VirtualEvent}

-- ---- bindings

for_its_own : (b : Binding) → is_for b.tag b.sequence b ≡ true
for_its_own b = and_from (same_text b.tag b.tag) (equal_patterns b.sequence b.sequence) ((bytes_decides b.tag b.tag).1 refl) ((equal_so b.sequence b.sequence).1 refl)

without_stays : (tag : List ℕ) (sequence : List Pattern) (bs : List Binding) → other_bindings tag sequence (without tag sequence bs) ≡ other_bindings tag sequence bs
without_stays tag sequence [] = refl
without_stays tag sequence (b ∷ bs) = by (is_for tag sequence b) refl (without_stays tag sequence bs)
  where
    by : (t : Bool) → is_for tag sequence b ≡ t → other_bindings tag sequence (without tag sequence bs) ≡ other_bindings tag sequence bs
        → other_bindings tag sequence (cond t bs (b ∷ without tag sequence bs)) ≡ other_bindings tag sequence (b ∷ bs)
    by true is rest = rw is refl
    by false is rest = rw is (ap (λ l. b ∷ l) rest)

placed_stays : (b : Binding) (bs : List Binding) → other_bindings b.tag b.sequence (placed b bs) ≡ other_bindings b.tag b.sequence bs
placed_stays b [] = rw (for_its_own b) refl
placed_stays b (c ∷ bs) = by (is_for b.tag b.sequence c) refl (placed_stays b bs)
  where
    by : (t : Bool) → is_for b.tag b.sequence c ≡ t → other_bindings b.tag b.sequence (placed b bs) ≡ other_bindings b.tag b.sequence bs
        → other_bindings b.tag b.sequence (cond t (b ∷ bs) (c ∷ placed b bs)) ≡ other_bindings b.tag b.sequence (c ∷ bs)
    by true is rest = rw (is, for_its_own b) refl
    by false is rest = rw is (ap (λ l. c ∷ l) rest)

pub bound_stays : (tag : List ℕ) (sequence : List Pattern) (script : List ℕ) (c : Content) → other_bindings tag sequence (bound tag sequence script c).bindings ≡ other_bindings tag sequence c.bindings
bound_stays tag sequence [] c = without_stays tag sequence c.bindings
bound_stays tag sequence (p ∷ more) c =
    placed_stays (record { number = c.next; tag = tag; sequence = sequence; script = made (script_for tag sequence c.bindings) (p ∷ more) }) c.bindings

-- ---- virtual events

named_itself : (name : List ℕ) → same_text name name ≡ true
named_itself name = (bytes_decides name name).1 refl

with_one : (name : List ℕ) (sequence : List Pattern) (v : VirtualEvent) → is_named name v ≡ true → is_named name (with_sequence sequence v) ≡ true
with_one name sequence v is = by (has_sequence sequence v.sequences)
  where
    by : (t : Bool) → is_named name (cond t v (record v { sequences = v.sequences ++ sequence ∷ [] })) ≡ true
    by true = is
    by false = is

pub added_stays : (name : List ℕ) (sequence : List Pattern) (vs : List VirtualEvent) → other_events name (added name sequence vs) ≡ other_events name vs
added_stays name sequence [] = rw (named_itself name) refl
added_stays name sequence (v ∷ vs) = by (is_named name v) refl (added_stays name sequence vs)
  where
    by : (t : Bool) → is_named name v ≡ t → other_events name (added name sequence vs) ≡ other_events name vs
        → other_events name (cond t (with_sequence sequence v ∷ vs) (v ∷ added name sequence vs)) ≡ other_events name (v ∷ vs)
    by true is rest = rw (is, with_one name sequence v is) refl
    by false is rest = rw is (ap (λ l. v ∷ l) rest)

pub deleted_stays : (name : List ℕ) (vs : List VirtualEvent) → other_events name (deleted name vs) ≡ other_events name vs
deleted_stays name [] = refl
deleted_stays name (v ∷ vs) = by (is_named name v) refl (deleted_stays name vs)
  where
    by : (t : Bool) → is_named name v ≡ t → other_events name (deleted name vs) ≡ other_events name vs
        → other_events name (cond t vs (v ∷ deleted name vs)) ≡ other_events name (v ∷ vs)
    by true is rest = rw is refl
    by false is rest = rw is (ap (λ l. v ∷ l) rest)

fewer_stay : (name : List ℕ) (v : VirtualEvent) (ss : List (List Pattern)) (vs : List VirtualEvent) → is_named name v ≡ true → other_events name (with_sequences v ss vs) ≡ other_events name vs
fewer_stay name v [] vs is = refl
fewer_stay name v (s ∷ ss) vs is = rw is refl

pub sequence_stays : (name : List ℕ) (sequence : List Pattern) (vs : List VirtualEvent) → other_events name (deleted_sequence name sequence vs) ≡ other_events name vs
sequence_stays name sequence [] = refl
sequence_stays name sequence (v ∷ vs) = by (is_named name v) refl (sequence_stays name sequence vs)
  where
    by : (t : Bool) → is_named name v ≡ t → other_events name (deleted_sequence name sequence vs) ≡ other_events name vs
        → other_events name (cond t (with_sequences v (other_sequences sequence v.sequences) vs) (v ∷ deleted_sequence name sequence vs)) ≡ other_events name (v ∷ vs)
    by true is rest = fewer_stay name v (other_sequences sequence v.sequences) vs is ∙ (rw is refl)
    by false is rest = rw is (ap (λ l. v ∷ l) rest)
