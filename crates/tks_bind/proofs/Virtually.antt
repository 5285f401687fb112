-- Virtual events by their index.
use Rattle.std.specs.List.{remove}
use Rattle.std.proofs.Common.{◌≡◌, ◌<◌, ◌==◌, ℕ, suc, Bool, true, false, List, [], ◌∷◌, ◌++◌, length, slice_set, Option, Some, None, refl, ap, sym, subst, ◌∙◌, arith}
use Rattle.tks_event.specs.declared.pattern.Pattern.{Pattern}
use Rattle.tks_bind.specs.declared.virtual_event.VirtualEvent.{VirtualEvent}
use Rattle.tks_bind.specs.VirtualEvents.{is_named, has_sequence, sequences_of, added, deleted, other_sequences, with_sequences, deleted_sequence}
use Rattle.tks_bind.specs.VirtualIndexes.{index_of, found}

abbrev Nothing : Option VirtualEvent
Nothing = None

filled : (u : VirtualEvent) (l : List (List Pattern)) (vs : List VirtualEvent) → (length l == 0) ≡ false → record { name = u.name; sequences = l } ∷ vs ≡ with_sequences u l vs
filled u [] vs k = absurd (let g : true ≡ false = k in cc)
filled u (s ∷ l) vs k = refl

module _ (name : List ℕ) where
  pub sequences_none : (vs : List VirtualEvent) → found name vs ≡ None → sequences_of name vs ≡ []
  sequences_none [] f = refl
  sequences_none (u ∷ vs) f = by (is_named name u) refl f (sequences_none vs)
    where
      by : (t : Bool) → is_named name u ≡ t → found name (u ∷ vs) ≡ None → (found name vs ≡ None → sequences_of name vs ≡ []) → sequences_of name (u ∷ vs) ≡ []
      by true e f rest = absurd (let g : Some u ≡ Nothing = rw e at f in cc)
      by false e f rest = rw e (rest (rw e at f))

  pub sequences_found : (v : VirtualEvent) (vs : List VirtualEvent) → found name vs ≡ Some v → sequences_of name vs ≡ v.sequences
  sequences_found v [] f = absurd (let g : Nothing ≡ Some v = f in cc)
  sequences_found v (u ∷ vs) f = by (is_named name u) refl f (sequences_found v vs)
    where
      by : (t : Bool) → is_named name u ≡ t → found name (u ∷ vs) ≡ Some v → (found name vs ≡ Some v → sequences_of name vs ≡ v.sequences) → sequences_of name (u ∷ vs) ≡ v.sequences
      by true e f rest = rw e (let g : Some u ≡ Some v = rw e at f in let same : u ≡ v = cc in ap (λ x. x.sequences) same)
      by false e f rest = rw e (rest (rw e at f))

  pub found_inside : (v : VirtualEvent) (vs : List VirtualEvent) → found name vs ≡ Some v → index_of name vs < length vs
  found_inside v [] f = absurd (let g : Nothing ≡ Some v = f in cc)
  found_inside v (u ∷ vs) f = by (is_named name u) refl f (found_inside v vs)
    where
      by : (t : Bool) → is_named name u ≡ t → found name (u ∷ vs) ≡ Some v → (found name vs ≡ Some v → index_of name vs < length vs) → index_of name (u ∷ vs) < length (u ∷ vs)
      by true e f rest = rw e (omega arith)
      by false e f rest = rw e (let r = rest (rw e at f) in omega arith)

  pub added_new : (s : List Pattern) (vs : List VirtualEvent) → found name vs ≡ None → vs ++ record { name = name; sequences = s ∷ [] } ∷ [] ≡ added name s vs
  added_new s [] f = refl
  added_new s (u ∷ vs) f = by (is_named name u) refl f (added_new s vs)
    where
      by : (t : Bool) → is_named name u ≡ t → found name (u ∷ vs) ≡ None → (found name vs ≡ None → vs ++ record { name = name; sequences = s ∷ [] } ∷ [] ≡ added name s vs) → (u ∷ vs) ++ record { name = name; sequences = s ∷ [] } ∷ [] ≡ added name s (u ∷ vs)
      by true e f rest = absurd (let g : Some u ≡ Nothing = rw e at f in cc)
      by false e f rest = rw e (ap (λ r. u ∷ r) (rest (rw e at f)))

  pub added_same : (s : List Pattern) (v : VirtualEvent) (vs : List VirtualEvent) → found name vs ≡ Some v → has_sequence s v.sequences ≡ true → vs ≡ added name s vs
  added_same s v [] f h = absurd (let g : Nothing ≡ Some v = f in cc)
  added_same s v (u ∷ vs) f h = by (is_named name u) refl f h (added_same s v vs)
    where
      by : (t : Bool) → is_named name u ≡ t → found name (u ∷ vs) ≡ Some v → has_sequence s v.sequences ≡ true → (found name vs ≡ Some v → has_sequence s v.sequences ≡ true → vs ≡ added name s vs) → (u ∷ vs) ≡ added name s (u ∷ vs)
      by true e f h rest = rw e (let g : Some u ≡ Some v = rw e at f in let same : u ≡ v = cc in let had : has_sequence s u.sequences ≡ true = subst (λ x. has_sequence s x.sequences ≡ true) (sym same) h in rw had refl)
      by false e f h rest = rw e (ap (λ r. u ∷ r) (rest (rw e at f) h))

  pub added_more : (s : List Pattern) (v : VirtualEvent) (vs : List VirtualEvent) → found name vs ≡ Some v → has_sequence s v.sequences ≡ false → slice_set vs (index_of name vs) (record { name = v.name; sequences = v.sequences ++ s ∷ [] }) ≡ added name s vs
  added_more s v [] f h = absurd (let g : Nothing ≡ Some v = f in cc)
  added_more s v (u ∷ vs) f h = by (is_named name u) refl f h (added_more s v vs)
    where
      by : (t : Bool) → is_named name u ≡ t → found name (u ∷ vs) ≡ Some v → has_sequence s v.sequences ≡ false → (found name vs ≡ Some v → has_sequence s v.sequences ≡ false → slice_set vs (index_of name vs) (record { name = v.name; sequences = v.sequences ++ s ∷ [] }) ≡ added name s vs) → slice_set (u ∷ vs) (index_of name (u ∷ vs)) (record { name = v.name; sequences = v.sequences ++ s ∷ [] }) ≡ added name s (u ∷ vs)
      by true e f h rest = rw e (let g : Some u ≡ Some v = rw e at f in let same : u ≡ v = cc in let had : has_sequence s u.sequences ≡ false = subst (λ x. has_sequence s x.sequences ≡ false) (sym same) h in rw had (ap (λ x. (record { name = x.name; sequences = x.sequences ++ s ∷ [] }) ∷ vs) (sym same)))
      by false e f h rest = rw e (ap (λ r. u ∷ r) (rest (rw e at f) h))

  pub deleted_there : (vs : List VirtualEvent) → index_of name vs < length vs → remove vs (index_of name vs) ≡ deleted name vs
  deleted_there [] f = absurd (omega arith)
  deleted_there (u ∷ vs) f = by (is_named name u) refl f (deleted_there vs)
    where
      by : (t : Bool) → is_named name u ≡ t → index_of name (u ∷ vs) < length (u ∷ vs) → (index_of name vs < length vs → remove vs (index_of name vs) ≡ deleted name vs) → remove (u ∷ vs) (index_of name (u ∷ vs)) ≡ deleted name (u ∷ vs)
      by true e f rest = rw e refl
      by false e f rest = rw e (let j : suc (index_of name vs) < suc (length vs) = rw e at f in ap (λ r. u ∷ r) (rest (omega arith)))

  pub deleted_none : (vs : List VirtualEvent) → found name vs ≡ None → vs ≡ deleted name vs
  deleted_none [] f = refl
  deleted_none (u ∷ vs) f = by (is_named name u) refl f (deleted_none vs)
    where
      by : (t : Bool) → is_named name u ≡ t → found name (u ∷ vs) ≡ None → (found name vs ≡ None → vs ≡ deleted name vs) → (u ∷ vs) ≡ deleted name (u ∷ vs)
      by true e f rest = absurd (let g : Some u ≡ Nothing = rw e at f in cc)
      by false e f rest = rw e (ap (λ r. u ∷ r) (rest (rw e at f)))

  pub none_deleted : (s : List Pattern) (vs : List VirtualEvent) → found name vs ≡ None → vs ≡ deleted_sequence name s vs
  none_deleted s [] f = refl
  none_deleted s (u ∷ vs) f = by (is_named name u) refl f (none_deleted s vs)
    where
      by : (t : Bool) → is_named name u ≡ t → found name (u ∷ vs) ≡ None → (found name vs ≡ None → vs ≡ deleted_sequence name s vs) → (u ∷ vs) ≡ deleted_sequence name s (u ∷ vs)
      by true e f rest = absurd (let g : Some u ≡ Nothing = rw e at f in cc)
      by false e f rest = rw e (ap (λ r. u ∷ r) (rest (rw e at f)))

  pub last_deleted : (s : List Pattern) (v : VirtualEvent) (vs : List VirtualEvent) → found name vs ≡ Some v → other_sequences s v.sequences ≡ [] → remove vs (index_of name vs) ≡ deleted_sequence name s vs
  last_deleted s v [] f h = absurd (let g : Nothing ≡ Some v = f in cc)
  last_deleted s v (u ∷ vs) f h = by (is_named name u) refl f h (last_deleted s v vs)
    where
      by : (t : Bool) → is_named name u ≡ t → found name (u ∷ vs) ≡ Some v → other_sequences s v.sequences ≡ [] → (found name vs ≡ Some v → other_sequences s v.sequences ≡ [] → remove vs (index_of name vs) ≡ deleted_sequence name s vs) → remove (u ∷ vs) (index_of name (u ∷ vs)) ≡ deleted_sequence name s (u ∷ vs)
      by true e f h rest = rw e (let g : Some u ≡ Some v = rw e at f in let same : u ≡ v = cc in let left : other_sequences s u.sequences ≡ [] = subst (λ x. other_sequences s x.sequences ≡ []) (sym same) h in rw left refl)
      by false e f h rest = rw e (ap (λ r. u ∷ r) (rest (rw e at f) h))

  pub one_deleted : (s : List Pattern) (v : VirtualEvent) (l : List (List Pattern)) (vs : List VirtualEvent) → found name vs ≡ Some v → l ≡ other_sequences s v.sequences → (length l == 0) ≡ false → slice_set vs (index_of name vs) (record { name = v.name; sequences = l }) ≡ deleted_sequence name s vs
  one_deleted s v l [] f h k = absurd (let g : Nothing ≡ Some v = f in cc)
  one_deleted s v l (u ∷ vs) f h k = by (is_named name u) refl f h k (one_deleted s v l vs)
    where
      by : (t : Bool) → is_named name u ≡ t → found name (u ∷ vs) ≡ Some v → l ≡ other_sequences s v.sequences → (length l == 0) ≡ false → (found name vs ≡ Some v → l ≡ other_sequences s v.sequences → (length l == 0) ≡ false → slice_set vs (index_of name vs) (record { name = v.name; sequences = l }) ≡ deleted_sequence name s vs) → slice_set (u ∷ vs) (index_of name (u ∷ vs)) (record { name = v.name; sequences = l }) ≡ deleted_sequence name s (u ∷ vs)
      by true e f h k rest = rw e (let g : Some u ≡ Some v = rw e at f in let same : u ≡ v = cc in let left : other_sequences s u.sequences ≡ l = subst (λ x. other_sequences s x.sequences ≡ l) (sym same) (sym h) in rw left (ap (λ x. (record { name = x.name; sequences = l }) ∷ vs) (sym same) ∙ filled u l vs k))
      by false e f h k rest = rw e (ap (λ r. u ∷ r) (rest (rw e at f) h k))
