-- `event add` and `event delete` leave the world within limits.
use Rattle.std.proofs.Common.{◌≡◌, ◌≤◌, ℕ, Bool, true, false, ◌&&◌, if◌then◌else◌, List, [], ◌∷◌, ◌++◌, length, Ok, IfOk, refl, arith}
use Rattle.std.specs.Prelude.{nat_le}
use Rattle.std.specs.Cmp.Lexicographic.{bytes_decides}
use Rattle.std.specs.List.{list_all}
use Rattle.std.proofs.lemmas.Bool.{and_from, and_parts}
use Rattle.tks_text.specs.Limits.{fits}
use Rattle.tks_text.specs.Size.{Extent}
use Rattle.tks_text.specs.declared.limits.Limits.{Limits}
use Rattle.tks_tcl.proofs.Framing.{follows, follows_on}
use Rattle.tks_event.specs.Equality.{equal_patterns}
use Rattle.tks_event.specs.declared.pattern.Pattern.{Pattern}
use Rattle.tks_bind.specs.VirtualEvents.{is_named, has_sequence, sequences_of, with_sequence, added, deleted, other_sequences, with_sequences, deleted_sequence}
use Rattle.tks_bind.specs.declared.virtual_event.VirtualEvent.{VirtualEvent}
use Rattle.tks_state.specs.World.{World, with_virtual, without_virtual, without_virtual_sequence}
use Rattle.tks_limits.specs.Within.{may_hold, sequence_fits, sequences_fit, virtual_fits, virtuals_fit}
use Rattle.tks_cmd.specs.Changes.{silent}
use Rattle.tks_cmd.specs.VirtualEvents as virtuals
use Rattle.tks_cmd.specs.VirtualEvents.{name_read, all_read, with_all, virtuals_within, added_all, add_does, without_all, deleted_from, delete_does}
use Rattle.tks_keeping.specs.Fitting.{WorldFits}
use Rattle.tks_keeping.proofs.Lists.{pushed_so, one_so, AllSo}
use Rattle.tks_keeping.proofs.Texts.{tested_so, TextFits, fewer_fit, TextsFit, first_word}
use Rattle.tks_keeping.proofs.Parts.{LeftFits, events_opened, with_virtuals_fits}
use Rattle.tks_keeping.proofs.Names.{name_fits}

-- ---- fewer sequences, and fewer events

others_fewer : (s : List Pattern) (ss : List (List Pattern)) → length (other_sequences s ss) ≤ length ss
others_fewer s [] = omega arith
others_fewer s (r ∷ rs) =
    let rest = others_fewer s rs in
    one_so (λ ss. length ss ≤ length (r ∷ rs)) (equal_patterns r s) (other_sequences s rs) (r ∷ other_sequences s rs) (omega (arith, rest)) (omega (arith, rest))

deleted_fewer : (name : List ℕ) (vs : List VirtualEvent) → length (deleted name vs) ≤ length vs
deleted_fewer name [] = omega arith
deleted_fewer name (v ∷ vs) =
    let rest = deleted_fewer name vs in
    one_so (λ us. length us ≤ length (v ∷ vs)) (is_named name v) vs (v ∷ deleted name vs) (omega arith) (omega (arith, rest))

left_fewer : (v : VirtualEvent) (ss : List (List Pattern)) (vs : List VirtualEvent) → length (with_sequences v ss vs) ≤ length (v ∷ vs)
left_fewer v [] vs = omega arith
left_fewer v (s ∷ ss) vs = omega arith

sequence_fewer : (name : List ℕ) (s : List Pattern) (vs : List VirtualEvent) → length (deleted_sequence name s vs) ≤ length vs
sequence_fewer name s [] = omega arith
sequence_fewer name s (v ∷ vs) =
    let rest = sequence_fewer name s vs in
    let left = left_fewer v (other_sequences s v.sequences) vs in
    one_so (λ us. length us ≤ length (v ∷ vs)) (is_named name v) (with_sequences v (other_sequences s v.sequences) vs) (v ∷ deleted_sequence name s vs)
    left (omega (arith, rest))

module _ (limits : Limits) (grid : Extent) where
  others_fit : (s : List Pattern) (ss : List (List Pattern)) → sequences_fit limits ss ≡ true → sequences_fit limits (other_sequences s ss) ≡ true
  others_fit s [] h = h
  others_fit s (r ∷ rs) h =
      let a = and_parts (sequence_fits limits r) (sequences_fit limits rs) h in
      let rest = others_fit s rs a.1 in
      one_so (λ ss. sequences_fit limits ss ≡ true) (equal_patterns r s) (other_sequences s rs) (r ∷ other_sequences s rs)
      rest (and_from (sequence_fits limits r) (sequences_fit limits (other_sequences s rs)) a.0 rest)

  deleted_fit : (name : List ℕ) (vs : List VirtualEvent) → AllSo (virtual_fits limits) vs → AllSo (virtual_fits limits) (deleted name vs)
  deleted_fit name [] h = h
  deleted_fit name (v ∷ vs) h =
      let a = and_parts (virtual_fits limits v) (list_all (virtual_fits limits) vs) h in
      one_so (λ us. AllSo (virtual_fits limits) us) (is_named name v) vs (v ∷ deleted name vs)
      a.1 (and_from (virtual_fits limits v) (list_all (virtual_fits limits) (deleted name vs)) a.0 (deleted_fit name vs a.1))

  -- an event that some of its sequences are left, or none
  left_fit : (v : VirtualEvent) (ss : List (List Pattern)) (vs : List VirtualEvent) → virtual_fits limits v ≡ true → length ss ≤ length v.sequences → sequences_fit limits ss ≡ true
      → AllSo (virtual_fits limits) vs → AllSo (virtual_fits limits) (with_sequences v ss vs)
  left_fit v [] vs k few all h = h
  left_fit v (s ∷ ss) vs k few all h =
      let a = and_parts (fits limits v.name) (may_hold limits (length v.sequences) && sequences_fit limits v.sequences) k in
      let b = and_parts (may_hold limits (length v.sequences)) (sequences_fit limits v.sequences) a.1 in
      let left : VirtualEvent = record v { sequences = s ∷ ss } in
      and_from (virtual_fits limits left) (list_all (virtual_fits limits) vs)
      (and_from (fits limits v.name) _ a.0 (and_from (may_hold limits (length (s ∷ ss))) (sequences_fit limits (s ∷ ss)) (fewer_fit limits v.sequences (s ∷ ss) few b.0) all)) h

  sequence_fit : (name : List ℕ) (s : List Pattern) (vs : List VirtualEvent) → AllSo (virtual_fits limits) vs → AllSo (virtual_fits limits) (deleted_sequence name s vs)
  sequence_fit name s [] h = h
  sequence_fit name s (v ∷ vs) h =
      let a = and_parts (virtual_fits limits v) (list_all (virtual_fits limits) vs) h in
      let b = and_parts (fits limits v.name) (may_hold limits (length v.sequences) && sequences_fit limits v.sequences) a.0 in
      let all = (and_parts (may_hold limits (length v.sequences)) (sequences_fit limits v.sequences) b.1).1 in
      one_so (λ us. AllSo (virtual_fits limits) us) (is_named name v) (with_sequences v (other_sequences s v.sequences) vs) (v ∷ deleted_sequence name s vs)
      (left_fit v (other_sequences s v.sequences) vs a.0 (others_fewer s v.sequences) (others_fit s v.sequences all) a.1)
      (and_from (virtual_fits limits v) (list_all (virtual_fits limits) (deleted_sequence name s vs)) a.0 (sequence_fit name s vs a.1))

  -- virtual events of which no more are left, each of them within limits
  fewer_virtuals_fit : (before left : List VirtualEvent) → length left ≤ length before → virtuals_fit limits before ≡ true
      → (AllSo (virtual_fits limits) before → AllSo (virtual_fits limits) left) → virtuals_fit limits left ≡ true
  fewer_virtuals_fit before left few h each =
      let a = and_parts (may_hold limits (length before)) (list_all (virtual_fits limits) before) h in
      and_from (may_hold limits (length left)) (list_all (virtual_fits limits) left) (fewer_fit limits before left few a.0) (each a.1)

  -- ---- event delete

  without_virtual_fits : (name : List ℕ) (w : World) → WorldFits limits grid w → WorldFits limits grid (without_virtual name w)
  without_virtual_fits name w h =
      with_virtuals_fits limits grid w h (deleted name w.virtuals)
      (fewer_virtuals_fit w.virtuals (deleted name w.virtuals) (deleted_fewer name w.virtuals) (events_opened limits w h.events).virtuals (deleted_fit name w.virtuals))

  without_sequence_fits : (name : List ℕ) (s : List Pattern) (w : World) → WorldFits limits grid w → WorldFits limits grid (without_virtual_sequence name s w)
  without_sequence_fits name s w h =
      with_virtuals_fits limits grid w h (deleted_sequence name s w.virtuals)
      (fewer_virtuals_fit w.virtuals (deleted_sequence name s w.virtuals) (sequence_fewer name s w.virtuals) (events_opened limits w h.events).virtuals (sequence_fit name s w.virtuals))

  without_all_fits : (name : List ℕ) (ss : List (List Pattern)) (w : World) → WorldFits limits grid w → WorldFits limits grid (without_all name ss w)
  without_all_fits name [] w h = h
  without_all_fits name (s ∷ ss) w h = without_all_fits name ss (without_virtual_sequence name s w) (without_sequence_fits name s w h)

  deleted_from_fits : (name : List ℕ) (texts : List (List ℕ)) (w : World) → WorldFits limits grid w → IfOk (deleted_from name texts w) (WorldFits limits grid)
  deleted_from_fits name [] w h = without_virtual_fits name w h
  deleted_from_fits name (text ∷ texts) w h = follows (WorldFits limits grid) (all_read (text ∷ texts)) _ (λ ss. without_all_fits name ss w h)

  -- `event delete`
  pub delete_fits : (command : List ℕ) (words : List (List ℕ)) (w : World) → WorldFits limits grid w → IfOk (delete_does command words w) (LeftFits limits grid)
  delete_fits command [] w h = tt
  delete_fits command (name ∷ texts) w h =
      follows_on (WorldFits limits grid) (LeftFits limits grid) (virtuals.deleted name texts w) silent
      (follows (WorldFits limits grid) (name_read name) _ (λ n. deleted_from_fits n texts w h)) (λ u f. f)

  -- ---- event add

  -- all of it but how many sequences it has
  abbrev but_count_fits : VirtualEvent → Bool
  but_count_fits v = fits limits v.name && sequences_fit limits v.sequences

  but_count : (v : VirtualEvent) → virtual_fits limits v ≡ true → but_count_fits v ≡ true
  but_count v h =
      let a = and_parts (fits limits v.name) (may_hold limits (length v.sequences) && sequences_fit limits v.sequences) h in
      and_from (fits limits v.name) (sequences_fit limits v.sequences) a.0 (and_parts (may_hold limits (length v.sequences)) (sequences_fit limits v.sequences) a.1).1

  -- each of some, but for how many sequences the first of a name has
  abbrev almost_fit : List ℕ → List VirtualEvent → Bool
  almost_fit name [] = true
  almost_fit name (v ∷ vs) = if is_named name v then but_count_fits v && list_all (virtual_fits limits) vs else virtual_fits limits v && almost_fit name vs

  almost_from : (name : List ℕ) (vs : List VirtualEvent) → AllSo (virtual_fits limits) vs → almost_fit name vs ≡ true
  almost_from name [] h = h
  almost_from name (v ∷ vs) h =
      let a = and_parts (virtual_fits limits v) (list_all (virtual_fits limits) vs) h in
      one_so (λ b. b ≡ true) (is_named name v) (but_count_fits v && list_all (virtual_fits limits) vs) (virtual_fits limits v && almost_fit name vs)
      (and_from (but_count_fits v) (list_all (virtual_fits limits) vs) (but_count v a.0) a.1) (and_from (virtual_fits limits v) (almost_fit name vs) a.0 (almost_from name vs a.1))

  -- where the first one is the one of the name
  first_almost : (name : List ℕ) (v : VirtualEvent) (vs : List VirtualEvent) → is_named name v ≡ true → but_count_fits v ≡ true → AllSo (virtual_fits limits) vs
      → almost_fit name (v ∷ vs) ≡ true
  first_almost name v vs e k h = rw e (and_from (but_count_fits v) (list_all (virtual_fits limits) vs) k h)

  with_sequence_almost : (name : List ℕ) (s : List Pattern) (v : VirtualEvent) (vs : List VirtualEvent) → sequence_fits limits s ≡ true → is_named name v ≡ true → but_count_fits v ≡ true
      → AllSo (virtual_fits limits) vs → almost_fit name (with_sequence s v ∷ vs) ≡ true
  with_sequence_almost name s v vs k e c h =
      let a = and_parts (fits limits v.name) (sequences_fit limits v.sequences) c in
      let more : VirtualEvent = record v { sequences = v.sequences ++ s ∷ [] } in
      one_so (λ u. almost_fit name (u ∷ vs) ≡ true) (has_sequence s v.sequences) v more (first_almost name v vs e c h)
      (first_almost name more vs e (and_from (fits limits v.name) (sequences_fit limits (v.sequences ++ s ∷ [])) a.0 (pushed_so (sequence_fits limits) v.sequences s a.1 k)) h)

  added_almost : (name : List ℕ) (s : List Pattern) (vs : List VirtualEvent) → TextFits limits name → sequence_fits limits s ≡ true → almost_fit name vs ≡ true
      → almost_fit name (added name s vs) ≡ true
  added_almost name s [] n k h =
      let new : VirtualEvent = record { name = name; sequences = s ∷ [] } in
      first_almost name new [] ((bytes_decides name name).1 refl) (and_from (fits limits name) (sequence_fits limits s && true) n (and_from (sequence_fits limits s) true k refl)) refl
  added_almost name s (v ∷ vs) n k h = by (is_named name v) refl h (added_almost name s vs n k)
    where
      by : (b : Bool) → is_named name v ≡ b → (if b then but_count_fits v && list_all (virtual_fits limits) vs else virtual_fits limits v && almost_fit name vs) ≡ true
          → (almost_fit name vs ≡ true → almost_fit name (added name s vs) ≡ true) → almost_fit name (if b then with_sequence s v ∷ vs else v ∷ added name s vs) ≡ true
      by true e h rest =
          let a = and_parts (but_count_fits v) (list_all (virtual_fits limits) vs) h in
          with_sequence_almost name s v vs k e a.0 a.1
      by false e h rest =
          let a = and_parts (virtual_fits limits v) (almost_fit name vs) h in
          rw e (and_from (virtual_fits limits v) (almost_fit name (added name s vs)) a.0 (rest a.1))

  -- all of it, where that count is within its limit too
  all_from_almost : (name : List ℕ) (vs : List VirtualEvent) → almost_fit name vs ≡ true → may_hold limits (length (sequences_of name vs)) ≡ true → AllSo (virtual_fits limits) vs
  all_from_almost name [] h few = refl
  all_from_almost name (v ∷ vs) h few = by (is_named name v) h few (all_from_almost name vs)
    where
      by : (b : Bool) → (if b then but_count_fits v && list_all (virtual_fits limits) vs else virtual_fits limits v && almost_fit name vs) ≡ true
          → may_hold limits (length (if b then v.sequences else sequences_of name vs)) ≡ true
          → (almost_fit name vs ≡ true → may_hold limits (length (sequences_of name vs)) ≡ true → AllSo (virtual_fits limits) vs)
          → AllSo (virtual_fits limits) (v ∷ vs)
      by true h few rest =
          let a = and_parts (but_count_fits v) (list_all (virtual_fits limits) vs) h in
          let b = and_parts (fits limits v.name) (sequences_fit limits v.sequences) a.0 in
          and_from (virtual_fits limits v) (list_all (virtual_fits limits) vs)
          (and_from (fits limits v.name) _ b.0 (and_from (may_hold limits (length v.sequences)) (sequences_fit limits v.sequences) few b.1)) a.1
      by false h few rest =
          let a = and_parts (virtual_fits limits v) (almost_fit name vs) h in
          and_from (virtual_fits limits v) (list_all (virtual_fits limits) vs) a.0 (rest a.1 few)

  -- the same of a world: with virtual events that fit it fits, and those that it has fit but for that count
  record AlmostFits (name : List ℕ) (w : World) : Type 0 where
    pub others : almost_fit name w.virtuals ≡ true
    pub rest : (vs : List VirtualEvent) → virtuals_fit limits vs ≡ true → WorldFits limits grid (record w { virtuals = vs })

  world_almost : (name : List ℕ) (w : World) → WorldFits limits grid w → AlmostFits name w
  world_almost name w h =
      let v = (events_opened limits w h.events).virtuals in
      record { others = almost_from name w.virtuals (and_parts (may_hold limits (length w.virtuals)) (list_all (virtual_fits limits) w.virtuals) v).1; rest = with_virtuals_fits limits grid w h }

  with_all_almost : (name : List ℕ) (ss : List (List Pattern)) (w : World) → TextFits limits name → sequences_fit limits ss ≡ true → AlmostFits name w → AlmostFits name (with_all name ss w)
  with_all_almost name [] w n k h = h
  with_all_almost name (s ∷ ss) w n k h =
      let a = and_parts (sequence_fits limits s) (sequences_fit limits ss) k in
      with_all_almost name ss (with_virtual name s w) n a.1 (record { others = added_almost name s w.virtuals n a.0 h.others; rest = h.rest })

  virtuals_within_fits : (name : List ℕ) (w : World) → AlmostFits name w → IfOk (virtuals_within limits name w) (WorldFits limits grid)
  virtuals_within_fits name w h =
      tested_so (WorldFits limits grid) (nat_le (length w.virtuals) limits.items && nat_le (length (sequences_of name w.virtuals)) limits.items) (Ok w) (λ few.
      let a = and_parts (may_hold limits (length w.virtuals)) (may_hold limits (length (sequences_of name w.virtuals))) few in
      h.rest w.virtuals (and_from (may_hold limits (length w.virtuals)) (list_all (virtual_fits limits) w.virtuals) a.0 (all_from_almost name w.virtuals h.others a.1)))

  added_all_fits : (name : List ℕ) (ss : List (List Pattern)) (w : World) → TextFits limits name → WorldFits limits grid w → IfOk (added_all limits name ss w) (WorldFits limits grid)
  added_all_fits name ss w n h =
      tested_so (WorldFits limits grid) (sequences_fit limits ss) (virtuals_within limits name (with_all name ss w)) (λ all.
      virtuals_within_fits name (with_all name ss w) (with_all_almost name ss w n all (world_almost name w h)))

  -- `event add`, with words that fit
  pub add_fits : (command : List ℕ) (words : List (List ℕ)) (w : World) → TextsFit limits words → WorldFits limits grid w → IfOk (add_does limits command words w) (LeftFits limits grid)
  add_fits command [] w h k = tt
  add_fits command (name ∷ []) w h k = tt
  add_fits command (name ∷ text ∷ texts) w h k =
      follows_on (WorldFits limits grid) (LeftFits limits grid) (virtuals.added limits name (text ∷ texts) w) silent
      (follows_on (TextFits limits) (WorldFits limits grid) (name_read name) _ (name_fits limits name (first_word limits name (text ∷ texts) h)) (λ n f.
      follows (WorldFits limits grid) (all_read (text ∷ texts)) _ (λ ss. added_all_fits n ss w f k)))
      (λ u f. f)
