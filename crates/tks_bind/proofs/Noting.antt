-- Rows, in which it is noted which events may be chosen.
use Rattle.std.specs.List.{list_all}
use Rattle.std.proofs.lemmas.Bool.Decides.{Decides-eqb}
use Rattle.std.proofs.lemmas.Option.{slice_get-get_or}
use Rattle.std.proofs.Common.{Decides, ◌≡◌, ◌≢◌, ◌⊎◌, inl, inr, ◌==◌, ◌&&◌, ◌||◌, not, ◌-◌, ◌+◌, ◌<◌, ◌≤◌, ℕ, zero, suc, Bool, true, false, List, [], ◌∷◌, length, drop, get_or, slice_get, slice_set, Option, Some, None, refl, ap, sym, subst, ◌∙◌, arith}
use Rattle.tks_text.proofs.Texts.{both}
use Rattle.tks_event.specs.Event.{Event}
use Rattle.tks_event.specs.declared.pattern.Pattern.{Pattern}
use Rattle.tks_bind.specs.Matching.{fits, may_follow, may_lie_before}
use Rattle.tks_bind.specs.Occurs.{EndsAt, turned, Occurs}
use Rattle.tks_bind.specs.Search.{MayBegin, Precedes, Joins, Tells}
use Rattle.tks_bind.proofs.Begun.{begins, begun, may_begin, has_begun}

-- ---- places

-- what stands at a place that the code read
pub stands_at : {X : Type 0} (xs : List X) (n : ℕ) (x : X) → n < length xs → x ≡ get_or xs n x → slice_get xs n ≡ Some x
stands_at xs n x h e = slice_get-get_or xs n x h ∙ ap (λ y. Some y) (sym e)

one_event : (o : Option Event) (x y : Event) → o ≡ Some x → o ≡ Some y → x ≡ y
one_event o x y e f = let g : ◌≡◌ {A = Option Event} (Some x) (Some y) = sym e ∙ f in cc

never_true : (b : Bool) → b ≡ true → b ≡ false → ⊥
never_true b h k = let g : true ≡ false = sym h ∙ k in cc

set_at : (row : List Bool) (n : ℕ) (b : Bool) → n < length row → get_or (slice_set row n b) n false ≡ b
set_at [] n b h = absurd (omega arith)
set_at (c ∷ row) zero b h = refl
set_at (c ∷ row) (suc n) b h = set_at row n b (omega arith)

set_elsewhere : (row : List Bool) (n k : ℕ) (b : Bool) → k ≢ n → get_or (slice_set row n b) k false ≡ get_or row k false
set_elsewhere [] n k b h = refl
set_elsewhere (c ∷ row) zero zero b h = absurd (h refl)
set_elsewhere (c ∷ row) zero (suc k) b h = refl
set_elsewhere (c ∷ row) (suc n) zero b h = refl
set_elsewhere (c ∷ row) (suc n) (suc k) b h = set_elsewhere row n k b (λ e. h (ap (λ m. suc m) e))

same_place : (k n : ℕ) → (k ≡ n) ⊎ (k ≢ n)
same_place k n = by (k == n) (Decides-eqb k n)
  where
    by : (b : Bool) → Decides b (k ≡ n) → (k ≡ n) ⊎ (k ≢ n)
    by true d = inl (d.0 refl)
    by false d = inr (λ e. let g : false ≡ true = d.1 e in cc)

-- ---- going back from a chosen event

-- from a place on, one may be chosen before that of a place
abbrev pub PrecedesFrom : Pattern → Pattern → List Event → ℕ → ℕ → ℕ → Type 0
PrecedesFrom earlier later history place from n = (from ≤ n) × Precedes earlier later history n place

-- all from there on may lie before it
abbrev pub Clear : List Event → ℕ → Event → ℕ → Type 0
Clear history place e from = (k : ℕ) (b : Event) → from ≤ k → k < place → slice_get history k ≡ Some b → may_lie_before e b ≡ true

module _ (earlier later : Pattern) (history : List Event) (place : ℕ) (e : Event) (stands : slice_get history place ≡ Some e) where
  abbrev So : ℕ → Type 0
  So n = Precedes earlier later history n place

  abbrev Since : ℕ → ℕ → Type 0
  Since from n = PrecedesFrom earlier later history place from n

  abbrev IsClear : ℕ → Type 0
  IsClear from = Clear history place e from

  pub none_yet : (row : List Bool) → Joins row row (Since place)
  none_yet row = record { from = λ n h. inl h; stays = λ n h. h; joins = λ n s. absurd (let low = s.1.4.rises in let high = s.0 in omega (arith, low, high)) }

  pub clear_yet : IsClear place
  clear_yet k b low high s = absurd (omega arith)

  -- the event at a place is chosen before it, or not
  chosen_so : (k : ℕ) (d : Event) → k < place → slice_get history k ≡ Some d → IsClear (suc k) → Decides (fits earlier d && may_follow later d e) (So k)
  chosen_so k d low at clear = (to, from)
    where
      to : (fits earlier d && may_follow later d e) ≡ true → So k
      to h = let two = both (fits earlier d) (may_follow later d e) h in (
        d,
        e,
        record { stands = at; fits = two.0 },
        stands,
        record { rises = low; stands = at; may_follow = two.1; between = λ m b above below s. clear m b (omega arith) below s },
      )

      from : So k → (fits earlier d && may_follow later d e) ≡ true
      from (c, b, fit, there, follows) =
          let its = one_event (slice_get history k) c d fit.stands at in
          let same = one_event (slice_get history place) b e there stands in
          let fitting : fits earlier d ≡ true = subst (λ x. fits earlier x ≡ true) its fit.fits in
          let following : may_follow later d e ≡ true = subst (λ x. may_follow later d x ≡ true) same (subst (λ x. may_follow later x b ≡ true) its follows.may_follow) in
          rw (fitting, following) refl

  note_next : (row before : List Bool) (k : ℕ) (d : Event) → k < length row → k < place → slice_get history k ≡ Some d → IsClear (suc k) → Joins before row (Since (suc k))
      → (b : Bool) → b ≡ (get_or row k false || (fits earlier d && may_follow later d e)) → Joins before (slice_set row k b) (Since k)
  note_next row before k d inside low at clear joined b is = record { from = from; stays = stays; joins = joins }
    where
      so : Decides (fits earlier d && may_follow later d e) (So k)
      so = chosen_so k d low at clear

      new : get_or (slice_set row k b) k false ≡ (get_or row k false || (fits earlier d && may_follow later d e))
      new = set_at row k b inside ∙ is

      wider : (n : ℕ) → (get_or before n false ≡ true) ⊎ Since (suc k) n → (get_or before n false ≡ true) ⊎ Since k n
      wider n (inl h) = inl h
      wider n (inr s) = inr (let l = s.0 in omega arith, s.1)

      at_k : (x y : Bool) → get_or row k false ≡ x → (fits earlier d && may_follow later d e) ≡ y → (x || y) ≡ true → (get_or before k false ≡ true) ⊎ Since k k
      at_k true y f g h = wider k (joined.from k f)
      at_k false true f g h = inr (omega arith, so.0 g)
      at_k false false f g h = absurd (let l : false ≡ true = h in cc)

      from : (n : ℕ) → get_or (slice_set row k b) n false ≡ true → (get_or before n false ≡ true) ⊎ Since k n
      from n h = by (same_place n k)
        where
          by : (n ≡ k) ⊎ (n ≢ k) → (get_or before n false ≡ true) ⊎ Since k n
          by (inl same) =
              subst (λ m. (get_or before m false ≡ true) ⊎ Since k m) (sym same) (
              at_k (get_or row k false) (fits earlier d && may_follow later d e) refl refl (sym new ∙ subst (λ m. get_or (slice_set row k b) m false ≡ true) same h)
              )
          by (inr other) = wider n (joined.from n (sym (set_elsewhere row k n b other) ∙ h))

      either : (x y : Bool) → (x ≡ true) ⊎ (y ≡ true) → (x || y) ≡ true
      either true y h = refl
      either false y (inl h) = absurd (let l : false ≡ true = h in cc)
      either false y (inr h) = h

      there : (n : ℕ) → (get_or row n false ≡ true) ⊎ (n ≡ k) × So n → get_or (slice_set row k b) n false ≡ true
      there n h = by (same_place n k) h
        where
          by : (n ≡ k) ⊎ (n ≢ k) → (get_or row n false ≡ true) ⊎ (n ≡ k) × So n → get_or (slice_set row k b) n false ≡ true
          by (inl same) (inl f) =
              subst (λ m. get_or (slice_set row k b) m false ≡ true) (sym same)
              (new ∙ either (get_or row k false) (fits earlier d && may_follow later d e) (inl (subst (λ m. get_or row m false ≡ true) same f)))
          by (inl same) (inr s) =
              subst (λ m. get_or (slice_set row k b) m false ≡ true) (sym same)
              (new ∙ either (get_or row k false) (fits earlier d && may_follow later d e) (inr (so.1 (subst So same s.1))))
          by (inr other) (inl f) = set_elsewhere row k n b other ∙ f
          by (inr other) (inr s) = absurd (other s.0)

      stays : (n : ℕ) → get_or before n false ≡ true → get_or (slice_set row k b) n false ≡ true
      stays n h = there n (inl (joined.stays n h))

      joins : (n : ℕ) → Since k n → get_or (slice_set row k b) n false ≡ true
      joins n s = by (same_place n k)
        where
          by : (n ≡ k) ⊎ (n ≢ k) → get_or (slice_set row k b) n false ≡ true
          by (inl same) = there n (inr (same, s.1))
          by (inr other) = let low = s.0 in there n (inl (joined.joins n (omega (arith, low, other), s.1)))

  clear_next : (k : ℕ) (d : Event) → slice_get history k ≡ Some d → may_lie_before e d ≡ true → IsClear (suc k) → IsClear k
  clear_next k d at may clear m b low high s = by (same_place m k)
    where
      by : (m ≡ k) ⊎ (m ≢ k) → may_lie_before e b ≡ true
      by (inl same) = subst (λ x. may_lie_before e x ≡ true) (one_event (slice_get history k) d b at (subst (λ i. slice_get history i ≡ Some b) same s)) may
      by (inr other) = clear m b (omega (arith, other)) high s

  -- one further back is noted where it may be chosen
  pub note_back : (row before : List Bool) (from k : ℕ) (d : Event) → from ≡ suc k → from ≤ length row → from ≤ place → slice_get history k ≡ Some d → IsClear from → Joins before row (Since from)
      → (b : Bool) → b ≡ (fits earlier d && may_follow later d e) → Joins before (slice_set row k (get_or row k false || b)) (Since k)
  note_back row before from k d back inside low at clear joined b is =
      note_next row before k d (omega (arith, back, inside)) (omega (arith, back, low)) at (subst IsClear back clear) (subst (λ f. Joins before row (Since f)) back joined)
      (get_or row k false || b) (ap (λ c. get_or row k false || c) is)

  -- and all from it on are clear where it may lie between
  pub clear_back : (from k : ℕ) (d : Event) → from ≡ suc k → slice_get history k ≡ Some d → may_lie_before e d ≡ true → IsClear from → IsClear k
  clear_back from k d back at may clear = clear_next k d at may (subst IsClear back clear)

  -- none before an event that may not lie between is chosen
  pub stopped : (row before : List Bool) (k : ℕ) (d : Event) → k < place → slice_get history k ≡ Some d → may_lie_before e d ≡ false → Joins before row (Since k) → Joins before row So
  stopped row before k d low at may joined = record { from = λ n h. narrow n (joined.from n h); stays = joined.stays; joins = λ n s. joined.joins n (above n s, s) }
    where
      narrow : (n : ℕ) → (get_or before n false ≡ true) ⊎ Since k n → (get_or before n false ≡ true) ⊎ So n
      narrow n (inl h) = inl h
      narrow n (inr s) = inr s.1

      above : (n : ℕ) → So n → k ≤ n
      above n (c, b, fit, there, follows) = by (same_or_below k n)
        where
          same_or_below : (i j : ℕ) → (i ≤ j) ⊎ (j < i)
          same_or_below zero j = inl (omega arith)
          same_or_below (suc i) zero = inr (omega arith)
          same_or_below (suc i) (suc j) = more (same_or_below i j)
            where
              more : (i ≤ j) ⊎ (j < i) → (suc i ≤ suc j) ⊎ (suc j < suc i)
              more (inl h) = inl (omega arith)
              more (inr h) = inr (omega arith)

          by : (k ≤ n) ⊎ (n < k) → k ≤ n
          by (inl h) = h
          by (inr h) =
              let may_so = follows.between k d h low at in
              let same = one_event (slice_get history place) b e there stands in
              absurd (never_true (may_lie_before e d) (subst (λ x. may_lie_before x d ≡ true) same may_so) may)

  pub all_noted : (row before : List Bool) → Joins before row (Since 0) → Joins before row So
  all_noted row before joined = record { from = λ n h. narrow n (joined.from n h); stays = joined.stays; joins = λ n s. joined.joins n (omega arith, s) }
    where
      narrow : (n : ℕ) → (get_or before n false ≡ true) ⊎ Since 0 n → (get_or before n false ≡ true) ⊎ So n
      narrow n (inl h) = inl h
      narrow n (inr s) = inr s.1

-- ---- rows

-- a row in which nothing is noted
abbrev pub clean : List Bool
clean =
    false ∷ false ∷ false ∷ false ∷ false ∷ false ∷ false ∷ false ∷ false ∷ false ∷ false ∷ false ∷ false ∷ false ∷ false ∷ false ∷ false ∷ false ∷ false ∷ false ∷ false ∷ false ∷ false ∷ false ∷ false ∷ false ∷ false ∷ false ∷ false ∷ false ∷ false ∷ false ∷ []

all_clean : (row : List Bool) → list_all not row ≡ true → (n : ℕ) → get_or row n false ≡ false
all_clean [] h n = refl
all_clean (b ∷ row) h zero = by b (both (not b) (list_all not row) h).0
  where
    by : (b : Bool) → not b ≡ true → b ≡ false
    by true h = absurd (let g : false ≡ true = h in cc)
    by false h = refl
all_clean (b ∷ row) h (suc n) = all_clean row (both (not b) (list_all not row) h).1 n

pub none_in_clean : (n : ℕ) → get_or clean n false ≡ false
none_in_clean n = all_clean clean refl n

module _ (earlier later : Pattern) (history : List Event) (behind : List Bool) where
  -- an event of a row below a place, and one before it
  abbrev pub Before : ℕ → ℕ → Type 0
  Before count n = (place : ℕ) × (place < count) × (get_or behind place false ≡ true) × Precedes earlier later history n place

  pub none_before : (n : ℕ) → Decides (get_or clean n false) (Before 0 n)
  none_before n = (λ h. absurd (never_true (get_or clean n false) h (none_in_clean n)), λ b. absurd (let l = b.1 in omega (arith, l)))

  pub one_noted : (row after : List Bool) (place : ℕ) → get_or behind place false ≡ true → ((n : ℕ) → Decides (get_or row n false) (Before place n))
      → Joins row after (λ n. Precedes earlier later history n place) → (n : ℕ) → Decides (get_or after n false) (Before (place + 1) n)
  one_noted row after place set told joined n = (λ h. to (joined.from n h), from)
    where
      to : (get_or row n false ≡ true) ⊎ Precedes earlier later history n place → Before (place + 1) n
      to (inl h) = let b = (told n).0 h in (b.0, let l = b.1 in omega arith, b.2, b.3)
      to (inr p) = (place, omega arith, set, p)

      from : Before (place + 1) n → get_or after n false ≡ true
      from (k, low, is, p) = by (same_place k place)
        where
          by : (k ≡ place) ⊎ (k ≢ place) → get_or after n false ≡ true
          by (inl same) = joined.joins n (subst (λ i. Precedes earlier later history n i) same p)
          by (inr other) = joined.stays n ((told n).1 (k, omega (arith, other), is, p))

  pub none_noted : (row : List Bool) (place : ℕ) → get_or behind place false ≡ false → ((n : ℕ) → Decides (get_or row n false) (Before place n))
      → (n : ℕ) → Decides (get_or row n false) (Before (place + 1) n)
  none_noted row place unset told n = (λ h. let b = (told n).0 h in (b.0, let l = b.1 in omega arith, b.2, b.3), from)
    where
      from : Before (place + 1) n → get_or row n false ≡ true
      from (k, low, is, p) = by (same_place k place)
        where
          by : (k ≡ place) ⊎ (k ≢ place) → get_or row n false ≡ true
          by (inl same) = absurd (never_true (get_or behind place false) (subst (λ i. get_or behind i false ≡ true) same is) unset)
          by (inr other) = (told n).1 (k, omega (arith, other), is, p)

  pub row_told : (row : List Bool) (rest : List Pattern) → Tells behind later rest history → ((n : ℕ) → Decides (get_or row n false) (Before (length history) n))
      → Tells row earlier (later ∷ rest) history
  row_told row rest told before n = (λ h. may_begin history earlier later rest n (to ((before n).0 h)), λ m. (before n).1 (from (has_begun history earlier later rest n m)))
    where
      to : Before (length history) n → (place : ℕ) × MayBegin later rest history place × Precedes earlier later history n place
      to (k, low, is, p) = (k, (told k).0 is, p)

      from : (place : ℕ) × MayBegin later rest history place × Precedes earlier later history n place → Before (length history) n
      from (k, m, p) = (k, inside history k m.0 m.1.stands, (told k).1 m, p)
        where
          inside : (h : List Event) (i : ℕ) (x : Event) → slice_get h i ≡ Some x → i < length h
          inside [] i x f = absurd (let g : ◌≡◌ {A = Option Event} None (Some x) = f in cc)
          inside (y ∷ h) zero x f = omega arith
          inside (y ∷ h) (suc i) x f = let l = inside h i x f in omega arith

pub last_told : (row : List Bool) (p : Pattern) (history : List Event) (e : Event) (b : Bool) → length history - 1 < length row → 0 < length history
    → slice_get history (length history - 1) ≡ Some e → b ≡ fits p e → ((n : ℕ) → get_or row n false ≡ false) → Tells (slice_set row (length history - 1) b) p [] history
last_told row p history e b inside some stands is none n = by (same_place n (length history - 1))
  where
    by : (n ≡ length history - 1) ⊎ (n ≢ length history - 1) → Decides (get_or (slice_set row (length history - 1) b) n false) (MayBegin p [] history n)
    by (inl same) = (
      λ h.
          let fit : fits p e ≡ true = sym is ∙ (sym (set_at row (length history - 1) b inside) ∙ subst (λ m. get_or (slice_set row (length history - 1) b) m false ≡ true) same h) in
          (e, record { stands = subst (λ m. slice_get history m ≡ Some e) (sym same) stands; fits = fit }, same),
      λ m.
          let its = one_event (slice_get history n) m.0 e m.1.stands (subst (λ k. slice_get history k ≡ Some e) (sym same) stands) in
          subst (λ k. get_or (slice_set row (length history - 1) b) k false ≡ true) (sym same) (set_at row (length history - 1) b inside ∙ (is ∙ subst (λ x. fits p x ≡ true) its m.1.fits)),
    )
    by (inr other) = (
      λ h. absurd (never_true (get_or (slice_set row (length history - 1) b) n false) h (set_elsewhere row (length history - 1) n b other ∙ none n)),
      λ m. absurd (other m.2),
    )

-- ---- sequences

pub past_end : {X : Type 0} (xs : List X) (n : ℕ) → length xs ≤ n → drop n xs ≡ []
past_end [] zero h = refl
past_end [] (suc n) h = refl
past_end (x ∷ xs) zero h = absurd (omega arith)
past_end (x ∷ xs) (suc n) h = past_end xs n (omega arith)

whole : (ps : List Pattern) (p : Pattern) → slice_get ps 0 ≡ Some p → p ∷ drop 1 ps ≡ ps
whole [] p e = absurd (let g : ◌≡◌ {A = Option Pattern} None (Some p) = e in cc)
whole (q ∷ ps) p e = let g : ◌≡◌ {A = Option Pattern} (Some q) (Some p) = e in let same : q ≡ p = cc in ap (λ x. x ∷ ps) (sym same)

-- nothing occurs in a history without a last event
pub none_occurs : (sequence : List Pattern) (history : List Event) → slice_get history (length history - 1) ≡ None → ¬ Occurs sequence history
none_occurs sequence history none o = by (turned sequence []) o
  where
    by : (ps : List Pattern) → EndsAt ps history (length history - 1) → ⊥
    by [] k = k
    by (p ∷ ps) k = let g : ◌≡◌ {A = Option Event} None (Some k.0) = sym none ∙ k.1.stands in cc

-- ---- both ends

begins_so : (row : List Bool) (first : Pattern) (rest : List Pattern) (history : List Event) (b : Bool) → Tells row first rest history
    → Decides b ((n : ℕ) × (get_or row n false ≡ true)) → Decides b (Occurs (first ∷ rest) history)
begins_so row first rest history b told any = (λ h. let r = any.0 h in begun history first rest (r.0, (told r.0).0 r.1), λ o. let r = begins history first rest o in any.1 (r.0, (told r.0).1 r.1))

pub occurs_by : (row : List Bool) (sequence : List Pattern) (first : Pattern) (history : List Event) (b : Bool) → slice_get sequence 0 ≡ Some first → Tells row first (drop 1 sequence) history
    → Decides b ((n : ℕ) × (get_or row n false ≡ true)) → Decides b (Occurs sequence history)
occurs_by row sequence first history b is told any = subst (λ ps. Decides b (Occurs ps history)) (whole sequence first is) (begins_so row first (drop 1 sequence) history b told any)

pub same_decided : {P : Type 0} (a b : Bool) → Decides a P → Decides b P → a ≡ b
same_decided true true d e = refl
same_decided true false d e = sym (e.1 (d.0 refl))
same_decided false true d e = d.1 (e.0 refl)
same_decided false false d e = refl
