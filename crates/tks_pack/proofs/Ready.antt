-- Shares from the first to the last.
use Rattle.std.proofs.Common.{◌≡◌, ◌⊎◌, inl, inr, ℕ, suc, ◌+◌, ◌-◌, ◌*◌, ◌/◌, ◌<◌, ◌≤◌, min, max, Bool, true, false, if◌then◌else◌, List, [], ◌∷◌, length, drop, get_or, refl, sym, ap, subst, ◌∙◌, arith, drop-cons}
use Rattle.std.proofs.lemmas.Bool.{cases_lt}
use Rattle.std.proofs.lemmas.List.{get_or_default}
use Rattle.std.proofs.lemmas.Nat.{mul-le}
use native.Mathlib.Nat.{le-div_iff_mul-le, mul-add}
use Rattle.tks_opt.specs.declared.alignment.Alignment.TheVariants as at
use Rattle.tks_pack.specs.declared.line.Span.{Span}
use Rattle.tks_pack.specs.declared.note.Note.{Note}
use Rattle.tks_pack.specs.declared.overtaking.Overtaking.{Overtaking}
use Rattle.tks_pack.specs.declared.share.Shares.{Shares}
use Rattle.tks_pack.specs.declared.stretch.Edge.{Edge}
use Rattle.tks_pack.specs.declared.stretch.Edge.TheVariants as edge
use Rattle.tks_pack.specs.declared.stretch.Stretch.{Stretch}
use Rattle.tks_pack.specs.Stretch.{lies_along, takes_share, outer}
use Rattle.tks_pack.specs.Packer.{more, least, share, first_share, behind}
use Rattle.tks_pack.specs.Requests.{request_with, too_long}
use Rattle.tks_pack.specs.Notes.{asked_with, no_note, no_overtaking, notes, most_asked, Overtaken}
use Rattle.tks_pack.specs.Shares.{left_behind, Passed, AreReady}
use Rattle.tks_pack.proofs.Fitting.{kept, most_that_fits}
use Rattle.tks_pack.proofs.Noted.{first_most, most_behind, one_asks, most_at, notes_length, more_behind}

-- ---- a share by two notes

module _ (n m : Note) (r q : ℕ) (asked : n.asked ≤ m.asked) (more_share : n.sharing < m.sharing) (e : q ≡ (r - (m.asked - n.asked)) / (m.sharing - n.sharing)) where
  split : (x : ℕ) → x * m.sharing ≡ x * n.sharing + x * (m.sharing - n.sharing)
  split x = let s : m.sharing ≡ n.sharing + (m.sharing - n.sharing) = omega arith in ap (λ k. x * k) s ∙ mul-add x n.sharing (m.sharing - n.sharing)

  pub still_fits : (x : ℕ) → 1 ≤ x → x ≤ q → asked_with x m ≤ r + asked_with x n
  still_fits x one h =
      let c : ℕ = m.sharing - n.sharing in
      let left : ℕ = r - (m.asked - n.asked) in
      let k : x * c ≤ left = (le-div_iff_mul-le {k = c} {x = x} {y = left} (omega arith)).0 (omega arith) in
      let p : 1 * 1 ≤ x * c = mul-le 1 1 x c one (omega arith) in
      let s : x * m.sharing ≡ x * n.sharing + x * c = split x in
      omega arith

  pub too_much : (x : ℕ) → q < x → r + asked_with x n < asked_with x m
  too_much x h =
      let c : ℕ = m.sharing - n.sharing in
      let left : ℕ = r - (m.asked - n.asked) in
      elim (cases_lt left (x * c)) as (λ _. r + asked_with x n < asked_with x m) [
        | inl p ↦ let s : x * m.sharing ≡ x * n.sharing + x * c = split x in omega arith
        | inr p ↦ let k : x ≤ left / c = (le-div_iff_mul-le {k = c} {x = x} {y = left} (omega arith)).1 p in absurd (omega arith)
      ]

-- ---- the share of the content at i, in a cavity of length r

module _ {l : List Stretch} {i r : ℕ} {shares : Shares} (ready : AreReady i r l shares) (d : Stretch) (inside : i < length l) (takes : takes_share (get_or l i d) ≡ true) where
  abbrev ns : List Note
  ns = shares.notes.items

  abbrev Here : Note
  Here = get_or ns i no_note

  asks : (x : ℕ) → most_asked x (drop i ns) ≡ asked_with x Here + request_with x (drop i l)
  asks x = rw ready.notes (most_at x no_note l i d inside takes)

  pub in_notes : (k : ℕ) → k ≤ length l → k < length ns
  in_notes k h = let n : length (notes no_note l) ≡ suc (length l) = notes_length no_note l in rw ready.notes (omega arith)

  -- a note behind asks for no less, and more share there
  pub less : (k : ℕ) → i < k → k ≤ length l → (Here.asked ≤ (get_or ns k no_note).asked) × (Here.sharing < (get_or ns k no_note).sharing)
  less k later h = rw ready.notes (more_behind no_note l i k d inside later (rw ready.notes at (in_notes k h)) takes)

  -- the next note counts, since what is noted at the content itself is no more
  pub next_counts : (k : ℕ) → k ≡ suc i → Passed i k r l ns
  next_counts k e = record {
    each = λ x one small. inl (
        let some : suc i < length ns = in_notes (suc i) (omega arith) in
        let a : most_asked x (drop i ns) ≡ max (asked_with x Here) (most_asked x (drop (suc i) ns)) = first_most x ns i (omega arith) in
        let b : asked_with x (get_or ns (suc i) no_note) ≤ most_asked x (drop (suc i) ns) = one_asks x ns (suc i) some in
        let c : (Here.asked ≤ (get_or ns (suc i) no_note).asked) × (Here.sharing < (get_or ns (suc i) no_note).sharing) = less (suc i) (omega arith) (omega arith) in
        let m : x * Here.sharing ≤ x * (get_or ns (suc i) no_note).sharing = let s = c.1 in mul-le x Here.sharing x (get_or ns (suc i) no_note).sharing (omega arith) (omega arith) in
        let n = c.0 in
        let f : most_asked x (drop i ns) ≡ most_asked x (drop (suc i) ns) = omega arith in
        rw e f
        );
  }

  -- those that were passed over before, and the next one
  pub first_counts : (k : ℕ) → k ≡ max shares.first (i + 1) → Passed i k r l ns
  first_counts k e = elim (cases_lt i shares.first) as (λ _. Passed i k r l ns) [
    | inl p ↦ let same : k ≡ shares.first = omega arith in rw same (ready.passed p)
    | inr p ↦ next_counts k (omega arith)
  ]

  -- the notes as the code reads them
  module _ (n m : Note) (k : ℕ) (en : n ≡ get_or ns i n) (em : m ≡ get_or ns k m) (later : i < k) (in_list : k ≤ length l) where
    here : n ≡ Here
    here = en ∙ get_or_default ns i n no_note (in_notes i (omega arith))

    there : m ≡ get_or ns k no_note
    there = em ∙ get_or_default ns k m no_note (in_notes k in_list)

    pub less_read : (n.asked ≤ m.asked) × (n.sharing < m.sharing)
    less_read = rw (here, there) (less k later in_list)

    module _ (q : ℕ) (o : Overtaking) (value : q ≡ (r - (m.asked - n.asked)) / (m.sharing - n.sharing)) (eo : o ≡ get_or shares.overtakings.items k o) (passed : Passed i k r l ns) where
      in_overtakings : k < length shares.overtakings.items
      in_overtakings = rw ready.overtakings.all (in_notes k in_list)

      pub over : Overtaken k ns o
      over = subst (Overtaken k ns) (get_or_default shares.overtakings.items k no_overtaking o in_overtakings ∙ sym eo) (ready.overtakings.each k (omega arith) (in_notes k in_list))

      pub goes_later : o.from < too_long → (k < o.by) × (o.by ≤ length l)
      goes_later h =
          let n : length ns ≡ suc (length l) = rw ready.notes (notes_length no_note l) in
          let i = over.inside in
          (over.later h, omega arith)

      -- where the note at k asks for the most of those from it on, and for no more than the cavity has, all fits
      fits_there : (x : ℕ) → 1 ≤ x → x ≤ q → x < o.from → most_asked x (drop i ns) ≡ most_asked x (drop k ns) → request_with x (drop i l) ≤ r
      fits_there x one h p same =
          let a : most_asked x (drop k ns) ≡ asked_with x m = rw there (over.before x p) in
          let b : asked_with x m ≤ r + asked_with x n = still_fits n m r q less_read.0 less_read.1 value x one h in
          let c : most_asked x (drop i ns) ≡ asked_with x n + request_with x (drop i l) = rw here (asks x) in
          omega arith

      pub passes : o.from ≤ q → Passed i o.by r l ns
      passes h = record {
        each = λ x one small. elim (passed.each x one small) as (λ _. (most_asked x (drop i ns) ≡ most_asked x (drop o.by ns)) ⊎ (request_with x (drop i l) ≤ r)) [
          | inl same ↦ elim (cases_lt x o.from) as (λ _. (most_asked x (drop i ns) ≡ most_asked x (drop o.by ns)) ⊎ (request_with x (drop i l) ≤ r)) [
            | inl p ↦ inr (fits_there x one (omega arith) p same)
            | inr p ↦ inl (same ∙ over.after x p small)
          ]
          | inr fits ↦ inr fits
        ];
      }

      fits_now : q < o.from → q < too_long → 0 < q → request_with q (drop i l) ≤ r
      fits_now h small one = elim (passed.each q (omega arith) small) as (λ _. request_with q (drop i l) ≤ r) [
        | inl same ↦ fits_there q (omega arith) (omega arith) h same
        | inr fits ↦ fits
      ]

      over_then : r < request_with (q + 1) (drop i l)
      over_then =
          let a : r + asked_with (q + 1) n < asked_with (q + 1) m = too_much n m r q less_read.0 less_read.1 value (q + 1) (omega arith) in
          let b : asked_with (q + 1) m ≤ most_asked (q + 1) (drop k ns) = rw there (one_asks (q + 1) ns k (in_notes k in_list)) in
          let c : most_asked (q + 1) (drop k ns) ≤ most_asked (q + 1) (drop i ns) = most_behind (q + 1) ns i k (omega arith) in
          let e : most_asked (q + 1) (drop i ns) ≡ asked_with (q + 1) n + request_with (q + 1) (drop i l) = rw here (asks (q + 1)) in
          omega arith

      pub is_share : q < o.from → q < too_long → q ≡ first_share r (drop i l)
      is_share h small =
          let cons : drop i l ≡ get_or l i d ∷ drop (suc i) l = drop-cons l i d inside in
          let f : 0 < q → request_with q (get_or l i d ∷ drop (suc i) l) ≤ r = λ p. rw cons at (fits_now h small p) in
          let g : r < request_with (q + 1) (get_or l i d ∷ drop (suc i) l) = rw cons at over_then in
          rw cons (kept q r (get_or l i d) (drop (suc i) l) takes f g)

-- ---- from one content to the next

more_asks_at : (b : Bool) (o m n q p : ℕ) → m ≤ n → q ≤ p → (if b then o + m + q else max o q) ≤ (if b then o + n + p else max o p)
more_asks_at true o m n q p h j = omega arith
more_asks_at false o m n q p h j = omega arith

more_asks : (x y : ℕ) → x ≤ y → (l : List Stretch) → request_with x l ≤ request_with y l
more_asks x y h [] = omega arith
more_asks x y h (s ∷ l) = more_asks_at (lies_along s.edge) (outer s) (x * more s) (y * more s) (request_with x l) (request_with y l) (mul-le x (more s) y (more s) h (omega arith)) (more_asks x y h l)

-- b and e say whether the content lies along the axis and expands, o is what it asks for, z the most that fits, q
-- what the rest asks for with x, and p with z
stays_at : (b e : Bool) (x r o z q p : ℕ) → 1 ≤ x → (x ≤ z → q ≤ p)
    → ((if b then e else false) ≡ true → (x ≤ z) × (o + z * 1 + p ≤ r))
    → (if b then o + x * (if e then 1 else 0) + q else max o q) ≤ r
    → q ≤ (if b then r - min r (o + (if (if b then e else false) then z else 0)) else r)
stays_at true true x r o z q p one mono fits h = let f = fits refl in let f0 = f.0 in let f1 = f.1 in let g : q ≤ p = mono f0 in omega arith
stays_at true false x r o z q p one mono fits h = omega arith
stays_at false e x r o z q p one mono fits h = omega arith

asked_by : (b e : Bool) (x o q r : ℕ) → (if b then e else false) ≡ true → (if b then o + x * (if e then 1 else 0) + q else max o q) ≤ r → o + x * 1 + q ≤ r
asked_by true true x o q r h j = j
asked_by true false x o q r h j = absurd (cc)
asked_by false e x o q r h j = absurd (cc)

stays : (x r : ℕ) (s : Stretch) (rest : List Stretch) → 1 ≤ x → request_with x (s ∷ rest) ≤ r → request_with x rest ≤ left_behind r (s ∷ rest)
stays x r s rest one h =
    let z : ℕ = least (r - outer s) 1 rest in
    stays_at (lies_along s.edge) s.expands x r (outer s) z (request_with x rest) (request_with z rest) one (λ j. more_asks x z j rest) (λ t.
    let a : x ≤ share r s rest = (most_that_fits r x s rest t one).1 h in
    let b : x ≤ z = rw t at a in
    let c : z ≤ share r s rest = rw t (omega arith) in
    (b, asked_by (lies_along s.edge) s.expands z (outer s) (request_with z rest) r t ((most_that_fits r z s rest t (omega arith)).0 c))
    ) h

-- what isn't passed over at a content isn't at the next
pub goes_on : (l : List Stretch) (ns : List Note) (i j k r : ℕ) (d : Stretch) → i < length l → j ≡ suc i → j < k → Passed i k r l ns → Passed j k (left_behind r (drop i l)) l ns
goes_on l ns i j k r d inside e later passed =
    let cons : drop i l ≡ get_or l i d ∷ drop (suc i) l = drop-cons l i d inside in
    record {
      each = λ x one small. elim (passed.each x one small) as (λ _. (most_asked x (drop j ns) ≡ most_asked x (drop k ns)) ⊎ (request_with x (drop j l) ≤ left_behind r (drop i l))) [
        | inl same ↦
            let a : most_asked x (drop j ns) ≤ most_asked x (drop i ns) = most_behind x ns i j (omega arith) in
            let b : most_asked x (drop k ns) ≤ most_asked x (drop j ns) = most_behind x ns j k (omega arith) in
            inl (omega arith)
        | inr fits ↦
            let f : request_with x (get_or l i d ∷ drop (suc i) l) ≤ r = rw cons at fits in
            inr (rw (e, cons) (stays x r (get_or l i d) (drop (suc i) l) one f))
      ];
    }

any : Stretch
any = record { edge = edge.Neither; expands = false; fills = false; alignment = at.Start; requested = 0; inner_padding = 0; padding = 0 }

-- ready for the content behind the one at i
pub ready_behind : {l : List Stretch} {i r : ℕ} {shares : Shares} (first : ℕ) → AreReady i r l shares → i < length l → first ≤ length l
    → (suc i < first → Passed i first r l shares.notes.items) → AreReady (i + 1) (left_behind r (drop i l)) l (record shares { first = first })
ready_behind {l = l} {i = i} {r = r} {shares = shares} first ready inside small passed = record {
  notes = ready.notes;
  overtakings = ready.overtakings;
  inside = small;
  passed = λ later. goes_on l shares.notes.items i (i + 1) first r any inside (omega arith) later (passed (omega arith));
}

-- what is left behind a parcel
behind_length : (e : Edge) (n : ℕ) (cavity : Span) → (behind e n cavity).length ≡ (if lies_along e then cavity.length - n else cavity.length)
behind_length edge.Start n cavity = refl
behind_length edge.End n cavity = refl
behind_length edge.Neither n cavity = refl

pub left_is : (l : List Stretch) (i : ℕ) (d : Stretch) (cavity left : Span) (taken x : ℕ) → i < length l → left ≡ behind (get_or l i d).edge taken cavity
    → taken ≡ min cavity.length (outer (get_or l i d) + x) → x ≡ first_share cavity.length (drop i l) → left_behind cavity.length (drop i l) ≡ left.length
left_is l i d cavity left taken x inside e et ex =
    let cons : drop i l ≡ get_or l i d ∷ drop (suc i) l = drop-cons l i d inside in
    let at : x ≡ share cavity.length (get_or l i d) (drop (suc i) l) = rw cons at ex in
    rw (cons, e, et, at) (sym (behind_length (get_or l i d).edge _ cavity))
