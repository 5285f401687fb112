-- What notes ask for, and what contents do.
use Rattle.std.proofs.Common.{◌≡◌, ℕ, zero, suc, ◌+◌, ◌*◌, ◌<◌, ◌≤◌, max, Bool, true, false, if◌then◌else◌, List, [], ◌∷◌, ◌++◌, length, drop, get_or, refl, sym, ap, ◌∙◌, arith, append_assoc, drop-cons}
use native.Mathlib.Nat.{mul-add}
use Rattle.tks_pack.specs.declared.note.Note.{Note}
use Rattle.tks_pack.specs.declared.stretch.Stretch.{Stretch}
use Rattle.tks_pack.specs.Stretch.{lies_along, takes_share, outer}
use Rattle.tks_pack.specs.Packer.{more}
use Rattle.tks_pack.specs.Requests.{request_with}
use Rattle.tks_pack.specs.Notes.{asked_with, past, note_at, no_note, notes, most_asked, Rise}

-- ---- the most of notes

pub first_most : (x : ℕ) (ns : List Note) (i : ℕ) → i < length ns → most_asked x (drop i ns) ≡ max (asked_with x (get_or ns i no_note)) (most_asked x (drop (suc i) ns))
first_most x [] i h = absurd (omega arith)
first_most x (n ∷ ns) zero h = refl
first_most x (n ∷ ns) (suc i) h = first_most x ns i (omega arith)

less_behind : (x : ℕ) (ns : List Note) (k : ℕ) → most_asked x (drop k ns) ≤ most_asked x ns
less_behind x ns zero = omega arith
less_behind x [] (suc k) = omega arith
less_behind x (n ∷ ns) (suc k) = let h : most_asked x (drop k ns) ≤ most_asked x ns = less_behind x ns k in omega arith

pub most_behind : (x : ℕ) (ns : List Note) (i k : ℕ) → i ≤ k → most_asked x (drop k ns) ≤ most_asked x (drop i ns)
most_behind x ns zero k h = less_behind x ns k
most_behind x ns (suc i) zero h = absurd (omega arith)
most_behind x [] (suc i) (suc k) h = omega arith
most_behind x (n ∷ ns) (suc i) (suc k) h = most_behind x ns i k (omega arith)

pub one_asks : (x : ℕ) (ns : List Note) (i : ℕ) → i < length ns → asked_with x (get_or ns i no_note) ≤ most_asked x (drop i ns)
one_asks x ns i h = let e : most_asked x (drop i ns) ≡ max (asked_with x (get_or ns i no_note)) (most_asked x (drop (suc i) ns)) = first_most x ns i h in omega arith

-- ---- the notes of contents

pub notes_length : (n : Note) (l : List Stretch) → length (notes n l) ≡ suc (length l)
notes_length n [] = refl
notes_length n (s ∷ l) = ap suc (notes_length (past n s) l)

step : (b : Bool) (x : ℕ) (n : Note) (o m q : ℕ) (f : Note → ℕ) → ((k : Note) → f k ≡ asked_with x k + q)
    → max (asked_with x (if b then n else record { asked = n.asked + o; sharing = n.sharing })) (f (if b then record { asked = n.asked + o; sharing = n.sharing + m } else n))
    ≡ asked_with x n + (if b then o + x * m + q else max o q)
step true x n o m q f h =
    let k : Note = record { asked = n.asked + o; sharing = n.sharing + m } in
    let e : f k ≡ n.asked + o + x * (n.sharing + m) + q = h k in
    let both : x * (n.sharing + m) ≡ x * n.sharing + x * m = mul-add x n.sharing m in
    omega arith
step false x n o m q f h = let e : f n ≡ n.asked + x * n.sharing + q = h n in omega arith

pub most_is : (x : ℕ) (n : Note) (l : List Stretch) → most_asked x (notes n l) ≡ asked_with x n + request_with x l
most_is x n [] = omega arith
most_is x n (s ∷ l) = step (lies_along s.edge) x n (outer s) (more s) (request_with x l) (λ m. most_asked x (notes m l)) (λ m. most_is x m l)

-- one content more is noted
pub one_noted : (n m k : Note) (l : List Stretch) (i : ℕ) (d : Stretch) (v w whole : List Note) → i < length l → m ≡ note_at n (get_or l i d) → k ≡ past n (get_or l i d)
    → w ≡ v ++ m ∷ [] → v ++ notes n (drop i l) ≡ whole → w ++ notes k (drop (i + 1) l) ≡ whole
one_noted n m k l i d v w whole h em ek ew e =
    let one : i + 1 ≡ suc i = omega arith in
    let cons : drop i l ≡ get_or l i d ∷ drop (suc i) l = drop-cons l i d h in
    let before : v ++ notes n (get_or l i d ∷ drop (suc i) l) ≡ whole = rw cons at e in
    rw (ew, em, ek, one) (append_assoc v (note_at n (get_or l i d) ∷ []) _ ∙ before)

-- at a content that takes a share

along : (b e : Bool) → (if b then e else false) ≡ true → b ≡ true
along true e h = refl
along false e h = absurd (cc)

noted : (n : Note) (s : Stretch) → takes_share s ≡ true → note_at n s ≡ n
noted n s e = let t : lies_along s.edge ≡ true = along (lies_along s.edge) s.expands e in rw t refl

pub most_at : (x : ℕ) (n : Note) (l : List Stretch) (i : ℕ) (d : Stretch) → i < length l → takes_share (get_or l i d) ≡ true
    → most_asked x (drop i (notes n l)) ≡ asked_with x (get_or (notes n l) i no_note) + request_with x (drop i l)
most_at x n [] i d h e = absurd (omega arith)
most_at x n (s ∷ l) zero d h e = most_is x n (s ∷ l) ∙ ap (λ m. asked_with x m + request_with x (s ∷ l)) (sym (noted n s e))
most_at x n (s ∷ l) (suc i) d h e = most_at x (past n s) l i d (omega arith) e

-- ---- which notes ask for more

-- no less is asked for, and no fewer share
abbrev NoLess : Note → Note → Type 0
NoLess n k = (n.asked ≤ k.asked) × (n.sharing ≤ k.sharing)

after : (n m k : Note) → NoLess n m → NoLess m k → NoLess n k
after n m k h j = let a = h.0 in let b = h.1 in let c = j.0 in let d = j.1 in (omega arith, omega arith)

at_less : (b : Bool) (n : Note) (o : ℕ) → NoLess n (if b then n else record { asked = n.asked + o; sharing = n.sharing })
at_less true n o = (omega arith, omega arith)
at_less false n o = (omega arith, omega arith)

past_less : (b : Bool) (n : Note) (o m : ℕ) → NoLess n (if b then record { asked = n.asked + o; sharing = n.sharing + m } else n)
past_less true n o m = (omega arith, omega arith)
past_less false n o m = (omega arith, omega arith)

same_sharing : (b : Bool) (n : Note) (o m k : ℕ) → (if b then record { asked = n.asked + o; sharing = n.sharing + m } else n).sharing ≤ k → (if b then n else record { asked = n.asked + o; sharing = n.sharing }).sharing ≤ k
same_sharing true n o m k h = omega arith
same_sharing false n o m k h = h

no_less : (n : Note) (l : List Stretch) (k : ℕ) → k < length (notes n l) → NoLess n (get_or (notes n l) k no_note)
no_less n [] zero h = (omega arith, omega arith)
no_less n [] (suc k) h = absurd (omega arith)
no_less n (s ∷ l) zero h = at_less (lies_along s.edge) n (outer s)
no_less n (s ∷ l) (suc k) h = after n (past n s) _ (past_less (lies_along s.edge) n (outer s) (more s)) (no_less (past n s) l k (omega arith))

rising : (n : Note) (l : List Stretch) (i k : ℕ) → i ≤ k → k < length (notes n l) → (get_or (notes n l) i no_note).sharing ≤ (get_or (notes n l) k no_note).sharing
rising n [] zero k h j = (no_less n [] k j).1
rising n [] (suc i) k h j = absurd (omega arith)
rising n (s ∷ l) zero zero h j = omega arith
rising n (s ∷ l) zero (suc k) h j = same_sharing (lies_along s.edge) n (outer s) (more s) _ (no_less (past n s) l k (omega arith)).1
rising n (s ∷ l) (suc i) zero h j = absurd (omega arith)
rising n (s ∷ l) (suc i) (suc k) h j = rising (past n s) l i k (omega arith) (omega arith)

pub notes_rise : (n : Note) (l : List Stretch) → Rise (notes n l)
notes_rise n l = record { sharing = rising n l }

-- more share behind a content that does
abbrev More : Note → Note → Type 0
More n k = (n.asked ≤ k.asked) × (n.sharing < k.sharing)

one_more : (b e : Bool) (n k : Note) (o : ℕ) → (if b then e else false) ≡ true → NoLess (if b then record { asked = n.asked + o; sharing = n.sharing + (if e then 1 else 0) } else n) k
    → More (if b then n else record { asked = n.asked + o; sharing = n.sharing }) k
one_more true true n k o e h = let a = h.0 in let b = h.1 in (omega arith, omega arith)
one_more true false n k o e h = absurd (cc)
one_more false e n k o h j = absurd (cc)

pub more_behind : (n : Note) (l : List Stretch) (i k : ℕ) (d : Stretch) → i < length l → i < k → k < length (notes n l) → takes_share (get_or l i d) ≡ true
    → More (get_or (notes n l) i no_note) (get_or (notes n l) k no_note)
more_behind n [] i k d h j m e = absurd (omega arith)
more_behind n (s ∷ l) i zero d h j m e = absurd (omega arith)
more_behind n (s ∷ l) zero (suc k) d h j m e = one_more (lies_along s.edge) s.expands n _ (outer s) e (no_less (past n s) l k (omega arith))
more_behind n (s ∷ l) (suc i) (suc k) d h j m e = more_behind (past n s) l i k d (omega arith) (omega arith) (omega arith) e
