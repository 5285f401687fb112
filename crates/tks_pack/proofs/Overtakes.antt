-- Which note asks for the most.
use Rattle.std.proofs.Common.{◌≡◌, ◌≢◌, inl, inr, ℕ, suc, ◌+◌, ◌-◌, ◌*◌, ◌/◌, ◌<◌, ◌≤◌, max, List, length, drop, get_or, set, sym, ap, subst, ◌∙◌, arith, drop_of_length-le}
use Rattle.std.proofs.lemmas.Bool.{cases_lt}
use Rattle.std.proofs.lemmas.List.{get_or-set_same, get_or-set_other}
use Rattle.std.proofs.Math.ListN.{length-set}
use native.Mathlib.Nat.{le-div_iff_mul-le, mul-add}
use Rattle.tks_pack.specs.declared.note.Note.{Note}
use Rattle.tks_pack.specs.declared.overtaking.Overtaking.{Overtaking}
use Rattle.tks_pack.specs.Requests.{too_long}
use Rattle.tks_pack.specs.Notes.{asked_with, no_note, most_asked, Overtaken, no_overtaking, AreOvertaken}
use Rattle.tks_pack.proofs.Noted.{first_most, most_behind, one_asks}

-- ---- two notes

-- b is c more than a, and grows more slowly by d
module _ (n m : Note) (slower : n.sharing < m.sharing) (less : m.asked ≤ n.asked) where
  abbrev Faster : ℕ
  Faster = m.sharing - n.sharing

  split : (x : ℕ) → x * m.sharing ≡ x * n.sharing + x * Faster
  split x = let e : m.sharing ≡ n.sharing + Faster = omega arith in ap (λ k. x * k) e ∙ mul-add x n.sharing Faster

  pub not_yet : (x : ℕ) → x < (n.asked - m.asked) / Faster + 1 → asked_with x m ≤ asked_with x n
  not_yet x h =
      let k : x * Faster ≤ n.asked - m.asked = (le-div_iff_mul-le {k = Faster} {x = x} {y = n.asked - m.asked} (omega arith)).0 (omega arith) in
      let e : x * m.sharing ≡ x * n.sharing + x * Faster = split x in
      omega arith

  pub then_more : (x : ℕ) → (n.asked - m.asked) / Faster + 1 ≤ x → asked_with x n < asked_with x m
  then_more x h =
      elim (cases_lt (n.asked - m.asked) (x * Faster)) as (λ _. asked_with x n < asked_with x m) [
        | inl p ↦ let e : x * m.sharing ≡ x * n.sharing + x * Faster = split x in omega arith
        | inr p ↦
            let k : x ≤ (n.asked - m.asked) / Faster = (le-div_iff_mul-le {k = Faster} {x = x} {y = n.asked - m.asked} (omega arith)).1 p in
            absurd (omega arith)
      ]

-- ---- one note after the other, from behind

-- the note at i or those from k on ask for the most
pub record OneOf (i k : ℕ) (ns : List Note) : Type 0 where
  pub later : i < k
  pub inside : k < length ns
  pub most : (x : ℕ) → x < too_long → most_asked x (drop i ns) ≡ max (asked_with x (get_or ns i no_note)) (most_asked x (drop k ns))

-- up to these cells the note at i asks for as much as that at k, and then for less
pub record Until (i k from : ℕ) (ns : List Note) : Type 0 where
  pub small : from ≤ too_long
  pub before : (x : ℕ) → x < from → asked_with x (get_or ns k no_note) ≤ asked_with x (get_or ns i no_note)
  pub after : (x : ℕ) → from ≤ x → x < too_long → asked_with x (get_or ns i no_note) < asked_with x (get_or ns k no_note)

pub begins : (i k : ℕ) (ns : List Note) → k ≡ suc i → k < length ns → OneOf i k ns
begins i k ns e h = record {
  later = omega arith;
  inside = h;
  most = λ x small. rw e (first_most x ns i (omega arith));
}

-- the note at k is overtaken before it overtakes that at i
pub goes : (i k from : ℕ) (ns : List Note) (o : Overtaking) → OneOf i k ns → Until i k from ns → Overtaken k ns o → o.from < from → OneOf i o.by ns
goes i k from ns o one until over h =
    let later : k < o.by = let s = until.small in over.later (omega arith) in
    let j = one.later in
    record {
      later = omega arith;
      inside = over.inside;
      most = λ x small. elim (cases_lt x o.from) as (λ _. most_asked x (drop i ns) ≡ max (asked_with x (get_or ns i no_note)) (most_asked x (drop o.by ns))) [
        | inl p ↦
            let a : most_asked x (drop k ns) ≡ asked_with x (get_or ns k no_note) = over.before x p in
            let b : asked_with x (get_or ns k no_note) ≤ asked_with x (get_or ns i no_note) = until.before x (omega arith) in
            let c : most_asked x (drop o.by ns) ≤ most_asked x (drop k ns) = most_behind x ns k o.by (omega arith) in
            let d : most_asked x (drop i ns) ≡ max (asked_with x (get_or ns i no_note)) (most_asked x (drop k ns)) = one.most x small in
            omega arith
        | inr p ↦ one.most x small ∙ ap (λ m. max (asked_with x (get_or ns i no_note)) m) (over.after x p small)
      ];
    }

pub ends : (i k from : ℕ) (ns : List Note) (o : Overtaking) → OneOf i k ns → Until i k from ns → Overtaken k ns o → from ≤ o.from → Overtaken i ns (record { from = from; by = k })
ends i k from ns o one until over h = record {
  inside = one.inside;
  later = λ p. one.later;
  before = λ x p.
      let s = until.small in
      let a : most_asked x (drop k ns) ≡ asked_with x (get_or ns k no_note) = over.before x (omega arith) in
      let b : asked_with x (get_or ns k no_note) ≤ asked_with x (get_or ns i no_note) = until.before x p in
      let d : most_asked x (drop i ns) ≡ max (asked_with x (get_or ns i no_note)) (most_asked x (drop k ns)) = one.most x (omega arith) in
      omega arith;
  after = λ x p small.
      let a : asked_with x (get_or ns k no_note) ≤ most_asked x (drop k ns) = one_asks x ns k one.inside in
      let b : asked_with x (get_or ns i no_note) < asked_with x (get_or ns k no_note) = until.after x p small in
      let d : most_asked x (drop i ns) ≡ max (asked_with x (get_or ns i no_note)) (most_asked x (drop k ns)) = one.most x small in
      omega arith;
}

-- ---- all of them

-- the last one is never overtaken
pub last_stays : (ns : List Note) (last : ℕ) → length ns ≡ suc last → Overtaken last ns (record { from = too_long; by = last })
last_stays ns last e = record {
  inside = omega arith;
  later = λ p. absurd (omega arith);
  before = λ x p.
      let a : most_asked x (drop last ns) ≡ max (asked_with x (get_or ns last no_note)) (most_asked x (drop (suc last) ns)) = first_most x ns last (omega arith) in
      let short : length ns ≤ suc last = omega arith in
      let b : most_asked x (drop (suc last) ns) ≡ 0 = ap (most_asked x) (drop_of_length-le ns short) in
      omega arith;
  after = λ x p small. absurd (omega arith);
}

pub one_more : (i : ℕ) (ns : List Note) (os : List Overtaking) (o : Overtaking) → i < length ns → AreOvertaken (suc i) ns os → Overtaken i ns o → AreOvertaken i ns (set os i o)
one_more i ns os o h known over = record {
  all = length-set os i o ∙ known.all;
  each = λ k p q. elim (cases_lt i k) as (λ _. Overtaken k ns (get_or (set os i o) k no_overtaking)) [
    | inl later ↦
        let other : k ≢ i = λ same. absurd (omega arith) in
        subst (Overtaken k ns) (sym (get_or-set_other os i k o no_overtaking other)) (known.each k (omega arith) q)
    | inr here ↦
        let same : k ≡ i = omega arith in
        let inside : i < length os = let e = known.all in omega arith in
        rw same (subst (Overtaken i ns) (sym (get_or-set_same os i o no_overtaking inside)) over)
  ];
}
