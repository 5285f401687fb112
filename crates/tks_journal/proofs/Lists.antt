-- What torn and whole writes leave of a list of bytes.
use Rattle.std.proofs.Common.{◌≡◌, ◌<◌, ◌≤◌, inl, inr, ℕ, ◌+◌, ◌-◌, List, ◌∷◌, ◌++◌, length, get_or, take, drop, sym, ◌∙◌, ap, arith, length-append, take-append-drop}
use Rattle.std.proofs.lemmas.Bool.{cases_lt}
use Rattle.std.proofs.lemmas.List.{ext_get_or, drop_more, get_or_append_left, get_or-append_right, length-take, length-drop, get_or-take, get_or-drop, take-take}
use Rattle.tks_disk.specs.DiskModel.{Torn, Holds}

pub torn_front : (at n k : ℕ) (old new : List ℕ) → Torn at n old new → k ≤ at → k ≤ length old → take k new ≡ take k old
torn_front at n k old new torn le in_old = ext_get_or 0 (take k new) (take k old) (omega (arith, length-take k new, length-take k old, torn.no_shorter)) same
  where
    same : (i : ℕ) → i < length (take k new) → get_or (take k new) i 0 ≡ get_or (take k old) i 0
    same i lt =
        let below : i < k = omega (arith, length-take k new) in
        get_or-take k new i 0 below ∙ torn.below i (omega arith) (omega arith) ∙ sym (get_or-take k old i 0 below)

pub torn_back : (at n : ℕ) (old new : List ℕ) → Torn at n old new → at + n ≤ length old → drop (at + n) new ≡ drop (at + n) old
torn_back at n old new torn in_old = ext_get_or 0 (drop (at + n) new) (drop (at + n) old) (omega (arith, length-drop (at + n) new, length-drop (at + n) old, torn.no_shorter, torn.no_longer)) same
  where
    same : (i : ℕ) → i < length (drop (at + n) new) → get_or (drop (at + n) new) i 0 ≡ get_or (drop (at + n) old) i 0
    same i lt =
        get_or-drop (at + n) new i 0 ∙ torn.above (at + n + i) (omega (arith, length-drop (at + n) new, torn.no_longer)) (omega arith) ∙ sym (get_or-drop (at + n) old i 0)

pub wrote_front : (at : ℕ) (bytes old new : List ℕ) → Torn at (length bytes) old new → Holds at bytes old new → at ≤ length old → take (at + length bytes) new ≡ take at old ++ bytes
wrote_front at bytes old new torn holds in_old = ext_get_or 0 (take (at + length bytes) new) (take at old ++ bytes) (omega (arith, length-take (at + length bytes) new, length-take at old, length-append (take at old) bytes, holds.size)) same
  where
    same : (i : ℕ) → i < length (take (at + length bytes) new) → get_or (take (at + length bytes) new) i 0 ≡ get_or (take at old ++ bytes) i 0
    same i lt =
        let within : i < at + length bytes = omega (arith, length-take (at + length bytes) new) in
        let long : length (take at old) ≡ at = omega (arith, length-take at old) in
        get_or-take (at + length bytes) new i 0 within ∙ elim (cases_lt i at) [
          | inl lt_at ↦ torn.below i (omega arith) lt_at ∙ sym (get_or-take at old i 0 lt_at) ∙ sym (get_or_append_left (take at old) bytes 0 i (omega (arith, long)))
          | inr le ↦
              let e : i ≡ at + (i - at) = omega arith in
              ap (λ k. get_or new k 0) e ∙ holds.each (i - at) (omega arith) ∙ sym (get_or-append_right (take at old) bytes at i 0 long le)
        ]

-- a list is what stands before a place, the place and what stands behind it
pub at_place : (k : ℕ) (x : List ℕ) → k < length x → x ≡ take k x ++ get_or x k 0 ∷ drop (k + 1) x
at_place k x lt = sym (take-append-drop k x) ∙ ap (λ (l : List ℕ). take k x ++ l) (drop_more x k 0 lt)

pub take_less : (j k : ℕ) (x y : List ℕ) → j ≤ k → take k x ≡ take k y → take j x ≡ take j y
take_less j k x y le same = sym (take-take j k x le) ∙ ap (take j) same ∙ take-take j k y le
