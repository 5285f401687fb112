-- The frames that are read are those that stand there.
use Rattle.std.proofs.Common.{◌≡◌, ◌≤◌, ℕ, ◌+◌, nat_le, Bool, true, false, cond, List, [], ◌∷◌, ◌++◌, length, take, drop, Option, Some, None, inl, inr, refl, sym, ◌∙◌, ap, subst, arith, take-append-drop}
use Rattle.std.proofs.lemmas.Bool.{cases_eq}
use Rattle.std.proofs.lemmas.Bool.Decides.{nat_tests}
use Rattle.std.proofs.lemmas.List.{length-take, length-drop, drop-drop}
use Rattle.tks_journal.specs.AreFrames.{AreFrames, Begins}
use Rattle.tks_journal.specs.Sides.{with_front, size_at, frames_from, frames}
use Rattle.tks_journal.proofs.Faces.{one_frame, shut_frames, frames_skip}

pub are_read : (bodies : List (List ℕ)) (bytes : List ℕ) → AreFrames bodies bytes → frames bytes ≡ Some bodies
are_read [] bytes is = ap frames is.parts ∙ shut_frames is.gate is.rest is.shut
are_read (body ∷ bodies) bytes is = ap frames is.parts ∙ one_frame is.size body is.rest is.four is.spells ∙ ap (with_front body) (are_read bodies is.rest is.behind)

long_enough : (m n : ℕ) → nat_le m n ≡ true → m ≤ n
long_enough m n e = grind (arith, nat_tests)

-- an open gate before these bytes
module _ (bytes : List ℕ) where
  abbrev n : ℕ
  n = size_at bytes

  abbrev front : List ℕ
  front = take n (drop 4 bytes)

  begins : (body : List ℕ) (Q : List ℕ → Type 0) → 4 + n ≤ length bytes → body ≡ front → Q (drop (4 + n) bytes) → Begins body Q (1 ∷ bytes)
  begins body Q le is behind = record {
    size = take 4 bytes;
    rest = drop (4 + n) bytes;
    four = omega (arith, length-take 4 bytes);
    spells = omega (arith, ap length is, length-take n (drop 4 bytes), length-drop 4 bytes, le);
    parts = ap (λ (l : List ℕ). 1 ∷ l)
        (sym (take-append-drop 4 bytes)
        ∙ ap (λ (l : List ℕ). take 4 bytes ++ l) (sym (take-append-drop n (drop 4 bytes)))
        ∙ ap (λ (l : List ℕ). take 4 bytes ++ (front ++ l)) (drop-drop n 4 bytes)
        ∙ ap (λ (l : List ℕ). take 4 bytes ++ (l ++ drop (4 + n) bytes)) (sym is));
    behind = behind;
  }

pub read_so : (bodies : List (List ℕ)) (bytes : List ℕ) → frames bytes ≡ Some bodies → AreFrames bodies bytes
read_so bodies [] e = absurd (cc e)
read_so [] (gate ∷ bytes) e = elim (cases_eq gate 1) [
  | inl is ↦ absurd (no_end (nat_le (4 + size_at bytes) (length bytes)) (frames_from (4 + size_at bytes) bytes) (ap (λ g. frames (g ∷ bytes)) (sym is) ∙ e))
  | inr shut ↦ record { gate = gate; rest = bytes; shut = shut; parts = refl }
]
  where
    no_end : (b : Bool) (o : Option (List (List ℕ))) → cond b (with_front (take (size_at bytes) (drop 4 bytes)) o) None ≡ Some [] → ⊥
    no_end false o e = cc e
    no_end true None e = cc e
    no_end true (Some more) e = cc e
read_so (body ∷ bodies) (gate ∷ bytes) e = elim (cases_eq gate 1) [
  | inl is ↦ subst (λ g. AreFrames (body ∷ bodies) (g ∷ bytes)) (sym is)
      (by_test (read_so bodies (drop (4 + size_at bytes) bytes)) (nat_le (4 + size_at bytes) (length bytes)) refl (frames_from (4 + size_at bytes) bytes) refl (ap (λ g. frames (g ∷ bytes)) (sym is) ∙ e))
  | inr shut ↦ absurd (differ (sym (shut_frames gate bytes shut) ∙ e))
]
  where
    differ : ◌≡◌ {A = Option (List (List ℕ))} (Some []) (Some (body ∷ bodies)) → ⊥
    differ e = cc e

    by_test : (frames (drop (4 + size_at bytes) bytes) ≡ Some bodies → AreFrames bodies (drop (4 + size_at bytes) bytes))
        → (b : Bool) → nat_le (4 + size_at bytes) (length bytes) ≡ b → (o : Option (List (List ℕ))) → frames_from (4 + size_at bytes) bytes ≡ o
        → cond b (with_front (take (size_at bytes) (drop 4 bytes)) o) None ≡ Some (body ∷ bodies) → Begins body (AreFrames bodies) (1 ∷ bytes)
    by_test others false l o f e = absurd (cc e)
    by_test others true l None f e = absurd (cc e)
    by_test others true l (Some more) f e =
        let same : body ≡ take (size_at bytes) (drop 4 bytes) = cc e in
        let left : more ≡ bodies = cc e in
        begins bytes body (AreFrames bodies) (long_enough (4 + size_at bytes) (length bytes) l) same (others (sym (frames_skip (4 + size_at bytes) bytes) ∙ f ∙ ap Some left))
