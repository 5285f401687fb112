-- What is told between two places.
use Rattle.std.proofs.Common.{◌≡◌, ℕ, ◌+◌, ◌-◌, ◌<◌, ◌≤◌, min, List, [], ◌∷◌, ◌++◌, length, take, drop, ◌⊎◌, inl, inr, sym, ap, ◌∙◌, arith}
use Rattle.std.proofs.lemmas.List.{length-append, length-take, length-drop, take-append-le, take_all, drop_all, drop-take, drop-append-le}
use Rattle.std.proofs.lemmas.Bool.{cases_lt}
use Rattle.tks_lines.specs.Commands.{between}

from_to : {X : Type 0} (first last : ℕ) (xs : List X) → first ≤ last → take (last - first) (drop first xs) ≡ drop first (take last xs)
from_to first last xs le =
    let long : first + (last - first) ≡ last = omega arith in
    sym (drop-take first (last - first) xs) ∙ ap (λ n. drop first (take n xs)) long

-- up to a place before the last newline
pub told_inside : (first last end : ℕ) (text : List ℕ) → end ≡ min last (length text) → last ≤ end → take (end - min first end) (drop (min first end) text) ≡ between first last text
told_inside first last end text e le =
    let within : last ≤ length text = omega arith in
    let same : end ≡ last = omega arith in
    ap (λ n. take (n - min first n) (drop (min first n) text)) same
    ∙ from_to (min first last) last text (omega arith)
    ∙ by (cases_lt last first)
    ∙ ap (drop first) (sym (take-append-le last text (10 ∷ []) within))
  where
    by : (last < first) ⊎ (first ≤ last) → drop (min first last) (take last text) ≡ drop first (take last text)
    by (inl far) =
        let long : length (take last text) ≤ last = omega (arith, length-take last text) in
        drop_all (min first last) (take last text) (omega arith) ∙ sym (drop_all first (take last text) (omega arith))
    by (inr near) = let same : min first last ≡ first = omega arith in ap (λ n. drop n (take last text)) same

-- the last newline too
pub told_newline : (first last end : ℕ) (text : List ℕ) → end ≡ min last (length text) → end < last → first ≤ length text → take (end - min first end) (drop (min first end) text) ++ 10 ∷ [] ≡ between first last text
told_newline first last end text e past near =
    let same : end ≡ length text = omega arith in
    let at : min first (length text) ≡ first = omega arith in
    let whole : take last (text ++ 10 ∷ []) ≡ text ++ 10 ∷ [] = take_all last (text ++ 10 ∷ []) (omega (arith, length-append text (10 ∷ []))) in
    ap (λ n. take (n - min first n) (drop (min first n) text) ++ 10 ∷ []) same
    ∙ ap (λ n. take (length text - n) (drop n text) ++ 10 ∷ []) at
    ∙ ap (λ xs. xs ++ 10 ∷ []) (take_all (length text - first) (drop first text) (omega (arith, length-drop first text)))
    ∙ sym (drop-append-le first text (10 ∷ []) near)
    ∙ ap (drop first) (sym whole)

-- behind it there is nothing
pub told_none : (first last end : ℕ) (text : List ℕ) → end ≡ min last (length text) → length text < first → take (end - min first end) (drop (min first end) text) ≡ between first last text
told_none first last end text e far =
    let none : end - min first end ≡ 0 = omega arith in
    let long : length (take last (text ++ 10 ∷ [])) ≤ first = omega (arith, length-take last (text ++ 10 ∷ []), length-append text (10 ∷ [])) in
    ap (λ n. take n (drop (min first end) text)) none ∙ sym (drop_all first (take last (text ++ 10 ∷ [])) long)
