-- Where items stand when others come in or go out.
use Rattle.std.proofs.Common.{◌≡◌, ℕ, zero, suc, ◌+◌, ◌-◌, ◌<◌, ◌≤◌, List, [], ◌∷◌, ◌++◌, length, take, drop, refl, ap, ◌∙◌, arith}
use Rattle.std.specs.Prelude.{slice_get}
use Rattle.std.proofs.lemmas.List.{length-take-le}

-- in the front of a list
pub in_front : {X : Type 0} (n : ℕ) (xs : List X) (i : ℕ) → i < n → slice_get (take n xs) i ≡ slice_get xs i
in_front zero xs i h = absurd (omega arith)
in_front (suc n) [] i h = refl
in_front (suc n) (x ∷ xs) zero h = refl
in_front (suc n) (x ∷ xs) (suc i) h = in_front n xs i (omega arith)

-- behind the front of a list
pub got_behind : {X : Type 0} (n : ℕ) (xs : List X) (i : ℕ) → slice_get (drop n xs) i ≡ slice_get xs (n + i)
got_behind zero xs i = ap (slice_get xs) (omega arith)
got_behind (suc n) [] i = refl
got_behind (suc n) (x ∷ xs) i =
    let next : suc (n + i) ≡ suc n + i = omega arith in
    got_behind n xs i ∙ ap (slice_get (x ∷ xs)) next

-- in the first of two lists
before : {X : Type 0} (xs ys : List X) (i : ℕ) → i < length xs → slice_get (xs ++ ys) i ≡ slice_get xs i
before [] ys i h = absurd (omega arith)
before (x ∷ xs) ys zero h = refl
before (x ∷ xs) ys (suc i) h = before xs ys i (omega arith)

-- in the second
behind : {X : Type 0} (xs ys : List X) (i : ℕ) → slice_get (xs ++ ys) (length xs + i) ≡ slice_get ys i
behind [] ys i = ap (slice_get ys) (omega arith)
behind (x ∷ xs) ys i =
    let next : length (x ∷ xs) + i ≡ suc (length xs + i) = omega arith in
    ap (slice_get ((x ∷ xs) ++ ys)) next ∙ behind xs ys i

-- before the place where others stand
pub kept_before : {X : Type 0} (n : ℕ) (xs ys : List X) (i : ℕ) → n ≤ length xs → i < n → slice_get (take n xs ++ ys) i ≡ slice_get xs i
kept_before n xs ys i within h =
    before (take n xs) ys i (omega (arith, length-take-le n xs within)) ∙ in_front n xs i h

-- behind it
pub behind_front : {X : Type 0} (n : ℕ) (xs ys : List X) (i : ℕ) → n ≤ length xs → slice_get (take n xs ++ ys) (n + i) ≡ slice_get ys i
behind_front n xs ys i within =
    let same : n + i ≡ length (take n xs) + i = omega (arith, length-take-le n xs within) in
    ap (slice_get (take n xs ++ ys)) same ∙ behind (take n xs) ys i

-- an item behind a range that goes out
pub kept_behind : {X : Type 0} (front back : ℕ) (xs : List X) (i : ℕ) → front ≤ length xs → slice_get (take front xs ++ drop back xs) (front + i) ≡ slice_get xs (back + i)
kept_behind front back xs i within = behind_front front xs (drop back xs) i within ∙ got_behind back xs i

-- an item behind the place where others come in
pub moved_behind : {X : Type 0} (place : ℕ) (more xs : List X) (i : ℕ) → place ≤ length xs → place ≤ i → slice_get (take place xs ++ (more ++ drop place xs)) (i + length more) ≡ slice_get xs i
moved_behind place more xs i within far =
    let there : i + length more ≡ place + (length more + (i - place)) = omega arith in
    let back : place + (i - place) ≡ i = omega arith in
    ap (slice_get (take place xs ++ (more ++ drop place xs))) there
    ∙ behind_front place xs (more ++ drop place xs) (length more + (i - place)) within
    ∙ behind more (drop place xs) (i - place)
    ∙ got_behind place xs (i - place)
    ∙ ap (slice_get xs) back
