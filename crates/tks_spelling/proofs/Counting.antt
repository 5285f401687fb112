-- Counting the members of a list one after the other, as a loop does.
use Rattle.std.proofs.Common.{◌≡◌, ℕ, ◌+◌, ◌<◌, ◌^◌, Bool, true, false, List, [], ◌∷◌, ◌++◌, length, take, get_or, Option, Some, None, refl, sym, ap, ◌∙◌, arith}
use Rattle.std.proofs.lemmas.List.{length-append}
use Rattle.tks_spelling.specs.Lengths.{counted}
use Rattle.tks_spelling.specs.Spelling.{Spelling, flag, flag_of, members}
use Rattle.tks_spelling.proofs.Loop.{one_put, any_before}

-- what `using` names
pub ruleset lengths = (length-append)

-- the length of two counted pieces
pub two_counted : (sum one : ℕ) (first second : List ℕ) → sum ≡ counted (length first) → one ≡ counted (length second) → counted (sum + one) ≡ counted (length (first ++ second))
two_counted sum one first second s o = omega (arith, length-append first second, s, o)

-- Members up to this one are counted, and this one.
pub one_counted : {T : Type 0} (s : Spelling T) (xs : List T) (i : ℕ) (x : T) (sum one : ℕ) → i < length xs → x ≡ get_or xs i x
    → sum ≡ counted (length (members (λ before. s) None (take i xs))) → one ≡ counted (length (s.write x)) → counted (sum + one) ≡ counted (length (members (λ before. s) None (take (i + 1) xs)))
one_counted s xs i x sum one lt is so_far this =
    let before = members (λ before. s) None (take i xs) in
    two_counted sum one before (s.write x) so_far this ∙ ap (λ (w : List ℕ). counted (length w)) (one_put (λ before. s) xs i x [] before (before ++ s.write x) lt is refl refl)

-- What is counted so far and what an iterator has still to give are all.
abbrev pub CountsOn : {T : Type 0} → Spelling T → ℕ → List T → List T → Type 0
CountsOn s sum rest all = (sum < 2 ^ 64) × (counted (sum + length (members (λ before. s) None rest)) ≡ counted (length (members (λ before. s) None all)))

-- One member more is counted.
pub one_more_counted : {T : Type 0} (s : Spelling T) (sum one new : ℕ) (xs : List T) (x : T) (rest all : List T) → xs ≡ x ∷ rest → one ≡ counted (length (s.write x)) → new ≡ counted (sum + one)
    → CountsOn s sum xs all → CountsOn s new rest all
one_more_counted s sum one new xs x rest all is this so so_far =
    let whole : length (members (λ before. s) None xs) ≡ length (s.write x) + length (members (λ before. s) None rest) =
    ap (λ ys. length (members (λ before. s) None ys)) is ∙ length-append (s.write x) (members (λ before. s) (Some x) rest)
    ∙ ap (λ (w : List ℕ). length (s.write x) + length w) (any_before s (Some x) None rest) in
    let here : counted (new + length (members (λ before. s) None rest)) ≡ counted (sum + length (members (λ before. s) None xs)) = omega (arith, whole, this, so) in
    let small : new < 2 ^ 64 = omega (arith, so) in
    (small, here ∙ so_far.1)

-- Where the iterator has no more to give, all are counted.
pub all_counted : {T : Type 0} (s : Spelling T) (sum : ℕ) (rest all : List T) → rest ≡ [] → CountsOn s sum rest all → sum ≡ counted (length (members (λ before. s) None all))
all_counted s sum rest all is so_far =
    let none : length (members (λ before. s) None rest) ≡ 0 = ap (λ ys. length (members (λ before. s) None ys)) is in
    let small : sum < 2 ^ 64 = so_far.0 in
    let here : sum ≡ counted (sum + length (members (λ before. s) None rest)) = omega (arith, none, small) in
    here ∙ so_far.1

-- ---- flags

pub flag_is : (b : Bool) → flag.write b ≡ flag_of b ∷ []
flag_is true = refl
flag_is false = refl
