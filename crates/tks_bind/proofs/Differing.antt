-- Lists whose members differ.
use Rattle.std.specs.Prelude.{◌&&◌}
use Rattle.std.specs.List.{AllByRecursion, list_all, remove}
use Rattle.std.proofs.Common.{◌≡◌, ℕ, zero, suc, Bool, true, false, List, [], ◌∷◌, ◌++◌, slice_set, refl}
use Rattle.tks_text.proofs.Texts.{both}
use Rattle.tks_bind.specs.Distinct.{all_differ}

pub join : (a b : Bool) → a ≡ true → b ≡ true → (a && b) ≡ true
join true b h k = k
join false b h k = h

-- what holds of each holds without one of them
pub all_removed : {T : Type 0} (test : T → Bool) (xs : List T) (i : ℕ) → list_all test xs ≡ true → list_all test (remove xs i) ≡ true
all_removed test [] zero h = refl
all_removed test [] (suc i) h = refl
all_removed test (x ∷ xs) zero h = (both (test x) (list_all test xs) h).1
all_removed test (x ∷ xs) (suc i) h =
    let b = both (test x) (list_all test xs) h in join (test x) (list_all test (remove xs i)) b.0 (all_removed test xs i b.1)

-- they differ without one of them
pub differ_removed : {T : Type 0} (differs : T → T → Bool) (xs : List T) (i : ℕ) → all_differ differs xs ≡ true → all_differ differs (remove xs i) ≡ true
differ_removed differs [] zero h = refl
differ_removed differs [] (suc i) h = refl
differ_removed differs (x ∷ xs) zero h = (both (list_all (differs x) xs) (all_differ differs xs) h).1
differ_removed differs (x ∷ xs) (suc i) h =
    let b = both (list_all (differs x) xs) (all_differ differs xs) h in
    join (list_all (differs x) (remove xs i)) (all_differ differs (remove xs i)) (all_removed (differs x) xs i b.0) (differ_removed differs xs i b.1)

-- what holds of each holds with one more, and with another in a place
pub all_pushed : {T : Type 0} (test : T → Bool) (xs : List T) (y : T) → list_all test xs ≡ true → test y ≡ true → list_all test (xs ++ y ∷ []) ≡ true
all_pushed test [] y h k = join (test y) true k refl
all_pushed test (x ∷ xs) y h k =
    let b = both (test x) (list_all test xs) h in join (test x) (list_all test (xs ++ y ∷ [])) b.0 (all_pushed test xs y b.1 k)

pub all_set : {T : Type 0} (test : T → Bool) (xs : List T) (i : ℕ) (y : T) → list_all test xs ≡ true → test y ≡ true → list_all test (slice_set xs i y) ≡ true
all_set test [] i y h k = refl
all_set test (x ∷ xs) zero y h k = join (test y) (list_all test xs) k (both (test x) (list_all test xs) h).1
all_set test (x ∷ xs) (suc i) y h k =
    let b = both (test x) (list_all test xs) h in join (test x) (list_all test (slice_set xs i y)) b.0 (all_set test xs i y b.1 k)

-- they differ with one more that differs from each
pub differ_pushed : {T : Type 0} (differs : T → T → Bool) (xs : List T) (y : T) → all_differ differs xs ≡ true → list_all (λ x. differs x y) xs ≡ true → all_differ differs (xs ++ y ∷ []) ≡ true
differ_pushed differs [] y h k = refl
differ_pushed differs (x ∷ xs) y h k =
    let b = both (list_all (differs x) xs) (all_differ differs xs) h in
    let new = both (differs x y) (list_all (λ x. differs x y) xs) k in
    join (list_all (differs x) (xs ++ y ∷ [])) (all_differ differs (xs ++ y ∷ [])) (all_pushed (differs x) xs y b.0 new.0) (differ_pushed differs xs y b.1 new.1)

-- what a test says of each
pub all_told : {T : Type 0} (test : T → Bool) (xs : List T) → list_all test xs ≡ true → AllByRecursion (λ x. test x ≡ true) xs
all_told test [] h = tt
all_told test (x ∷ xs) h = let b = both (test x) (list_all test xs) h in (b.0, all_told test xs b.1)

pub all_tested : {T : Type 0} (test : T → Bool) (xs : List T) → AllByRecursion (λ x. test x ≡ true) xs → list_all test xs ≡ true
all_tested test [] h = refl
all_tested test (x ∷ xs) h = join (test x) (list_all test xs) h.0 (all_tested test xs h.1)
