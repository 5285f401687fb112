-- Lists of which each item is changed where it stands.
use Rattle.std.proofs.Common.{◌≡◌, ℕ, zero, suc, ◌+◌, ◌<◌, List, [], ◌∷◌, ◌++◌, length, take, drop, map, get_or, refl, ap, ◌∙◌, subst, arith}
use Rattle.std.specs.Prelude.{slice_set}
use Rattle.std.specs.List.{AllByRecursion}

-- a list of which the first so many are changed already
abbrev changed_to : {A : Type 0} → (A → A) → ℕ → List A → List A
changed_to f i xs = map f (take i xs) ++ drop i xs

got_next : {A : Type 0} (f : A → A) (i : ℕ) (d : A) (xs : List A) → i < length xs → get_or (changed_to f i xs) i d ≡ get_or xs i d
got_next f i d [] h = absurd (omega arith)
got_next f zero d (x ∷ xs) h = refl
got_next f (suc i) d (x ∷ xs) h = got_next f i d xs (omega arith)

set_next : {A : Type 0} (f : A → A) (i : ℕ) (d : A) (xs : List A) → i < length xs → slice_set (changed_to f i xs) i (f (get_or xs i d)) ≡ changed_to f (suc i) xs
set_next f i d [] h = absurd (omega arith)
set_next f zero d (x ∷ xs) h = refl
set_next f (suc i) d (x ∷ xs) h = ap (λ ys. f x ∷ ys) (set_next f i d xs (omega arith))

-- one more is changed
pub one_changed : {A : Type 0} (f : A → A) (i : ℕ) (d : A) (so_far xs : List A) → i < length xs → so_far ≡ changed_to f i xs → slice_set so_far i (f (get_or so_far i d)) ≡ changed_to f (i + 1) xs
one_changed f i d so_far xs h e =
    let next : suc i ≡ i + 1 = omega arith in
    ap (λ ys. slice_set ys i (f (get_or ys i d))) e ∙ ap (λ x. slice_set (changed_to f i xs) i (f x)) (got_next f i d xs h) ∙ set_next f i d xs h ∙ ap (λ n. changed_to f n xs) next

-- it is the one that it was
pub same_next : {A : Type 0} (f : A → A) (i : ℕ) (d : A) (so_far xs : List A) → i < length xs → so_far ≡ changed_to f i xs → get_or so_far i d ≡ get_or xs i d
same_next f i d so_far xs h e = ap (λ ys. get_or ys i d) e ∙ got_next f i d xs h

pub this_passes : {A : Type 0} (P : A → Type 0) (i : ℕ) (d : A) (xs : List A) → i < length xs → AllByRecursion P (drop i xs) → P (get_or xs i d) × AllByRecursion P (drop (i + 1) xs)
this_passes P i d [] h a = absurd (omega arith)
this_passes P zero d (x ∷ xs) h a = (a.0, a.1)
this_passes P (suc i) d (x ∷ xs) h a =
    let next : suc (i + 1) ≡ suc i + 1 = omega arith in
    let rest = this_passes P i d xs (omega arith) a in
    (rest.0, subst (λ n. AllByRecursion P (drop n (x ∷ xs))) next rest.1)
