-- The line and the column of a place lead back to it.
use Rattle.std.proofs.Common.{◌≡◌, ℕ, zero, suc, ◌+◌, ◌-◌, ◌<◌, ◌≤◌, ◌⊎◌, inl, inr, min, not, Bool, true, false, cond, eqb, eq-eqb, if◌then◌else◌, List, [], ◌∷◌, length, take, reverse, Some, refl, sym, ap, ◌∙◌, arith}
use Rattle.std.specs.List.{prefix_len, suffix_len, count_by}
use Rattle.std.proofs.lemmas.Bool.{cases_lt}
use Rattle.std.proofs.lemmas.Bool.Decides.{nat_tests}
use Rattle.std.proofs.lemmas.List.{reverse-append, length-reverse, length-take-le, length-append}
use Rattle.std.proofs.lemmas.List.Folds.{prefix_len-append}
use Rattle.std.proofs.lemmas.List.Sums.{suffix_len-le-length, sum_by-cons}
use Rattle.tks_lines.specs.Places.{is_newline, is_inner, with_newline, end_place, lines_before, column_of, place_at}
use Rattle.tks_lines.proofs.Far.{this_line}

-- how many stand behind the last newline, with one more before them all
suffix_more : (c : ℕ) (xs : List ℕ) → suffix_len is_inner (c ∷ xs) ≡ cond (eqb (suffix_len is_inner xs) (length xs)) (length xs + prefix_len is_inner (c ∷ [])) (suffix_len is_inner xs)
suffix_more c xs =
    ap (prefix_len is_inner) (reverse-append (c ∷ []) xs)
    ∙ prefix_len-append is_inner (reverse xs) (c ∷ [])
    ∙ ap (λ n. cond (eqb (suffix_len is_inner xs) n) (n + prefix_len is_inner (c ∷ [])) (suffix_len is_inner xs)) (length-reverse xs)

more_of_all : (c : ℕ) (xs : List ℕ) → suffix_len is_inner xs ≡ length xs → suffix_len is_inner (c ∷ xs) ≡ length xs + prefix_len is_inner (c ∷ [])
more_of_all c xs e =
    let test : eqb (suffix_len is_inner xs) (length xs) ≡ true = eq-eqb (suffix_len is_inner xs) (length xs) e in
    suffix_more c xs ∙ ap (λ b. cond b (length xs + prefix_len is_inner (c ∷ [])) (suffix_len is_inner xs)) test

more_of_less : (c : ℕ) (xs : List ℕ) → suffix_len is_inner xs < length xs → suffix_len is_inner (c ∷ xs) ≡ suffix_len is_inner xs
more_of_less c xs h =
    let test : eqb (suffix_len is_inner xs) (length xs) ≡ false = grind (arith, nat_tests) in
    suffix_more c xs ∙ ap (λ b. cond b (length xs + prefix_len is_inner (c ∷ [])) (suffix_len is_inner xs)) test

none_in_newline : (c : ℕ) → is_newline c ≡ true → prefix_len is_inner (c ∷ []) ≡ 0
none_in_newline c e = ap (λ b. cond (not b) (1 + 0) 0) e

one_in_other : (c : ℕ) → is_newline c ≡ false → prefix_len is_inner (c ∷ []) ≡ 1
one_in_other c e = ap (λ b. cond (not b) (1 + 0) 0) e

behind_newline : (c : ℕ) (xs : List ℕ) → is_newline c ≡ true → suffix_len is_inner (c ∷ xs) ≡ suffix_len is_inner xs
behind_newline c xs e = by (cases_lt (suffix_len is_inner xs) (length xs))
  where
    by : (suffix_len is_inner xs < length xs) ⊎ (length xs ≤ suffix_len is_inner xs) → suffix_len is_inner (c ∷ xs) ≡ suffix_len is_inner xs
    by (inl h) = more_of_less c xs h
    by (inr h) =
        let same : suffix_len is_inner xs ≡ length xs = omega (arith, suffix_len-le-length is_inner xs) in
        omega (arith, more_of_all c xs same, none_in_newline c e)

-- a newline counts, another character doesn't
newline_counts : (c : ℕ) (xs : List ℕ) → is_newline c ≡ true → count_by is_newline (c ∷ xs) ≡ suc (count_by is_newline xs)
newline_counts c xs e = sum_by-cons (λ x. cond (is_newline x) 1 0) c xs ∙ ap (λ b. cond b 1 0 + count_by is_newline xs) e ∙ omega arith

other_counts : (c : ℕ) (xs : List ℕ) → is_newline c ≡ false → count_by is_newline (c ∷ xs) ≡ count_by is_newline xs
other_counts c xs e = sum_by-cons (λ x. cond (is_newline x) 1 0) c xs ∙ ap (λ b. cond b 1 0 + count_by is_newline xs) e ∙ omega arith

-- all or not all stand behind the last newline
abbrev Behind : List ℕ → Type 0
Behind xs = ((count_by is_newline xs ≡ 0) × (suffix_len is_inner xs ≡ length xs)) ⊎ ((0 < count_by is_newline xs) × (suffix_len is_inner xs < length xs))

behind_more : (c : ℕ) (b : Bool) (xs : List ℕ) → is_newline c ≡ b → Behind xs → Behind (c ∷ xs)
behind_more c true xs e (inl h) = inr (omega (arith, newline_counts c xs e), omega (arith, more_of_all c xs h.1, none_in_newline c e))
behind_more c true xs e (inr h) = inr (omega (arith, newline_counts c xs e), omega (arith, more_of_less c xs h.1))
behind_more c false xs e (inl h) = inl (omega (arith, other_counts c xs e), omega (arith, more_of_all c xs h.1, one_in_other c e))
behind_more c false xs e (inr h) = inr (omega (arith, other_counts c xs e), omega (arith, more_of_less c xs h.1))

behind : (xs : List ℕ) → Behind xs
behind [] = inl (refl, refl)
behind (c ∷ xs) = behind_more c (is_newline c) xs refl (behind xs)

-- one character more
one_more : (c : ℕ) (text xs : List ℕ) (q : ℕ) (b : Bool) → is_newline c ≡ b → length xs ≡ q → Behind xs
    → place_at text (count_by is_newline xs) (Some (suffix_len is_inner xs)) ≡ q
    → place_at (c ∷ text) (count_by is_newline (c ∷ xs)) (Some (suffix_len is_inner (c ∷ xs))) ≡ suc q
one_more c text xs q true e long way h =
    ap (λ n. place_at (c ∷ text) n (Some (suffix_len is_inner (c ∷ xs)))) (newline_counts c xs e)
    ∙ ap (λ n. place_at (c ∷ text) (suc (count_by is_newline xs)) (Some n)) (behind_newline c xs e)
    ∙ ap (λ b. suc (place_at text (if b then count_by is_newline xs else suc (count_by is_newline xs)) (Some (suffix_len is_inner xs)))) e
    ∙ ap suc h
one_more c text xs q false e long (inl w) h =
    let counts : count_by is_newline (c ∷ xs) ≡ 0 = omega (arith, other_counts c xs e) in
    let stands : suffix_len is_inner (c ∷ xs) ≡ suc q = omega (arith, more_of_all c xs w.1, one_in_other c e) in
    let before : min q (prefix_len is_inner text) ≡ q =
    sym (this_line text (Some q)) ∙ ap (λ n. place_at text 0 (Some n)) (sym (w.1 ∙ long)) ∙ ap (λ n. place_at text n (Some (suffix_len is_inner xs))) (sym w.0) ∙ h in
    let first : prefix_len is_inner (c ∷ text) ≡ 1 + prefix_len is_inner text = ap (λ b. cond (not b) (1 + prefix_len is_inner text) 0) e in
    ap (λ n. place_at (c ∷ text) n (Some (suffix_len is_inner (c ∷ xs)))) counts
    ∙ ap (λ n. place_at (c ∷ text) 0 (Some n)) stands ∙ ap (λ n. min (suc q) n) first ∙ omega arith
one_more c text xs q false e long (inr w) h =
    let some : suc (count_by is_newline xs - 1) ≡ count_by is_newline xs = omega arith in
    ap (λ n. place_at (c ∷ text) n (Some (suffix_len is_inner (c ∷ xs)))) (other_counts c xs e ∙ sym some)
    ∙ ap (λ n. place_at (c ∷ text) (suc (count_by is_newline xs - 1)) (Some n)) (more_of_less c xs w.1)
    ∙ ap (λ b. suc (place_at text (if b then count_by is_newline xs - 1 else suc (count_by is_newline xs - 1)) (Some (suffix_len is_inner xs)))) e
    ∙ ap (λ n. suc (place_at text n (Some (suffix_len is_inner xs)))) some
    ∙ ap suc h

pub leads_back : (text : List ℕ) (place : ℕ) → place ≤ end_place text → place_at text (lines_before text place) (Some (column_of text place)) ≡ place
leads_back text zero h = this_line text (Some 0) ∙ omega arith
leads_back [] (suc zero) h = refl
leads_back [] (suc (suc place)) h = absurd (omega arith)
leads_back (c ∷ text) (suc place) h =
    let long : length (take place (with_newline text)) ≡ place = length-take-le place (with_newline text) (omega (arith, length-append text (10 ∷ []))) in
    one_more c text (take place (with_newline text)) place (is_newline c) refl long (behind (take place (with_newline text))) (leads_back text place (omega arith))
