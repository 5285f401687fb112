-- What is joined splits back.
use Rattle.std.proofs.Common.{◌≡◌, ◌||◌, ◌==◌, ℕ, zero, suc, ◌+◌, Bool, true, false, List, [], ◌∷◌, ◌++◌, append_assoc, Some, refl, sym, ap, subst, arith}
use Rattle.std.proofs.lemmas.List.{append-nil}
use Rattle.std.specs.List.{list_all}
use Rattle.std.specs.Prelude.{not}
use Rattle.std.proofs.lemmas.Bool.{cond_both, eqb-true, false_from_ne_true}
use Rattle.tks_text.specs.Backslash.{has_meaning, n_newline, t_tab, control, itself}
use Rattle.tks_text.specs.Text.{is_text_byte}
use Rattle.tks_text.specs.Integer.{is_space}
use Rattle.tks_text.proofs.Texts.{both}
use Rattle.tks_list.specs.ListText.{nothing, CharsThen, no_char, char, escaped, begins_no_bare, BeginsOther, AtEndOrSpace, ElementThen, braced, bare, Splits}
use Rattle.tks_list.specs.Quoting.{is_sign, is_special, less_one, where_some, balances, stands_bare, stands_in_braces, in_braces, backslashed_char, backslashed_chars, backslashed, quoted, spaced, joined}
use Rattle.tks_list.specs.declared.ends.Ends.TheVariants.{Space}
use Rattle.tks_list.proofs.Matching.{Closings, add_open, add_plain}
use Rattle.tks_text.proofs.Tests.{or_case, neither}

is_false : (b : Bool) → not b ≡ true → b ≡ false
is_false true e = absurd cc
is_false false e = refl

no_backslash : (c : ℕ) → is_sign c ≡ false → c == 92 ≡ false
no_backslash c e = false_from_ne_true (c == 92) (λ k. let n : is_sign c ≡ true = rw (eqb-true c 92 k) refl in absurd cc)

plain_begins : (c : ℕ) → is_special c ≡ false → begins_no_bare c ≡ false
plain_begins c e =
    let n = neither (is_space c) (is_sign c) e in
    false_from_ne_true (begins_no_bare c) (λ h. or_case (is_space c || (c == 34)) (c == 123) h
    (λ k. or_case (is_space c) (c == 34) k (λ s. absurd cc) (λ q. let m : is_sign c ≡ true = rw (eqb-true c 34 q) refl in absurd cc))
    (λ q. let m : is_sign c ≡ true = rw (eqb-true c 123 q) refl in absurd cc))

-- ---- bare elements

plain_chars : (e y : List ℕ) → list_all (λ c. not (is_special c)) e ≡ true → CharsThen Space y e (e ++ y)
plain_chars [] y h = no_char
plain_chars (c ∷ e) y h =
    let w = both (not (is_special c)) (list_all (λ c. not (is_special c)) e) h in
    let n = neither (is_space c) (is_sign c) (is_false (is_special c) w.0) in
    char c e (e ++ y) n.0 (no_backslash c n.1) (plain_chars e y w.1)

bare_stands : (e y : List ℕ) → stands_bare e ≡ true → ElementThen y e (e ++ y)
bare_stands [] y h = absurd cc
bare_stands (c ∷ e) y h =
    let w = both (not (c == 35)) (list_all (λ c. not (is_special c)) (c ∷ e)) h in
    let first = both (not (is_special c)) (list_all (λ c. not (is_special c)) e) w.1 in
    bare (c ∷ e) (c ∷ e ++ y) (plain_begins c (is_false (is_special c) first.0)) (plain_chars (c ∷ e) y w.1)

-- ---- elements in braces

balanced_close : (c h : ℕ) (t : List ℕ) → c ≡ 125 → where_some (less_one h) (λ n. balances n t) ≡ true → ((i : ℕ) → balances i t ≡ true → Closings i t) → Closings h (c ∷ t)
balanced_close c zero t is e ih = absurd cc
balanced_close c (suc h) t is e ih = ([], t, ap (λ x. x ∷ t) is, nothing, ih h e)

balanced : (e : List ℕ) (h : ℕ) → list_all (λ c. not (c == 92)) e ≡ true → balances h e ≡ true → Closings h e
balanced [] zero b e = nothing
balanced [] (suc h) b e = let none = eqb-true (suc h) 0 e in absurd (omega arith)
balanced (c ∷ t) h b e =
    let w = both (not (c == 92)) (list_all (λ c. not (c == 92)) t) b in
    let one : h + 1 ≡ suc h = omega arith in
    let test : ℕ → Bool = λ n. balances n t in
    cond_both (c == 125) (less_one h) _ (λ o. where_some o test ≡ true → Closings h (c ∷ t))
    (λ k v. balanced_close c h t (eqb-true c 125 k) v (λ i. balanced t i w.1))
    (λ k. cond_both (c == 123) (Some (h + 1)) (Some h) (λ o. where_some o test ≡ true → Closings h (c ∷ t))
    (λ q v. subst (λ x. Closings h (x ∷ t)) (sym (eqb-true c 123 q)) (add_open h t (subst (λ i. Closings i t) one (balanced t (h + 1) w.1 v))))
    (λ q v. add_plain h c t (rw (is_false (c == 92) w.0, q, k) refl) (balanced t h w.1 v))) e

braces_stand : (e y : List ℕ) → stands_in_braces e ≡ true → ElementThen y e (in_braces e ++ y)
braces_stand e y h =
    let w = both (list_all (λ c. not (c == 92)) e) (balances 0 e) h in
    subst (λ t. ElementThen y e (123 ∷ t)) (sym (append_assoc e (125 ∷ []) y)) (braced e (balanced e 0 w.0 w.1))

-- ---- elements in backslash form

-- c stands for itself behind a backslash
abbrev StandsForItself : ℕ → Type 0
StandsForItself c = (has_meaning c ≡ false) × (is_text_byte c ≡ true)

same_sign : (c d : ℕ) → StandsForItself d → c == d ≡ true → StandsForItself c
same_sign c d s k = subst StandsForItself (sym (eqb-true c d k)) s

sign_stands : (c : ℕ) → (c == 32) || is_sign c ≡ true → StandsForItself c
sign_stands c h =
    or_case (c == 32) (is_sign c) h (same_sign c 32 (refl, refl))
    (λ g. or_case _ (c == 125) g (λ f. or_case _ (c == 123) f (λ e. or_case _ (c == 92) e (λ d. or_case _ (c == 93) d (λ b. or_case _ (c == 91) b
    (λ a. or_case _ (c == 59) a (λ k. or_case (c == 34) (c == 36) k (same_sign c 34 (refl, refl)) (same_sign c 36 (refl, refl)))
    (same_sign c 59 (refl, refl))) (same_sign c 91 (refl, refl))) (same_sign c 93 (refl, refl))) (same_sign c 92 (refl, refl))) (same_sign c 123 (refl, refl))) (same_sign c 125 (refl, refl)))

char_stands : (c : ℕ) (e u y : List ℕ) → CharsThen Space y e u → CharsThen Space y (c ∷ e) (backslashed_char c ++ u)
char_stands c e u y h =
    cond_both (c == 10) (92 ∷ 110 ∷ []) _ (λ t. CharsThen Space y (c ∷ e) (t ++ u))
    (λ k. subst (λ x. CharsThen Space y (x ∷ e) (92 ∷ 110 ∷ u)) (sym (eqb-true c 10 k)) (escaped 10 1 e (110 ∷ u) (control 110 10 u n_newline) refl h))
    (λ k. cond_both (c == 9) (92 ∷ 116 ∷ []) _ (λ t. CharsThen Space y (c ∷ e) (t ++ u))
    (λ i. subst (λ x. CharsThen Space y (x ∷ e) (92 ∷ 116 ∷ u)) (sym (eqb-true c 9 i)) (escaped 9 1 e (116 ∷ u) (control 116 9 u t_tab) refl h))
    (λ i. cond_both ((c == 32) || is_sign c) (92 ∷ c ∷ []) (c ∷ []) (λ t. CharsThen Space y (c ∷ e) (t ++ u))
    (λ s. let i = sign_stands c s in escaped c 1 e (c ∷ u) (itself c u i.0) i.1 h)
    (λ s. let n = neither (c == 32) (is_sign c) s in char c e u (rw (n.0, i, k) refl) (no_backslash c n.1) h)))

chars_stand : (e y : List ℕ) → CharsThen Space y e (backslashed_chars e ++ y)
chars_stand [] y = no_char
chars_stand (c ∷ e) y =
    subst (CharsThen Space y (c ∷ e)) (sym (append_assoc (backslashed_char c) (backslashed_chars e) y)) (char_stands c e (backslashed_chars e ++ y) y (chars_stand e y))

char_begins : (c : ℕ) (u : List ℕ) → BeginsOther begins_no_bare (backslashed_char c ++ u)
char_begins c u =
    cond_both (c == 10) (92 ∷ 110 ∷ []) _ (λ t. BeginsOther begins_no_bare (t ++ u)) (λ k. refl)
    (λ k. cond_both (c == 9) (92 ∷ 116 ∷ []) _ (λ t. BeginsOther begins_no_bare (t ++ u)) (λ i. refl)
    (λ i. cond_both ((c == 32) || is_sign c) (92 ∷ c ∷ []) (c ∷ []) (λ t. BeginsOther begins_no_bare (t ++ u)) (λ s. refl)
    (λ s. let n = neither (c == 32) (is_sign c) s in plain_begins c (rw (n.0, i, k, n.1) refl))))

backslashed_stands : (e y : List ℕ) → ElementThen y e (backslashed e ++ y)
backslashed_stands [] y = braced [] nothing
backslashed_stands (c ∷ e) y =
    cond_both (c == 35) (92 ∷ 35 ∷ backslashed_chars e) (backslashed_chars (c ∷ e)) (λ t. ElementThen y (c ∷ e) (t ++ y))
    (λ k. subst (λ x. ElementThen y (x ∷ e) (92 ∷ 35 ∷ backslashed_chars e ++ y)) (sym (eqb-true c 35 k))
    (bare (35 ∷ e) (92 ∷ 35 ∷ backslashed_chars e ++ y) refl (escaped 35 1 e (35 ∷ (backslashed_chars e ++ y)) (itself 35 (backslashed_chars e ++ y) refl) refl (chars_stand e y))))
    (λ k. bare (c ∷ e) (backslashed_chars (c ∷ e) ++ y)
    (subst (BeginsOther begins_no_bare) (sym (append_assoc (backslashed_char c) (backslashed_chars e) y)) (char_begins c (backslashed_chars e ++ y)))
    (chars_stand (c ∷ e) y))

-- ---- lists

quoted_stands : (e y : List ℕ) → ElementThen y e (quoted e ++ y)
quoted_stands e y =
    cond_both (stands_bare e) e _ (λ t. ElementThen y e (t ++ y)) (λ h. bare_stands e y h)
    (λ h. cond_both (stands_in_braces e) (in_braces e) (backslashed e) (λ t. ElementThen y e (t ++ y)) (λ k. braces_stand e y k) (λ k. backslashed_stands e y))

spaced_ends : (l : List (List ℕ)) → AtEndOrSpace (spaced l)
spaced_ends [] = tt
spaced_ends (e ∷ l) = refl

spaced_splits : (l : List (List ℕ)) → Splits (spaced l) l
spaced_splits [] = tt
spaced_splits (e ∷ l) = (quoted e ++ spaced l, spaced l, (32 ∷ [], refl, (refl, tt)), quoted_stands e (spaced l), spaced_ends l, spaced_splits l)

pub joined_splits : (l : List (List ℕ)) → Splits (joined l) l
joined_splits [] = tt
joined_splits (e ∷ l) = (quoted e ++ spaced l, spaced l, ([], refl, tt), quoted_stands e (spaced l), spaced_ends l, spaced_splits l)

pub backslashed_splits : (e : List ℕ) → Splits (backslashed e) (e ∷ [])
backslashed_splits e = (backslashed e, [], ([], refl, tt), subst (ElementThen [] e) (append-nil (backslashed e)) (backslashed_stands e []), tt, tt)
