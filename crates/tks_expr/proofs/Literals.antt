-- Literals: what is told of them, and how long they are.
use Rattle.std.proofs.Common.{◌≡◌, ℕ, suc, ◌+◌, ◌<◌, Bool, true, false, cond, eqb, List, [], ◌∷◌, ◌++◌, length, take, drop, refl, sym, ap, ◌∙◌, subst, arith, inl, inr}
use Rattle.std.specs.Char.{is_digit}
use Rattle.std.specs.List.{prefix_len}
use Rattle.std.specs.Prelude.{codes, ◌||◌, Option, Some, None, is_some}
use Rattle.std.proofs.lemmas.Bool.{eqb-true, eqb-false, false_from_ne_true}
use Rattle.std.proofs.lemmas.List.{take_at, drop_at, take-append-drop, length-take}
use Rattle.std.proofs.lemmas.List.Sums.{prefix_len-le-length}
use Rattle.tks_text.specs.Integer.{AreDigits, BeginsOtherThan}
use Rattle.tks_text.specs.Text.{same_text, BeginsNot}
use Rattle.tks_text.specs.Truth.{is_true_word, is_false_word}
use Rattle.tks_text.proofs.Prefixes.{prefix_of, prefix_passes}
use Rattle.tks_parse.proofs.Tests.{if_case, and_cases, or_cases}
use Rattle.tks_expr.specs.Expression.{LiteralThen}
use Rattle.tks_expr.specs.Literal.{digits_len, behind_zero_len, numeral_len, is_truth_word, word_len, literal_len}
use Rattle.tks_expr.specs.Sign.{is_letter}

-- the literal at the front of t, by its length
pub record LiteralAt (text t v : List ℕ) : Type 0 where
  pub some : 0 < literal_len t
  pub is : text ≡ take (literal_len t) t
  pub rest : v ≡ drop (literal_len t) t

not_zero : (n : ℕ) → 0 < n → eqb n 0 ≡ false
not_zero n h = false_from_ne_true (eqb n 0) (λ e. let is = eqb-true n 0 e in absurd (omega (arith, is, h)))

-- ---- what is told is so long

literal_by : (text v : List ℕ) → literal_len (text ++ v) ≡ length text → 0 < length text → LiteralAt text (text ++ v) v
literal_by text v e h = record {
  some = omega (arith, e, h);
  is = sym (ap (λ n. take n (text ++ v)) e ∙ take_at text v (length text) refl);
  rest = sym (ap (λ n. drop n (text ++ v)) e ∙ drop_at text v (length text) refl);
}

numeral_by : (t : List ℕ) (n : ℕ) → numeral_len t ≡ n → 0 < n → literal_len t ≡ n
unfolding literal_len
numeral_by t n e h = ap (λ k. cond (eqb k 0) (word_len t) k) e ∙ ap (λ (b : Bool). cond b (word_len t) n) (not_zero n h)

hex_len : (ds v : List ℕ) → 0 < length ds → AreDigits 16 ds → BeginsNot (λ c. is_digit c 16) v → numeral_len (48 ∷ 120 ∷ ds ++ v) ≡ suc (suc (length ds))
unfolding numeral_len
hex_len ds v p q b =
    let two : 2 + length ds ≡ suc (suc (length ds)) = omega arith in
    ap (λ k. cond (eqb k 0) 0 (2 + k)) (prefix_of (λ c. is_digit c 16) ds v q b) ∙ ap (λ (x : Bool). cond x 0 (2 + length ds)) (not_zero (length ds) p) ∙ two

zero_len : (u : List ℕ) → BeginsNot (λ c. eqb c 120) u → behind_zero_len u ≡ 1 + digits_len 8 u
zero_len [] h = refl
zero_len (c ∷ u) h = rw h refl

octal_len : (ds v : List ℕ) → AreDigits 8 ds → BeginsNot (λ c. is_digit c 8) v → BeginsNot (λ c. eqb c 120) (ds ++ v) → numeral_len (48 ∷ ds ++ v) ≡ suc (length ds)
unfolding numeral_len
octal_len ds v q b x =
    let one : 1 + length ds ≡ suc (length ds) = omega arith in
    zero_len (ds ++ v) x ∙ ap (λ k. 1 + k) (prefix_of (λ c. is_digit c 8) ds v q b) ∙ one

decimal_len : (ds v : List ℕ) → BeginsOtherThan 48 ds → AreDigits 10 ds → BeginsNot (λ c. is_digit c 10) v → numeral_len (ds ++ v) ≡ length ds
unfolding numeral_len
decimal_len [] v s q b = absurd s
decimal_len (c ∷ ds) v s q b = ap (λ (x : Bool). cond x (behind_zero_len (ds ++ v)) (digits_len 10 (c ∷ ds ++ v))) s ∙ prefix_of (λ d. is_digit d 10) (c ∷ ds) v q b

decimal_some : (ds : List ℕ) → BeginsOtherThan 48 ds → 0 < length ds
decimal_some [] s = absurd s
decimal_some (c ∷ ds) s = omega arith

same_is : (s t : List ℕ) → same_text s t ≡ true → s ≡ t
same_is [] [] e = refl
same_is [] (y ∷ t) e = absurd cc
same_is (x ∷ s) [] e = absurd cc
same_is (x ∷ s) (y ∷ t) e = let both = and_cases (eqb x y) (same_text s t) e in ap (λ z. z ∷ s) (eqb-true x y both.0) ∙ ap (λ z. y ∷ z) (same_is s t both.1)

-- a word's length, and that it has one
abbrev IsLong : List ℕ → List ℕ → Type 0
IsLong v w = (literal_len (w ++ v) ≡ length w) × (0 < length w)

words_len : (v : List ℕ) → BeginsNot is_letter v → IsLong v (codes "true") × IsLong v (codes "yes") × IsLong v (codes "on") × IsLong v (codes "false") × IsLong v (codes "no") × IsLong v (codes "off")
unfolding literal_len numeral_len word_len
words_len v b = let none = prefix_of is_letter [] v tt b in rw none ((refl, omega arith), (refl, omega arith), (refl, omega arith), (refl, omega arith), (refl, omega arith), (refl, omega arith))

word_is_long : (w v : List ℕ) → is_truth_word w ≡ true → BeginsNot is_letter v → IsLong v w
word_is_long w v e b =
    let long = words_len v b in
    let same : (s : List ℕ) → same_text w s ≡ true → IsLong v s → IsLong v w = λ s k h. subst (IsLong v) (sym (same_is w s k)) h in
    let is : List ℕ → Bool = same_text w in
    let Is : Option Bool → Type 0 = λ o. is_some o ≡ true → IsLong v w in
    if_case Is (is_true_word w) (Some true) _
    (λ t s. elim (or_cases (is (codes "true") || is (codes "yes")) (is (codes "on")) t) [
      | inr k ↦ same (codes "on") k long.2
      | inl u ↦ elim (or_cases (is (codes "true")) (is (codes "yes")) u) [
        | inr k ↦ same (codes "yes") k long.1
        | inl k ↦ same (codes "true") k long.0
      ]
    ])
    (λ n. if_case Is (is_false_word w) (Some false) None
    (λ f s. elim (or_cases (is (codes "false") || is (codes "no")) (is (codes "off")) f) [
      | inr k ↦ same (codes "off") k long.5
      | inl u ↦ elim (or_cases (is (codes "false")) (is (codes "no")) u) [
        | inr k ↦ same (codes "no") k long.4
        | inl k ↦ same (codes "false") k long.3
      ]
    ])
    (λ f s. absurd cc)) e

pub literal_reads : (text t v : List ℕ) → LiteralThen text t v → LiteralAt text t v
literal_reads _ _ _ (LiteralThen.hex ds v p q b) = literal_by (48 ∷ 120 ∷ ds) v (numeral_by (48 ∷ 120 ∷ ds ++ v) (suc (suc (length ds))) (hex_len ds v p q b) (omega arith)) (omega arith)
literal_reads _ _ _ (LiteralThen.octal ds v q b x) = literal_by (48 ∷ ds) v (numeral_by (48 ∷ ds ++ v) (suc (length ds)) (octal_len ds v q b x) (omega arith)) (omega arith)
literal_reads _ _ _ (LiteralThen.decimal ds v s q b) = literal_by ds v (numeral_by (ds ++ v) (length ds) (decimal_len ds v s q b) (decimal_some ds s)) (decimal_some ds s)
literal_reads _ _ _ (LiteralThen.word w v e b) = let long = word_is_long w v e b in literal_by w v long.0 long.1

-- ---- what is so long is told

-- n bytes of t are a literal
abbrev pub Spelled : List ℕ → ℕ → Type 0
Spelled t n = 0 < n → LiteralThen (take n t) t (drop n t)

decimal_spelled : (c : ℕ) (u : List ℕ) → eqb c 48 ≡ false → Spelled (c ∷ u) (digits_len 10 (c ∷ u))
decimal_spelled c u k =
    let m = digits_len 10 u in
    let one : 1 + m ≡ suc m = omega arith in
    let told = prefix_passes (λ d. is_digit d 10) u in
    if_case (Spelled (c ∷ u)) (is_digit c 10) (1 + m) 0
    (λ e. rw one (λ h. subst (λ x. LiteralThen (c ∷ take m u) (c ∷ x) (drop m u)) (take-append-drop m u) (LiteralThen.decimal (c ∷ take m u) (drop m u) k (e, told.0) told.1)))
    (λ e h. absurd (omega (arith, h)))

hex_spelled : (w : List ℕ) → Spelled (48 ∷ 120 ∷ w) (cond (eqb (digits_len 16 w) 0) 0 (2 + digits_len 16 w))
hex_spelled w =
    let m = digits_len 16 w in
    let two : 2 + m ≡ suc (suc m) = omega arith in
    let told = prefix_passes (λ d. is_digit d 16) w in
    if_case (Spelled (48 ∷ 120 ∷ w)) (eqb m 0) 0 (2 + m)
    (λ e h. absurd (omega (arith, h)))
    (λ e. rw two (λ h. subst (λ x. LiteralThen (48 ∷ 120 ∷ take m w) (48 ∷ 120 ∷ x) (drop m w)) (take-append-drop m w)
    (LiteralThen.hex (take m w) (drop m w) (omega (arith, length-take m w, prefix_len-le-length (λ d. is_digit d 16) w, eqb-false m 0 e)) told.0 told.1)))

octal_spelled : (u : List ℕ) → BeginsNot (λ c. eqb c 120) u → Spelled (48 ∷ u) (1 + digits_len 8 u)
octal_spelled u x =
    let m = digits_len 8 u in
    let one : 1 + m ≡ suc m = omega arith in
    let told = prefix_passes (λ d. is_digit d 8) u in
    rw one (λ h. subst (λ y. LiteralThen (48 ∷ take m u) (48 ∷ y) (drop m u)) (take-append-drop m u)
    (LiteralThen.octal (take m u) (drop m u) told.0 told.1 (subst (BeginsNot (λ c. eqb c 120)) (sym (take-append-drop m u)) x)))

zero_spelled : (u : List ℕ) → Spelled (48 ∷ u) (behind_zero_len u)
zero_spelled [] = octal_spelled [] tt
zero_spelled (c ∷ w) =
    if_case (Spelled (48 ∷ c ∷ w)) (eqb c 120) _ _
    (λ e. rw (eqb-true c 120 e) (hex_spelled w))
    (λ e. octal_spelled (c ∷ w) e)

numeral_spelled : (t : List ℕ) → Spelled t (numeral_len t)
unfolding numeral_len
numeral_spelled [] = λ h. absurd (omega (arith, h))
numeral_spelled (c ∷ u) =
    if_case (Spelled (c ∷ u)) (eqb c 48) _ _
    (λ e. rw (eqb-true c 48 e) (zero_spelled u))
    (λ e. decimal_spelled c u e)

word_spelled : (t : List ℕ) → Spelled t (word_len t)
unfolding word_len
word_spelled t =
    let n = prefix_len is_letter t in
    if_case (Spelled t) (is_truth_word (take n t)) n 0
    (λ e h. subst (λ x. LiteralThen (take n t) x (drop n t)) (take-append-drop n t) (LiteralThen.word (take n t) (drop n t) e (prefix_passes is_letter t).1))
    (λ e h. absurd (omega (arith, h)))

pub literal_spelled : (t : List ℕ) → Spelled t (literal_len t)
unfolding literal_len
literal_spelled t = if_case (Spelled t) (eqb (numeral_len t) 0) _ _ (λ e. word_spelled t) (λ e. numeral_spelled t)
