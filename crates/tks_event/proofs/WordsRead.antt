-- Words in brackets, as they are read.
use Rattle.std.proofs.Common.{◌≡◌, ℕ, suc, ◌+◌, Bool, true, false, not, ◌==◌, List, [], ◌∷◌, ◌++◌, append-nil, take, drop, Some, None, refl, sym, ap, ◌∙◌, subst, arith, take-append-drop}
use Rattle.std.specs.List.{AllByRecursion, prefix_len}
use Rattle.std.proofs.lemmas.Bool.{eqb-true, cond_both}
use Rattle.tks_text.proofs.Tests.{neither, or_case}
use Rattle.tks_event.specs.Spelling.{is_separator, ends_word, AreSeparators}
use Rattle.tks_event.specs.Reading.{Words, with_char, with_word, begins_no_word, words_at}
use Rattle.tks_text.specs.Text.{BeginsNot}
use Rattle.tks_event.specs.View.{word_before, word_then}

-- ---- one word

abbrev pub NoEnd : List ℕ → Type 0
NoEnd w = AllByRecursion (λ c. ends_word c ≡ false) w

abbrev pub with_chars : List ℕ → Words → Words
with_chars [] x = x
with_chars (c ∷ w) x = with_char c (with_chars w x)

pub word_read : (w t : List ℕ) → NoEnd w → words_at (w ++ t) ≡ with_chars w (words_at t)
unfolding words_at
word_read [] t h = refl
word_read (c ∷ w) t h =
    let n = neither (is_separator c) (c == 62) h.0 in
    rw (n.1, n.0) (ap (with_char c) (word_read w t h.1))

pub chars_none : (w : List ℕ) (x : Words) → x ≡ None → with_chars w x ≡ None
chars_none [] x e = e
chars_none (c ∷ w) x e = ap (with_char c) (chars_none w x e)

pub chars_some : (w u : List ℕ) (ws : List (List ℕ)) (v : List ℕ) → with_chars w (Some (u ∷ ws, v)) ≡ Some ((w ++ u) ∷ ws, v)
chars_some [] u ws v = refl
chars_some (c ∷ w) u ws v = ap (with_char c) (chars_some w u ws v)

pub chars_word : (w : List ℕ) (x : Words) → with_chars w (with_word [] x) ≡ with_word w x
chars_word w None = chars_none w None refl
chars_word w (Some x) = chars_some w [] x.0 x.1 ∙ ap (λ y. Some (y ∷ x.0, x.1)) (append-nil w)

-- a word at the end of the text, before a `>` with separators or none between, and before another word
pub word_at_end : (w : List ℕ) → NoEnd w → words_at (w ++ []) ≡ None
unfolding words_at
word_at_end w h = word_read w [] h ∙ chars_none w None refl

separator_isnt : (c : ℕ) → is_separator c ≡ true → (c == 62) ≡ false
separator_isnt c s =
    let step : (b : Bool) → (c == 62) ≡ b → b ≡ false = λ b. elim b as (λ x. (c == 62) ≡ x → x ≡ false) [
      | true ↦ λ e. let same = eqb-true c 62 e in let odd : is_separator 62 ≡ true = subst (λ x. is_separator x ≡ true) same s in absurd cc
      | false ↦ λ e. refl
    ] in
    step (c == 62) refl

separator_skipped : (c : ℕ) (t : List ℕ) → is_separator c ≡ true → begins_no_word t ≡ true → words_at (c ∷ t) ≡ words_at t
unfolding words_at
separator_skipped c t h b = rw (separator_isnt c h, h, b) refl

separator_ends : (c : ℕ) → is_separator c ≡ true → ends_word c ≡ true
separator_ends c h = rw h refl

no_word_before : (s v : List ℕ) → AreSeparators s → begins_no_word (s ++ 62 ∷ v) ≡ true
no_word_before [] v h = refl
no_word_before (c ∷ s) v h = separator_ends c h.0

separators_last : (s v : List ℕ) → AreSeparators s → words_at (s ++ 62 ∷ v) ≡ Some ([] ∷ [], v)
unfolding words_at
separators_last [] v h = refl
separators_last (c ∷ s) v h = separator_skipped c (s ++ 62 ∷ v) h.0 (no_word_before s v h.1) ∙ separators_last s v h.1

pub last_word : (w s v : List ℕ) → NoEnd w → AreSeparators s → words_at (w ++ (s ++ 62 ∷ v)) ≡ Some (w ∷ [], v)
last_word w s v h k =
    word_read w (s ++ 62 ∷ v) h ∙ ap (with_chars w) (separators_last s v k) ∙ chars_some w [] [] v ∙ ap (λ y. Some (y ∷ [], v)) (append-nil w)

separator_read : (c : ℕ) (t : List ℕ) → is_separator c ≡ true → begins_no_word t ≡ false → words_at (c ∷ t) ≡ with_word [] (words_at t)
unfolding words_at
separator_read c t h b = rw (separator_isnt c h, h, b) refl

separators_read : (c : ℕ) (s u : List ℕ) → is_separator c ≡ true → AreSeparators s → begins_no_word u ≡ false → words_at (c ∷ s ++ u) ≡ with_word [] (words_at u)
separators_read c [] u h k b = separator_read c u h b
separators_read c (d ∷ s) u h k b = separator_skipped c (d ∷ s ++ u) h (separator_ends d k.0) ∙ separators_read d s u k.0 k.1 b

pub next_word : (w : List ℕ) (c : ℕ) (s u : List ℕ) → NoEnd w → is_separator c ≡ true → AreSeparators s → begins_no_word u ≡ false → words_at (w ++ (c ∷ s ++ u)) ≡ with_word w (words_at u)
next_word w c s u h k l b = word_read w (c ∷ s ++ u) h ∙ ap (with_chars w) (separators_read c s u k l b) ∙ chars_word w (words_at u)

-- ---- the word that a text begins with

abbrev pub in_word : ℕ → Bool
in_word c = not (ends_word c)

not_true : (b : Bool) → not b ≡ true → b ≡ false
not_true true e = absurd cc
not_true false e = refl

not_false : (b : Bool) → not b ≡ false → b ≡ true
not_false true e = refl
not_false false e = absurd cc

pub front_no_end : (t : List ℕ) → NoEnd (take (prefix_len in_word t) t)
front_no_end [] = tt
front_no_end (c ∷ t) =
    let one : 1 + prefix_len in_word t ≡ suc (prefix_len in_word t) = omega arith in
    cond_both (in_word c) (1 + prefix_len in_word t) 0 (λ n. NoEnd (take n (c ∷ t))) (λ e. rw one (not_true (ends_word c) e, front_no_end t)) (λ e. tt)

-- what stands behind the word
abbrev pub Ended : List ℕ → Type 0
Ended [] = Unit {0}
Ended (c ∷ t) = ends_word c ≡ true

pub behind_ended : (t : List ℕ) → Ended (drop (prefix_len in_word t) t)
behind_ended [] = tt
behind_ended (c ∷ t) =
    let one : 1 + prefix_len in_word t ≡ suc (prefix_len in_word t) = omega arith in
    cond_both (in_word c) (1 + prefix_len in_word t) 0 (λ n. Ended (drop n (c ∷ t))) (λ e. rw one (behind_ended t)) (λ e. not_false (ends_word c) e)

abbrev front : List ℕ → List ℕ
front t = take (prefix_len in_word t) t

abbrev back : List ℕ → List ℕ
back t = drop (prefix_len in_word t) t

whole_word : (t b : List ℕ) → back t ≡ b → t ≡ front t ++ b
whole_word t b e = sym (take-append-drop (prefix_len in_word t) t) ∙ ap (λ x. front t ++ x) e

pub read_none : (t : List ℕ) → back t ≡ [] → words_at t ≡ None
read_none t e = ap words_at (whole_word t [] e) ∙ word_at_end (front t) (front_no_end t)

pub read_last : (t v : List ℕ) → back t ≡ 62 ∷ v → words_at t ≡ Some (front t ∷ [], v)
read_last t v e = ap words_at (whole_word t (62 ∷ v) e) ∙ last_word (front t) [] v (front_no_end t) tt

separators_front : (u : List ℕ) → AreSeparators (take (prefix_len is_separator u) u)
separators_front [] = tt
separators_front (c ∷ u) =
    let one : 1 + prefix_len is_separator u ≡ suc (prefix_len is_separator u) = omega arith in
    cond_both (is_separator c) (1 + prefix_len is_separator u) 0 (λ n. AreSeparators (take n (c ∷ u))) (λ e. rw one (e, separators_front u)) (λ e. tt)

separators_back : (u : List ℕ) → BeginsNot is_separator (drop (prefix_len is_separator u) u)
separators_back [] = tt
separators_back (c ∷ u) =
    let one : 1 + prefix_len is_separator u ≡ suc (prefix_len is_separator u) = omega arith in
    cond_both (is_separator c) (1 + prefix_len is_separator u) 0 (λ n. BeginsNot is_separator (drop n (c ∷ u))) (λ e. rw one (separators_back u)) (λ e. e)

ends_not_last : (c : ℕ) → ends_word c ≡ true → (c == 62) ≡ false → is_separator c ≡ true
ends_not_last c h b = or_case (is_separator c) (c == 62) h (λ s. s) (λ e. absurd cc)

-- what stands behind the separators after the word
module _ (t : List ℕ) (c : ℕ) (s : List ℕ) (h : is_separator c ≡ true) (k : AreSeparators s) where
  read_behind : (x : List ℕ) → back t ≡ c ∷ s ++ x → BeginsNot is_separator x → words_at t ≡ word_before (front t) x
  unfolding words_at
  read_behind [] e b = ap words_at (whole_word t (c ∷ s ++ []) e) ∙ next_word (front t) c s [] (front_no_end t) h k refl
  read_behind (d ∷ v) e b =
      cond_both (d == 62) (Some (front t ∷ [], v)) (with_word (front t) (words_at (d ∷ v))) (λ x. words_at t ≡ x)
      (λ f. ap words_at (whole_word t (c ∷ s ++ d ∷ v) e ∙ ap (λ y. front t ++ (c ∷ s ++ y ∷ v)) (eqb-true d 62 f)) ∙ last_word (front t) (c ∷ s) v (front_no_end t) (h, k))
      (λ f. ap words_at (whole_word t (c ∷ s ++ d ∷ v) e) ∙ next_word (front t) c s (d ∷ v) (front_no_end t) h k (rw (b, f) refl))

read_next : (t u : List ℕ) (c : ℕ) → back t ≡ c ∷ u → (c == 62) ≡ false → words_at t ≡ word_before (front t) (drop (prefix_len is_separator u) u)
read_next t u c e b =
    let n = prefix_len is_separator u in
    read_behind t c (take n u) (ends_not_last c (subst Ended e (behind_ended t)) b) (separators_front u) (drop n u) (e ∙ ap (λ x. c ∷ x) (sym (take-append-drop n u))) (separators_back u)

read_on : (t b : List ℕ) → back t ≡ b → words_at t ≡ word_then (front t) b
read_on t [] e = read_none t e
read_on t (c ∷ u) e =
    cond_both (c == 62) (Some (front t ∷ [], u)) (word_before (front t) (drop (prefix_len is_separator u) u)) (λ x. (c == 62) ≡ (c == 62) → words_at t ≡ x)
    (λ b k. read_last t u (subst (λ d. back t ≡ d ∷ u) (eqb-true c 62 b) e)) (λ b k. read_next t u c e b) refl

pub word_reads : (t : List ℕ) → words_at t ≡ word_then (take (prefix_len (λ c. not (ends_word c)) t) t) (drop (prefix_len (λ c. not (ends_word c)) t) t)
word_reads t = read_on t (back t) refl
