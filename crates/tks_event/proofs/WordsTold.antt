-- The words that a text is, and those that are read.
use Rattle.std.proofs.Common.{◌≡◌, ℕ, ◌<◌, true, false, ◌==◌, List, [], ◌∷◌, ◌++◌, length, Some, None, refl, sym, ap, ◌∙◌, subst, arith}
use Rattle.std.specs.List.{AllByRecursion}
use Rattle.std.proofs.lemmas.Bool.{eqb-true, cond_both}
use Rattle.tks_event.specs.Spelling.{is_separator, ends_word, AreSeparators, IsWord, IsSeparation, WordsThen, last, word}
use Rattle.tks_event.specs.Reading.{Words, with_char, with_word, begins_no_word, words_at}
use Rattle.tks_event.proofs.WordsRead.{NoEnd, last_word, next_word}

-- ---- what is spelled is read

word_begins : (w t : List ℕ) → IsWord w → begins_no_word (w ++ t) ≡ false
word_begins [] t h = absurd (omega (arith, h.0))
word_begins (c ∷ w) t h = h.1.0

words_begin : (v : List ℕ) (ws : List (List ℕ)) (u : List ℕ) → WordsThen v ws u → begins_no_word u ≡ false
words_begin v _ _ (last w s h k) = word_begins w (s ++ v) h
words_begin v _ _ (word w s u ws h k l) = word_begins w (s ++ u) h

before_words : (w s u : List ℕ) → NoEnd w → IsSeparation s → begins_no_word u ≡ false → words_at (w ++ (s ++ u)) ≡ with_word w (words_at u)
before_words w [] u h k b = absurd (omega (arith, k.0))
before_words w (c ∷ s) u h k b = next_word w c s u h k.1.0 k.1.1 b

pub words_spelled : (v : List ℕ) (ws : List (List ℕ)) (u : List ℕ) → WordsThen (62 ∷ v) ws u → words_at u ≡ Some (ws, v)
words_spelled v _ _ (last w s h k) = last_word w s v h.1 k
words_spelled v _ _ (word w s u ws h k l) = before_words w s u h.1 k (words_begin (62 ∷ v) ws u l) ∙ ap (with_word w) (words_spelled v ws u l)

-- ---- what is read is spelled

-- words that may be empty
data Cut (v : List ℕ) : List (List ℕ) → List ℕ → Type 0 where
  cut_last : (w s : List ℕ) → NoEnd w → AreSeparators s → Cut v (w ∷ []) (w ++ (s ++ 62 ∷ v))
  cut_word : (w s u : List ℕ) (ws : List (List ℕ)) → NoEnd w → IsSeparation s → Cut v ws u → Cut v (w ∷ ws) (w ++ (s ++ u))

one_more : (v w t : List ℕ) (ws : List (List ℕ)) (c : ℕ) → ends_word c ≡ false → Cut v (w ∷ ws) t → Cut v ((c ∷ w) ∷ ws) (c ∷ t)
one_more v w _ _ c b (cut_last _ s h k) = cut_last (c ∷ w) s (b, h) k
one_more v w _ _ c b (cut_word _ s u ws h k l) = cut_word (c ∷ w) s u ws (b, h) k l

not_both : (c : ℕ) → ends_word c ≡ false → ends_word c ≡ true → ⊥
not_both c b e = absurd cc

longer_separation : (v t : List ℕ) (ws : List (List ℕ)) (c : ℕ) → is_separator c ≡ true → begins_no_word t ≡ true → Cut v ws t → Cut v ws (c ∷ t)
longer_separation v _ _ c s b (cut_last [] e h k) = cut_last [] (c ∷ e) tt (s, k)
longer_separation v _ _ c s b (cut_last (d ∷ w) e h k) = absurd (not_both d h.0 b)
longer_separation v _ _ c s b (cut_word [] e u ws h k l) = cut_word [] (c ∷ e) u ws tt (omega arith, (s, k.1)) l
longer_separation v _ _ c s b (cut_word (d ∷ w) e u ws h k l) = absurd (not_both d h.0 b)

-- what a text gives, as a relation to the words
abbrev CutSo : List ℕ → Words → Type 0
CutSo t None = Unit {0}
CutSo t (Some x) = Cut x.1 x.0 t

cut_char : (c : ℕ) (t : List ℕ) (x : Words) → ends_word c ≡ false → CutSo t x → CutSo (c ∷ t) (with_char c x)
cut_char c t None b h = tt
cut_char c t (Some ([], v)) b h = tt
cut_char c t (Some (w ∷ ws, v)) b h = one_more v w t ws c b h

cut_separator : (c : ℕ) (t : List ℕ) (x : Words) → is_separator c ≡ true → CutSo t x → CutSo (c ∷ t) (with_word [] x)
cut_separator c t None s h = tt
cut_separator c t (Some x) s h = cut_word [] (c ∷ []) t x.0 tt (omega arith, (s, tt)) h

cut_longer : (c : ℕ) (t : List ℕ) (x : Words) → is_separator c ≡ true → begins_no_word t ≡ true → CutSo t x → CutSo (c ∷ t) x
cut_longer c t None s b h = tt
cut_longer c t (Some x) s b h = longer_separation x.1 t x.0 c s b h

words_cut : (t : List ℕ) → CutSo t (words_at t)
unfolding words_at
words_cut [] = tt
words_cut (c ∷ t) =
    let ih = words_cut t in
    cond_both (c == 62) (Some ([] ∷ [], t)) _ (CutSo (c ∷ t)) (λ e. subst (λ d. Cut t ([] ∷ []) (d ∷ t)) (sym (eqb-true c 62 e)) (cut_last [] [] tt tt))
    (λ e. cond_both (is_separator c) _ (with_char c (words_at t)) (CutSo (c ∷ t))
    (λ s. cond_both (begins_no_word t) (words_at t) (with_word [] (words_at t)) (CutSo (c ∷ t))
    (λ b. cut_longer c t (words_at t) s b ih) (λ b. cut_separator c t (words_at t) s ih))
    (λ s. cut_char c t (words_at t) (rw (s, e) refl) ih))

-- no word is empty
abbrev pub Filled : List (List ℕ) → Type 0
Filled ws = AllByRecursion (λ (w : List ℕ). 0 < length w) ws

filled_cut : (v t : List ℕ) (ws : List (List ℕ)) → Cut v ws t → Filled ws → WordsThen (62 ∷ v) ws t
filled_cut v _ _ (cut_last w s h k) f = last w s (f.0, h) k
filled_cut v _ _ (cut_word w s u ws h k l) f = word w s u ws (f.0, h) k (filled_cut v u ws l f.1)

pub words_told : (t v : List ℕ) (ws : List (List ℕ)) → words_at t ≡ Some (ws, v) → Filled ws → WordsThen (62 ∷ v) ws t
words_told t v ws e f = filled_cut v t ws (subst (CutSo t) e (words_cut t)) f
