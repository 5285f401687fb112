-- Values that are put into scripts are words.
use Rattle.std.proofs.Common.{◌≡◌, ℕ, ◌==◌, ◌||◌, true, false, List, [], ◌∷◌, ◌++◌, append_assoc, refl, sym, subst, inl, inr}
use Rattle.std.proofs.lemmas.List.{append-nil}
use Rattle.std.proofs.lemmas.Bool.{cond_both, eqb-true, false_from_ne_true}
use Rattle.tks_text.specs.Backslash.{Escapes, has_meaning, n_newline, t_tab, control, itself}
use Rattle.tks_text.specs.Text.{is_text_byte, BeginsNot}
use Rattle.tks_text.proofs.Tests.{or_case, neither}
use Rattle.tks_event.specs.Event.{Event}
use Rattle.tks_bind.specs.Percents.{has_field, field_text, value}
use Rattle.tks_bind.specs.declared.field.Field.{Field}
use Rattle.tks_list.specs.Quoting.{is_sign, backslashed_char, backslashed_chars, backslashed}
use Rattle.tks_parse.specs.Class.{ends_word_at, ends_parts, is_expanded}
use Rattle.tks_parse.specs.Script.{BlanksThen, GapThen, BeginsCommand, Nests, Verbatim, StandsForItself, WordsThen, PartsThen}
use Rattle.tks_parse.specs.Tree.{Words, no_word, word, Parts, no_part, char, chars}
use Rattle.tks_parse.specs.declared.mode.Place.{Place}
use Rattle.tks_parse.specs.declared.mode.Place.TheVariants.{Alone, Brackets}
use Rattle.tks_parse.specs.declared.mode.Mode.TheVariants.{Bare}
use Rattle.tks_world.specs.OneWord.{JoinsWords, IsOneWord, SpellsOneWord}

-- ---- characters

no_sign : (c d : ℕ) → is_sign d ≡ true → is_sign c ≡ false → c == d ≡ false
no_sign c d s e = false_from_ne_true (c == d) (λ k. let n : is_sign c ≡ true = rw (eqb-true c d k) s in absurd cc)

-- c stands for itself behind a backslash
abbrev IsPlain : ℕ → Type 0
IsPlain c = (has_meaning c ≡ false) × (is_text_byte c ≡ true) × (c == 10 ≡ false)

plain_as : (c d : ℕ) → IsPlain d → c == d ≡ true → IsPlain c
plain_as c d s k = subst IsPlain (sym (eqb-true c d k)) s

sign_is_plain : (c : ℕ) → (c == 32) || is_sign c ≡ true → IsPlain c
sign_is_plain c h =
    or_case (c == 32) (is_sign c) h (plain_as c 32 (refl, refl, refl))
    (λ g. or_case _ (c == 125) g (λ f. or_case _ (c == 123) f (λ e. or_case _ (c == 92) e (λ d. or_case _ (c == 93) d (λ b. or_case _ (c == 91) b
    (λ a. or_case _ (c == 59) a (λ k. or_case (c == 34) (c == 36) k (plain_as c 34 (refl, refl, refl)) (plain_as c 36 (refl, refl, refl)))
    (plain_as c 59 (refl, refl, refl))) (plain_as c 91 (refl, refl, refl))) (plain_as c 93 (refl, refl, refl))) (plain_as c 92 (refl, refl, refl))) (plain_as c 123 (refl, refl, refl))) (plain_as c 125 (refl, refl, refl)))

-- a backslash and a character that is no newline end no word
escape_inside : (place : Place) (c : ℕ) (u : List ℕ) → c == 10 ≡ false → ends_parts (Bare place) 92 (c ∷ u) ≡ false
escape_inside Alone c u h = h
escape_inside Brackets c u h = h

-- c is no white space and no sign
pub record IsBare (c : ℕ) : Type 0 where
  pub newline : c == 10 ≡ false
  pub tab : c == 9 ≡ false
  pub space : c == 32 ≡ false
  pub sign : is_sign c ≡ false

bare_inside : (place : Place) (c : ℕ) (u : List ℕ) → IsBare c → ends_parts (Bare place) c u ≡ false
bare_inside Alone c u b = rw (b.space, b.tab, b.newline, no_sign c 59 refl b.sign, no_sign c 92 refl b.sign) refl
bare_inside Brackets c u b = rw (b.space, b.tab, b.newline, no_sign c 59 refl b.sign, no_sign c 92 refl b.sign, no_sign c 93 refl b.sign) refl

bare_stands : (place : Place) (c : ℕ) (u : List ℕ) → IsBare c → StandsForItself (Bare place) c u
bare_stands place c u b = record {
  inside = bare_inside place c u b;
  plain = rw (no_sign c 91 refl b.sign, no_sign c 92 refl b.sign) refl;
  no_variable = λ e. let n : is_sign c ≡ true = rw e refl in absurd cc;
}

-- ---- the three forms of a character

by_form : (P : List ℕ → Type 0) (c : ℕ) → (c ≡ 10 → P (92 ∷ 110 ∷ [])) → (c ≡ 9 → P (92 ∷ 116 ∷ [])) → (IsPlain c → P (92 ∷ c ∷ [])) → (IsBare c → P (c ∷ [])) → P (backslashed_char c)
by_form P c newline tab sign bare =
    cond_both (c == 10) (92 ∷ 110 ∷ []) _ P (λ k. newline (eqb-true c 10 k))
    (λ k. cond_both (c == 9) (92 ∷ 116 ∷ []) _ P (λ i. tab (eqb-true c 9 i))
    (λ i. cond_both ((c == 32) || is_sign c) (92 ∷ c ∷ []) (c ∷ []) P (λ s. sign (sign_is_plain c s))
    (λ s. let n = neither (c == 32) (is_sign c) s in bare (record { newline = k; tab = i; space = n.0; sign = n.1 }))))

-- ---- parts

-- an escape that takes one byte
escaped_part : (place : Place) (d c l : ℕ) (u v : List ℕ) (rest : Parts) → l == 10 ≡ false → Escapes (l ∷ u) c 1 → is_text_byte c ≡ true → PartsThen rest d (Bare place) u v → PartsThen (char c rest) d (Bare place) (92 ∷ l ∷ u) v
escaped_part place d c l u v rest n e t h = inr (l ∷ u, u, refl, record { inside = escape_inside place l u n; taken = 1; is = e; text = t; rest = refl }, h)

char_part : (place : Place) (d c : ℕ) (u v : List ℕ) (rest : Parts) → PartsThen rest d (Bare place) u v → PartsThen (char c rest) d (Bare place) (backslashed_char c ++ u) v
char_part place d c u v rest h =
    by_form (λ t. PartsThen (char c rest) d (Bare place) (t ++ u) v) c
    (λ e. subst (λ x. PartsThen (char x rest) d (Bare place) (92 ∷ 110 ∷ u) v) (sym e) (escaped_part place d 10 110 u v rest refl (control 110 10 u n_newline) refl h))
    (λ e. subst (λ x. PartsThen (char x rest) d (Bare place) (92 ∷ 116 ∷ u) v) (sym e) (escaped_part place d 9 116 u v rest refl (control 116 9 u t_tab) refl h))
    (λ p. escaped_part place d c c u v rest p.2 (itself c u p.0) p.1 h)
    (λ b. inl (u, refl, bare_stands place c u b, h))

chars_parts : (place : Place) (d : ℕ) (e v : List ℕ) → PartsThen (chars e no_part) d (Bare place) (backslashed_chars e ++ v) v
chars_parts place d [] v = refl
chars_parts place d (c ∷ e) v =
    subst (λ t. PartsThen (chars (c ∷ e) no_part) d (Bare place) t v) (sym (append_assoc (backslashed_char c) (backslashed_chars e) v))
    (char_part place d c (backslashed_chars e ++ v) v (chars e no_part) (chars_parts place d e v))

-- ---- where a word begins

-- a bare word that isn't split begins here, and a command may
pub record BeginsBare (place : Place) (t : List ℕ) : Type 0 where
  pub goes_on : ends_word_at place t ≡ false
  pub whole : is_expanded place t ≡ false
  pub bare : BeginsNot (λ c. (c == 34) || (c == 123)) t
  pub no_comment : BeginsNot (λ c. c == 35) t

not_expanded : (place : Place) (c : ℕ) (t : List ℕ) → c == 123 ≡ false → is_expanded place (c ∷ t) ≡ false
not_expanded place c [] h = refl
not_expanded place c (a ∷ []) h = refl
not_expanded place c (a ∷ b ∷ t) h = rw h refl

escape_begins : (place : Place) (l : ℕ) (u : List ℕ) → l == 10 ≡ false → BeginsBare place (92 ∷ l ∷ u)
escape_begins place l u n = record { goes_on = escape_inside place l u n; whole = not_expanded place 92 (l ∷ u) refl; bare = refl; no_comment = refl }

char_begins : (place : Place) (c : ℕ) (u : List ℕ) → c == 35 ≡ false → BeginsBare place (backslashed_char c ++ u)
char_begins place c u h =
    by_form (λ t. BeginsBare place (t ++ u)) c (λ e. escape_begins place 110 u refl) (λ e. escape_begins place 116 u refl) (λ p. escape_begins place c u p.2)
    (λ b. record {
      goes_on = bare_inside place c u b;
      whole = not_expanded place c u (no_sign c 123 refl b.sign);
      bare = rw (no_sign c 34 refl b.sign, no_sign c 123 refl b.sign) refl;
      no_comment = h;
    })

-- ---- words

bare_word : (d : ℕ) (place : Place) (e t v w : List ℕ) (words : Words) → BeginsBare place t → PartsThen (chars e no_part) d (Bare place) t v → ends_word_at place v ≡ true → WordsThen words d place v w → WordsThen (word false (chars e no_part) words) d place t w
bare_word d place e t v w words b p h more = (t, v, BlanksThen.no_blank t, b.goes_on, b.whole, rw b.whole (inr (inr (b.bare, p))), h, more)

-- the empty text stands in braces
braces_begin : (place : Place) (v : List ℕ) → ends_word_at place (123 ∷ 125 ∷ v) ≡ false
braces_begin Alone v = refl
braces_begin Brackets v = refl

braces_whole : (place : Place) (v : List ℕ) → is_expanded place (123 ∷ 125 ∷ v) ≡ false
braces_whole place [] = refl
braces_whole place (c ∷ v) = refl

no_char_word : (d : ℕ) (place : Place) (v w : List ℕ) (words : Words) → ends_word_at place v ≡ true → WordsThen words d place v w → WordsThen (word false no_part words) d place (123 ∷ 125 ∷ v) w
no_char_word d place v w words h more = (
  123 ∷ 125 ∷ v,
  v,
  BlanksThen.no_blank (123 ∷ 125 ∷ v),
  braces_begin place v,
  braces_whole place v,
  rw (braces_whole place v) (inr (inl (125 ∷ v, [], [], refl, record { nests = Nests.nothing; is = refl }, Verbatim.nothing, refl))),
  h,
  more,
)

backslashed_joins : (e : List ℕ) (d : ℕ) (place : Place) (words : Words) (v w : List ℕ) → ends_word_at place v ≡ true → WordsThen words d place v w → JoinsWords e (backslashed e) d place words v w
backslashed_joins [] d place words v w h more = record { joins = no_char_word d place v w words h more; begins = record { word = braces_begin place v; no_comment = refl } }
backslashed_joins (c ∷ e) d place words v w h more =
    cond_both (c == 35) (92 ∷ 35 ∷ backslashed_chars e) (backslashed_chars (c ∷ e)) (λ t. JoinsWords (c ∷ e) t d place words v w)
    (λ k. let b = escape_begins place 35 (backslashed_chars e ++ v) refl in
    subst (λ x. JoinsWords (x ∷ e) (92 ∷ 35 ∷ backslashed_chars e) d place words v w) (sym (eqb-true c 35 k))
    (record {
      joins = bare_word d place (35 ∷ e) (92 ∷ 35 ∷ backslashed_chars e ++ v) v w words b (escaped_part place d 35 35 (backslashed_chars e ++ v) v (chars e no_part) refl (itself 35 (backslashed_chars e ++ v) refl) refl (chars_parts place d e v)) h more;
      begins = record { word = b.goes_on; no_comment = b.no_comment };
    }))
    (λ k. let b : BeginsBare place (backslashed_chars (c ∷ e) ++ v) = subst (BeginsBare place) (sym (append_assoc (backslashed_char c) (backslashed_chars e) v)) (char_begins place c (backslashed_chars e ++ v) k) in
    record {
      joins = bare_word d place (c ∷ e) (backslashed_chars (c ∷ e) ++ v) v w words b (chars_parts place d (c ∷ e) v) h more;
      begins = record { word = b.goes_on; no_comment = b.no_comment };
    })

backslashed_is_word : (e : List ℕ) → IsOneWord e (backslashed e)
backslashed_is_word e = λ d place words v w h more. backslashed_joins e d place words v w h more

word_alone : (e t : List ℕ) → IsOneWord e t → SpellsOneWord e t
word_alone e t h =
    let j : JoinsWords e t 32 Alone no_word [] [] = h 32 Alone no_word [] [] refl (BlanksThen.no_blank []) in
    let n : t ++ [] ≡ t = append-nil t in
    inl (t, [], GapThen.no_gap t, subst (BeginsCommand Alone) n j.begins, subst (λ u. WordsThen (word false (chars e no_part) no_word) 32 Alone u []) n j.joins, refl, GapThen.no_gap [])

-- ---- values of fields

pub value_is_word : (e : Event) (path : List ℕ) (f : Field) → has_field e.kind f ≡ true → IsOneWord (field_text e path f) (value e path f)
value_is_word e path f h = rw h (backslashed_is_word (field_text e path f))

pub value_spells : (e : Event) (path : List ℕ) (f : Field) → has_field e.kind f ≡ true → SpellsOneWord (field_text e path f) (value e path f)
value_spells e path f h = word_alone (field_text e path f) (value e path f) (value_is_word e path f h)
