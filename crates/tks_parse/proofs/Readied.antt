-- Commands whose words all stand for themselves: their words are read with no step that opens anything.
use Rattle.std.proofs.Common.{◌≡◌, ℕ, zero, suc, ◌+◌, ◌-◌, ◌<◌, ◌≤◌, Bool, true, false, cond, inl, inr, List, [], ◌∷◌, ◌++◌, length, take, drop, get_or, None, refl, sym, ap, subst, ◌∙◌, arith}
use Rattle.std.specs.Prelude.{◌||◌, ◌&&◌, ◌==◌, ◌⊎◌, not}
use Rattle.std.specs.List.{prefix_len}
use Rattle.std.proofs.lemmas.Bool.{eqb-true}
use Rattle.tks_text.specs.Backslash.{is_blank}
use Rattle.tks_text.specs.Run.{stop, takes, Run, with_item, past_byte, on_run}
use Rattle.tks_text.specs.declared.fault.ScriptFault.{ScriptFault}
use Rattle.tks_parse.specs.Tree.{Script, Words, no_word, word, Parts, no_part, char, chars, join_words}
use Rattle.tks_parse.specs.Class.{is_separator, ends_script, ends_command, ends_word, is_expanded}
use Rattle.tks_parse.specs.Ready.{is_simple, is_ready}
use Rattle.tks_parse.specs.Reading.{part_step, parts_at, bare_word, plain_word, prefixed_word, word_step}
use Rattle.tks_parse.specs.View.{ready_words}
use Rattle.tks_parse.specs.declared.mode.Place.{Place}
use Rattle.tks_parse.specs.declared.mode.Place.TheVariants.{Alone, Brackets}
use Rattle.tks_parse.specs.declared.mode.Mode.TheVariants.{Bare}
use Rattle.tks_parse.specs.declared.syntax.Syntax.{Syntax}
use Rattle.tks_parse.proofs.Joins.{ready_push, join_words_none}
use Rattle.tks_parse.proofs.Tests.{or_left, or_right, or_cases, and_cases, not_true}

-- one more word at the end
pub ready_more : (ts : List (List ℕ)) (t : List ℕ) → ready_words (ts ++ t ∷ []) ≡ join_words (ready_words ts) (ready_words (t ∷ []))
ready_more ts t = sym (join_words_none (ready_words (ts ++ t ∷ []))) ∙ ready_push ts t no_word

-- ---- characters

record IsNone (c : ℕ) : Type 0 where
  dollar : (c == 36) ≡ false
  bracket : (c == 91) ≡ false
  backslash : (c == 92) ≡ false
  quote : (c == 34) ≡ false
  brace : (c == 123) ≡ false

none_of : (c : ℕ) → is_simple c ≡ true → IsNone c
none_of c h =
    let a = and_cases _ _ h in
    let b = and_cases _ _ a.1 in
    let d = and_cases _ _ b.1 in
    let e = and_cases _ _ d.1 in
    record { dollar = not_true _ a.0; bracket = not_true _ b.0; backslash = not_true _ d.0; quote = not_true _ e.0; brace = not_true _ e.1 }

both_false : (a b : Bool) → a ≡ false → b ≡ false → (a || b) ≡ false
both_false true b h k = absurd cc
both_false false b h k = k

one_true : (a b : Bool) → (a ≡ true) ⊎ (b ≡ true) → (a || b) ≡ true
one_true true b h = refl
one_true false b (inl h) = absurd cc
one_true false b (inr h) = h

-- what ends no word ends no command, and what ends one and is no blank ends the command
goes_on : (place : Place) (c : ℕ) → ends_word place c ≡ false → ends_command place c ≡ false
goes_on place c e = both_false (is_separator c) (ends_script place c) (or_right (is_blank c) (is_separator c) (or_left (is_blank c || is_separator c) (ends_script place c) e)) (or_right (is_blank c || is_separator c) (ends_script place c) e)

ends_all : (place : Place) (c : ℕ) → is_blank c ≡ false → ends_word place c ≡ true → ends_command place c ≡ true
ends_all place c b e = one_true (is_separator c) (ends_script place c) (by (or_cases (is_blank c || is_separator c) (ends_script place c) e))
  where
    no_blank : (is_blank c ≡ true) ⊎ (is_separator c ≡ true) → is_separator c ≡ true
    no_blank (inl k) = absurd (let never : true ≡ false = sym k ∙ b in cc)
    no_blank (inr k) = k

    by : ((is_blank c || is_separator c) ≡ true) ⊎ (ends_script place c ≡ true) → (is_separator c ≡ true) ⊎ (ends_script place c ≡ true)
    by (inl k) = inl (no_blank (or_cases (is_blank c) (is_separator c) k))
    by (inr k) = inr k

blank_goes : (place : Place) (c : ℕ) → is_blank c ≡ true → ends_command place c ≡ false
blank_goes place c h = by (or_cases (c == 32) (c == 9) h)
  where
    at_space : (place : Place) → ends_command place 32 ≡ false
    at_space Alone = refl
    at_space Brackets = refl

    at_tab : (place : Place) → ends_command place 9 ≡ false
    at_tab Alone = refl
    at_tab Brackets = refl

    by : ((c == 32) ≡ true) ⊎ ((c == 9) ≡ true) → ends_command place c ≡ false
    by (inl e) = subst (λ n. ends_command place n ≡ false) (sym (eqb-true c 32 e)) (at_space place)
    by (inr e) = subst (λ n. ends_command place n ≡ false) (sym (eqb-true c 9 e)) (at_tab place)

end_is_no_fold : (place : Place) (c : ℕ) → ends_command place c ≡ true → (c == 92) ≡ false
end_is_no_fold place c h = by (or_cases (is_separator c) (ends_script place c) h)
  where
    separator : ((c == 10) ≡ true) ⊎ ((c == 59) ≡ true) → (c == 92) ≡ false
    separator (inl e) = subst (λ n. (n == 92) ≡ false) (sym (eqb-true c 10 e)) refl
    separator (inr e) = subst (λ n. (n == 92) ≡ false) (sym (eqb-true c 59 e)) refl

    script : (p : Place) → ends_script p c ≡ true → (c == 92) ≡ false
    script Alone e = absurd cc
    script Brackets e = subst (λ n. (n == 92) ≡ false) (sym (eqb-true c 93 e)) refl

    by : (is_separator c ≡ true) ⊎ (ends_script place c ≡ true) → (c == 92) ≡ false
    by (inl e) = separator (or_cases (c == 10) (c == 59) e)
    by (inr e) = script place e

not_expanded : (place : Place) (c : ℕ) (u : List ℕ) → (c == 123) ≡ false → is_expanded place (c ∷ u) ≡ false
not_expanded place c [] h = refl
not_expanded place c (b ∷ []) h = refl
not_expanded place c (b ∷ d ∷ u) h = rw h refl

-- ---- words

module _ (place : Place) where
  abbrev pub word_length : List ℕ → ℕ
  word_length t = prefix_len (λ c. not (ends_word place c)) t

  -- a command that goes on is simple at its front and ready behind it
  ready_next : (c : ℕ) (u : List ℕ) → is_ready place (c ∷ u) ≡ true → ends_command place c ≡ false → (is_simple c ≡ true) × (is_ready place u ≡ true)
  ready_next c u h e = and_cases (is_simple c) (is_ready place u) (subst (λ b. cond b true (is_simple c && is_ready place u) ≡ true) e h)

  pub ready_behind : (t : List ℕ) (k : ℕ) → is_ready place t ≡ true → k ≤ word_length t → is_ready place (drop k t) ≡ true
  ready_behind [] zero h le = refl
  ready_behind [] (suc k) h le = refl
  ready_behind (c ∷ u) zero h le = h
  ready_behind (c ∷ u) (suc k) h le = by (ends_word place c) refl le (ready_behind u k)
    where
      by : (b : Bool) → ends_word place c ≡ b → suc k ≤ cond (not b) (1 + word_length u) 0 → (is_ready place u ≡ true → k ≤ word_length u → is_ready place (drop k u) ≡ true) → is_ready place (drop k u) ≡ true
      by true e le rest = absurd (omega (arith, le))
      by false e le rest = rest (ready_next c u h (goes_on place c e)).1 (omega (arith, le))

  pub blank_behind : (t : List ℕ) → is_ready place t ≡ true → 1 ≤ length t → is_blank (get_or t 0 0) ≡ true → is_ready place (drop 1 t) ≡ true
  blank_behind [] h lt e = absurd (omega (arith, lt))
  blank_behind (c ∷ u) h lt e = (ready_next c u h (blank_goes place c e)).1

  pub word_there : (t : List ℕ) → 1 ≤ length t → ends_word place (get_or t 0 0) ≡ false → 1 ≤ word_length t
  word_there [] lt e = absurd (omega (arith, lt))
  word_there (c ∷ u) lt e = rw e (omega arith)

  module _ (nest : List ℕ → Run ScriptFault Script) (index : Syntax → List ℕ → Run ScriptFault Parts) where
    -- a bare word is its characters
    bare : (t : List ℕ) → is_ready place t ≡ true → parts_at nest index (Bare place) t ≡ record { items = chars (take (word_length t) t) no_part; fault = None; taken = word_length t }
    unfolding parts_at part_step
    bare [] h = refl
    bare (c ∷ u) h = by (ends_word place c) refl (bare u)
      where
        by : (b : Bool) → ends_word place c ≡ b
            → (is_ready place u ≡ true → parts_at nest index (Bare place) u ≡ record { items = chars (take (word_length u) u) no_part; fault = None; taken = word_length u })
            → parts_at nest index (Bare place) (c ∷ u) ≡ record { items = chars (take (word_length (c ∷ u)) (c ∷ u)) no_part; fault = None; taken = word_length (c ∷ u) }
        by true e rest = rw e refl
        by false e rest =
            let next = ready_next c u h (goes_on place c e) in
            let none = none_of c next.0 in
            let more : 1 + word_length u ≡ suc (word_length u) = omega arith in
            rw (e, none.dollar, none.bracket, none.backslash, more) (ap (λ (r : Run ScriptFault Parts). with_item (char c) (past_byte r)) (rest next.1))

    pub blank_steps : (t : List ℕ) → 1 ≤ length t → is_blank (get_or t 0 0) ≡ true → word_step nest index place t ≡ takes (join_words no_word) 0
    unfolding word_step
    blank_steps [] lt e = absurd (omega (arith, lt))
    blank_steps (c ∷ u) lt e = rw e refl

    pub end_stops : (t : List ℕ) → is_blank (get_or t 0 0) ≡ false → ends_word place (get_or t 0 0) ≡ true → word_step nest index place t ≡ stop
    unfolding word_step
    end_stops [] b e = refl
    end_stops (c ∷ u) b e =
        let ends = ends_all place c b e in
        rw (b, end_is_no_fold place c ends, ends) refl

    pub nothing_stops : (t : List ℕ) → length t < 1 → word_step nest index place t ≡ stop
    unfolding word_step
    nothing_stops [] lt = refl
    nothing_stops (c ∷ u) lt = absurd (omega (arith, lt))

    pub word_steps : (t : List ℕ) → is_ready place t ≡ true → 1 ≤ length t → is_blank (get_or t 0 0) ≡ false → ends_word place (get_or t 0 0) ≡ false
        → word_step nest index place t ≡ takes (join_words (ready_words (take (word_length t) t ∷ []))) (word_length t - 1)
    unfolding word_step prefixed_word plain_word bare_word
    word_steps [] h lt b e = absurd (omega (arith, lt))
    word_steps (c ∷ u) h lt b e =
        let ends = goes_on place c e in
        let none = none_of c (ready_next c u h ends).0 in
        let steps : word_step nest index place (c ∷ u) ≡ bare_word nest index place false (c ∷ u) = rw (b, none.backslash, ends, not_expanded place c u none.brace, none.quote, none.brace) refl in
        steps ∙ ap (λ (r : Run ScriptFault Parts). on_run r (λ parts n. takes (word false parts) (n - 1))) (bare (c ∷ u) h)
