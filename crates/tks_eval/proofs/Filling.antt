-- Words that are made at once, up to a script or an index, come to what evaluation says of them.
use Rattle.std.proofs.Common.{◌≡◌, ℕ, Bool, ◌+◌, true, false, ◌&&◌, cond, List, [], ◌∷◌, ◌++◌, Result, Ok, Err, refl, sym, ap, ◌∙◌, arith, append-nil, append_assoc}
use Rattle.std.specs.List.{list_all}
use Rattle.std.proofs.lemmas.Bool.{le-leb}
use Rattle.tks_text.specs.declared.limits.Limits.{Limits}
use Rattle.tks_parse.specs.Tree.{Words, no_word, word, Parts, no_part, char, variable, element, nested, chars}
use Rattle.tks_parse.specs.View.{ready_words}
use Rattle.tks_vars.specs.Variables.{Variables}
use Rattle.tks_tcl.specs.Cause.{Cause, Fault, OverLimit}
use Rattle.tks_text.specs.Limits.{fits}
use Rattle.tks_tcl.specs.Cause as tcl
use Rattle.tks_eval.specs.Outcome.{Outcome, Stopped, TooLarge, Level, Meaning, appended, given, after}
use Rattle.tks_eval.specs.Evaluation.{parts_do, with_value, words_in, words_do, call}
use Rattle.tks_eval.specs.Filling.{filled, Stand, All, Upto, made_or, words_made}
use Rattle.tks_eval.proofs.Runs.{appended_some, appended_on, appended_over}
use Rattle.tks_eval.proofs.After.{after_fails, given_after, given_same}

module _ (limits : Limits) (variables : Variables) where
  -- a run of characters
  pub filled_chars : (t made : List ℕ) (rest : Parts) → filled limits variables (chars t rest) made
      ≡ tcl.after (appended limits made t) (λ made. filled limits variables rest made)
  filled_chars [] made rest = ap (λ m. filled limits variables rest m) (sym (append-nil made))
  filled_chars (c ∷ t) made rest =
      ap (λ v. tcl.after v (λ made. filled limits variables (chars t rest) made)) (appended_some limits made c []) ∙ elim (fits limits (made ++ c ∷ [])) as (λ b. fits limits (made ++ c ∷ []) ≡ b →
      tcl.after (cond b (Ok (made ++ c ∷ [])) (Err OverLimit)) (λ made. filled limits variables (chars t rest) made)
      ≡ tcl.after (appended limits made (c ∷ t)) (λ made. filled limits variables rest made)) [
        | true ↦ λ e. filled_chars t (made ++ c ∷ []) rest ∙ ap (λ v. tcl.after v (λ made. filled limits variables rest made)) (appended_on limits made c t e)
        | false ↦ λ e. ap (λ v. tcl.after v (λ made. filled limits variables rest made)) (sym (appended_over limits made c t e))
      ] refl

  -- a text as the first of a word
  pub appended_first : (t : List ℕ) → appended limits [] t ≡ cond (fits limits t) (Ok t) (Err OverLimit)
  appended_first [] = ap (λ b. cond b (Ok []) (Err OverLimit)) (sym (le-leb 0 limits.text (omega arith)))
  appended_first (c ∷ t) = appended_some limits [] c t

  pub filled_text : (t : List ℕ) → filled limits variables (chars t no_part) [] ≡ tcl.after (cond (fits limits t) (Ok t) (Err OverLimit)) (λ made. Ok (no_part, made))
  filled_text t = filled_chars t [] no_part ∙ ap (λ v. tcl.after v (λ made. filled limits variables no_part made)) (appended_first t)

  -- what follows on the text of a word, with words behind it that stand for themselves
  abbrev word_made : List (List ℕ) → List (List ℕ) → Parts × List ℕ → Result Stand Cause
  word_made words ts x = made_or x.0 (Upto words false x.0 x.1 (ready_words ts)) (words_made limits variables (ready_words ts) (words ++ x.1 ∷ []))

  -- words that stand for themselves are made where none passes the limit
  pub ready_made : (ts words : List (List ℕ)) → words_made limits variables (ready_words ts) words
      ≡ cond (list_all (λ t. fits limits t) ts) (Ok (All (words ++ ts))) (Err OverLimit)
  ready_made [] words = ap (λ ws. Ok (All ws)) (sym (append-nil words))
  ready_made (t ∷ ts) words =
      ap (λ r. tcl.after r (word_made words ts)) (filled_text t)
      ∙ elim (fits limits t) as (λ b.
      tcl.after (tcl.after (cond b (Ok t) (Err OverLimit)) (λ made. Ok (no_part, made))) (word_made words ts)
      ≡ cond (b && list_all (λ t. fits limits t) ts) (Ok (All (words ++ t ∷ ts))) (Err OverLimit)) [
        | true ↦ ready_made ts (words ++ t ∷ []) ∙ ap (λ ws. cond (list_all (λ t. fits limits t) ts) (Ok (All ws)) (Err OverLimit)) (append_assoc words (t ∷ []) ts)
        | false ↦ refl
      ]

  module _ {S : Type 0} (inner : Level S) (state : S) (fuel : ℕ) where
    -- the text of a word: first as far as it goes at once
    pub parts_filled : (parts : Parts) (made : List ℕ) → parts_do limits inner parts made state variables fuel
        ≡ given limits (filled limits variables parts made) state variables fuel (λ x. parts_do limits inner x.0 x.1 state variables fuel)
    parts_filled no_part made = refl
    parts_filled (char c rest) made =
        given_same limits state variables fuel (appended limits made (c ∷ [])) _ _ (λ m. parts_filled rest m)
        ∙ sym (given_after limits state variables fuel (appended limits made (c ∷ [])) (λ made. filled limits variables rest made) (λ x. parts_do limits inner x.0 x.1 state variables fuel))
    parts_filled (variable name rest) made =
        given_same limits state variables fuel (with_value limits variables name made) _ _ (λ m. parts_filled rest m)
        ∙ sym (given_after limits state variables fuel (with_value limits variables name made) (λ made. filled limits variables rest made) (λ x. parts_do limits inner x.0 x.1 state variables fuel))
    parts_filled (element name index rest) made = refl
    parts_filled (nested script rest) made = refl

module _ {S : Type 0} (host : Meaning S) (limits : Limits) where
  module _ (level : Level S) (state : S) (variables : Variables) (fuel : ℕ) where
    -- what follows on the words that were made at once
    abbrev pub words_go : Stand → Outcome S
    words_go (All words) = call host limits level words state variables fuel
    words_go (Upto words expand parts made rest) =
        after (parts_do limits level parts made state variables fuel) (λ text state variables fuel.
        given limits (words_in expand text) state variables fuel (λ more. words_do host limits level rest (words ++ more) state variables fuel))

    word_goes : (words : List (List ℕ)) (expand : Bool) (rest : Words) (r : Result (Parts × List ℕ) Cause)
        → ((words : List (List ℕ)) → words_do host limits level rest words state variables fuel ≡ given limits (words_made limits variables rest words) state variables fuel words_go)
        → after (given limits r state variables fuel (λ x. parts_do limits level x.0 x.1 state variables fuel)) (λ text state variables fuel.
        given limits (words_in expand text) state variables fuel (λ more. words_do host limits level rest (words ++ more) state variables fuel))
        ≡ given limits (tcl.after r (λ x. made_or x.0 (Upto words expand x.0 x.1 rest)
        (tcl.after (words_in expand x.1) (λ more. words_made limits variables rest (words ++ more))))) state variables fuel words_go
    word_goes words expand rest (Ok (no_part, made)) h =
        given_same limits state variables fuel (words_in expand made) _ _ (λ more. h (words ++ more))
        ∙ sym (given_after limits state variables fuel (words_in expand made) (λ more. words_made limits variables rest (words ++ more)) words_go)
    word_goes words expand rest (Ok (char c parts, made)) h = refl
    word_goes words expand rest (Ok (variable name parts, made)) h = refl
    word_goes words expand rest (Ok (element name index parts, made)) h = refl
    word_goes words expand rest (Ok (nested script parts, made)) h = refl
    word_goes words expand rest (Err (Fault fault)) h = after_fails limits fault state variables fuel _
    word_goes words expand rest (Err OverLimit) h = refl

    pub words_do_made : (ws : Words) (words : List (List ℕ)) → words_do host limits level ws words state variables fuel
        ≡ given limits (words_made limits variables ws words) state variables fuel words_go
    words_do_made no_word words = refl
    words_do_made (word expand parts rest) words =
        ap (λ o. after o (λ text state variables fuel. given limits (words_in expand text) state variables fuel (λ more. words_do host limits level rest (words ++ more) state variables fuel)))
        (parts_filled limits variables level state fuel parts [])
        ∙ word_goes words expand rest (filled limits variables parts []) (λ words. words_do_made rest words)

    -- words that stand for themselves are passed as they are
    pub ready_do : (ts : List (List ℕ)) → words_do host limits level (ready_words ts) [] state variables fuel
        ≡ cond (list_all (λ t. fits limits t) ts) (call host limits level ts state variables fuel) (Stopped TooLarge)
    ready_do ts =
        words_do_made (ready_words ts) [] ∙ ap (λ r. given limits r state variables fuel words_go) (ready_made limits variables ts [])
        ∙ elim (list_all (λ t. fits limits t) ts) as (λ b. given limits (cond b (Ok (All ts)) (Err OverLimit)) state variables fuel words_go
        ≡ cond b (call host limits level ts state variables fuel) (Stopped TooLarge)) [
          | true ↦ refl
          | false ↦ refl
        ]
