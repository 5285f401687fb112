-- Words that are lent, and commands whose text isn't asked for, come to what evaluation says of them.
use Rattle.std.proofs.Common.{◌≡◌, ℕ, suc, true, false, cond, not, is_some, List, [], ◌∷◌, ◌++◌, Some, None, Result, Ok, Err, ap, ◌∙◌}
use Rattle.tks_text.specs.declared.limits.Limits.{Limits}
use Rattle.tks_parse.specs.Tree.{Words, word, Parts, no_part, chars}
use Rattle.tks_parse.specs.View.{words_of}
use Rattle.tks_parse.specs.declared.tree.Word.{Word}
use Rattle.tks_vars.specs.Variables.{Variables}
use Rattle.tks_tcl.specs.Cause.{Cause, OverLimit}
use Rattle.tks_text.specs.Limits.{fits}
use Rattle.tks_tcl.specs.Cause as tcl
use Rattle.tks_tcl.specs.Plain as commands
use Rattle.tks_tcl.specs.Plain.{plain}
use Rattle.tks_eval.specs.Outcome.{End, Level, Meaning, given}
use Rattle.tks_eval.specs.Names.{control_named}
use Rattle.tks_eval.specs.Evaluation.{words_in, words_do, call, command_does, plain_does}
use Rattle.tks_eval.specs.Filling.{filled, made_or, Upto, words_made, IsWord}
use Rattle.tks_eval.specs.Machine.{AnswersWords, words_filled, runs_none}
use Rattle.tks_eval.proofs.Filling.{filled_text, words_do_made, words_go}

module _ (limits : Limits) (variables : Variables) where
  -- characters are filled at once
  pub filled_one : (text : List ℕ) → fits limits text ≡ true → filled limits variables (chars text no_part) [] ≡ Ok (no_part, text)
  filled_one text h = filled_text limits variables text ∙ ap (λ b. tcl.after (cond b (Ok text) (Err OverLimit)) (λ made. Ok (no_part, made))) h

  -- a word that is lent is made
  pub word_lent : (w : Word) (rest : List Word) (text : List ℕ) (words : List (List ℕ)) → IsWord limits variables w text
      → words_made limits variables (words_of (w ∷ rest)) words ≡ words_made limits variables (words_of rest) (words ++ text ∷ [])
  word_lent w rest text words h =
      ap (λ expand. words_made limits variables (word expand w.parts (words_of rest)) words) h.0
      ∙ ap (λ r. tcl.after r (λ x. made_or x.0 (Upto words false x.0 x.1 (words_of rest))
      (tcl.after (words_in false x.1) (λ more. words_made limits variables (words_of rest) (words ++ more))))) h.1

  -- a word that is made
  abbrev whole : List ℕ → Result (Parts × List ℕ) Cause
  whole text = Ok (no_part, text)

module _ {S : Type 0} (host : Meaning S) (limits : Limits) (level : Level S) (state : S) (variables : Variables) (fuel : ℕ) where
  answer_call : (words : List (List ℕ)) (code : ℕ) (text : List ℕ) → runs_none words ≡ true → plain limits words variables ≡ Some (commands.Answers code text variables)
      → call host limits level words state variables (suc fuel) ≡ End code text state variables fuel
  answer_call [] code text none answer = absurd cc
  answer_call (first ∷ words) code text none answer =
      elim (control_named first) as (λ c. not (is_some c) ≡ true → command_does host limits level c first words state variables fuel ≡ End code text state variables fuel) [
        | None ↦ λ e. ap (λ a. plain_does host limits level first words a state variables fuel) answer
        | Some c ↦ λ e. absurd cc
      ] none

  -- a command whose words are lent
  pub words_answer : (words : Words) (code : ℕ) (text : List ℕ) → AnswersWords limits variables words code text
      → words_do host limits level words [] state variables (suc fuel) ≡ End code text state variables fuel
  words_answer words code text h =
      words_do_made host limits level state variables (suc fuel) words []
      ∙ ap (λ r. given limits r state variables (suc fuel) (words_go host limits level state variables (suc fuel))) h.0
      ∙ answer_call (words_filled (words_made limits variables words [])) code text h.1 h.2
