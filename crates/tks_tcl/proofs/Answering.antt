-- What commands answer of a list that was read is what they answer of a text that splits into it.
use Rattle.std.proofs.Common.{◌≡◌, ℕ, true, cond, List, [], ◌∷◌, codes, length, Option, Some, Result, Ok, Err, sym, ap, ◌∙◌}
use Rattle.std.specs.Fmt.{decimal}
use Rattle.tks_text.specs.declared.limits.Limits.{Limits}
use Rattle.tks_list.specs.Reading.{list_of}
use Rattle.tks_vars.specs.Variables.{Variables}
use Rattle.tks_tcl.specs.Cause.{Cause, OverLimit, after}
use Rattle.tks_text.specs.Limits.{fits}
use Rattle.tks_tcl.specs.Words.{list_read}
use Rattle.tks_tcl.specs.Lists.{indexed, ranged}
use Rattle.tks_tcl.specs.Variables.{answers}
use Rattle.tks_tcl.specs.Plain.{Answer, Answers, with_code_0, answered, plain}

module _ (limits : Limits) (variables : Variables) where
  -- the answer of a command that leaves the variables
  abbrev told : Result (List ℕ) Cause → Option Answer
  told value = Some (answered limits variables (after (answers limits variables value) with_code_0))

  answer : (t : List ℕ) → fits limits t ≡ true → told (Ok t) ≡ Some (Answers 0 t variables)
  answer t h = ap (λ b. Some (answered limits variables (after (after (cond b (Ok t) (Err OverLimit)) (λ text. Ok (text, variables))) with_code_0))) h

  pub lindex_answers : (l : List (List ℕ)) (index t text : List ℕ) → fits limits t ≡ true → indexed l index ≡ Ok t → list_of text ≡ Some l
      → plain limits (codes "lindex" ∷ text ∷ index ∷ []) variables ≡ Some (Answers 0 t variables)
  lindex_answers l index t text fit h is =
      ap (λ r. told (after (list_read r) (λ l. indexed l index))) is ∙ ap told h ∙ answer t fit

  pub llength_answers : (l : List (List ℕ)) (t text : List ℕ) → fits limits t ≡ true → t ≡ decimal (length l) → list_of text ≡ Some l
      → plain limits (codes "llength" ∷ text ∷ []) variables ≡ Some (Answers 0 t variables)
  llength_answers l t text fit h is =
      ap (λ r. told (after (list_read r) (λ l. Ok (decimal (length l))))) is ∙ ap (λ n. told (Ok n)) (sym h) ∙ answer t fit

  pub lrange_answers : (l : List (List ℕ)) (first last t text : List ℕ) → fits limits t ≡ true → ranged l first last ≡ Ok t → list_of text ≡ Some l
      → plain limits (codes "lrange" ∷ text ∷ first ∷ last ∷ []) variables ≡ Some (Answers 0 t variables)
  lrange_answers l first last t text fit h is =
      ap (λ r. told (after (list_read r) (λ l. ranged l first last))) is ∙ ap told h ∙ answer t fit

  pub return_answers : (text : List ℕ) → fits limits text ≡ true → plain limits (codes "return" ∷ text ∷ []) variables ≡ Some (Answers 2 text variables)
  return_answers text fit =
      ap (λ b. Some (answered limits variables (after (after (cond b (Ok text) (Err OverLimit)) (λ text. Ok (2, text))) (λ x. Ok (x, variables))))) fit
