-- A command that ends with an error leaves the variables as they were.
use Rattle.std.proofs.Common.{◌≡◌, ℕ, Bool, true, false, if◌then◌else◌, List, [], ◌∷◌, Option, Some, None, option_map, IfSome, Result, Ok, Err, refl, sym, ap, ◌∙◌, arith}
use Rattle.tks_text.specs.Fault.{fault_text}
use Rattle.tks_text.specs.declared.fault.ScriptFault.{ScriptFault}
use Rattle.tks_text.specs.declared.limits.Limits.{Limits}
use Rattle.tks_vars.specs.Variables.{Variables}
use Rattle.tks_tcl.specs.Cause.{Cause, Fault, OverLimit, after}
use Rattle.tks_text.specs.Limits.{fits}
use Rattle.tks_tcl.specs.Variables.{Changed, variable_named}
use Rattle.tks_tcl.specs.Codes.{code_named}
use Rattle.tks_tcl.specs.Plain.{Answer, Answers, PassesLimit, with_code_0, Command, command_named, errs, answered}
use Rattle.tks_tcl.specs.Laws.{ErrorsChangeNothing}
use Rattle.tks_tcl.proofs.Named.{all_so, by_kind}

abbrev code_of : Answer → ℕ
code_of (Answers code text variables) = code
code_of PassesLimit = 0

abbrev variables_of : Variables → Answer → Variables
variables_of variables (Answers code text left) = left
variables_of variables PassesLimit = variables

module _ (limits : Limits) (variables new : Variables) (text : List ℕ) where
  -- an error told, where it passes no limit
  told : (fault : ScriptFault) (b : Bool) → fits limits (fault_text fault) ≡ b → errs limits fault variables ≡ Answers 1 text new → new ≡ variables
  told fault true is e = sym (ap (variables_of variables) (sym (ap (λ b. if b then Answers 1 (fault_text fault) variables else PassesLimit) is) ∙ e))
  told fault false is e = absurd (no (sym (ap (λ b. if b then Answers 1 (fault_text fault) variables else PassesLimit) is) ∙ e))
    where
      no : PassesLimit ≡ Answers 1 text new → ⊥
      no e = cc

  -- what ends well has another code
  with_0 : (r : Result Changed Cause) → answered limits variables (after r with_code_0) ≡ Answers 1 text new → new ≡ variables
  with_0 (Ok x) e =
      let same : ◌≡◌ {A = ℕ} 0 1 = ap code_of e in
      absurd (differ same)
    where
      differ : ◌≡◌ {A = ℕ} 0 1 → ⊥
      differ e = omega arith
  with_0 (Err (Fault fault)) e = told fault _ refl e
  with_0 (Err OverLimit) e = absurd cc

  -- a code leaves the variables
  with_code : (r : Result (ℕ × List ℕ) Cause) → answered limits variables (after r (λ x. Ok (x, variables))) ≡ Answers 1 text new → new ≡ variables
  with_code (Ok x) e = sym (ap (variables_of variables) e)
  with_code (Err (Fault fault)) e = told fault _ refl e
  with_code (Err OverLimit) e = absurd cc

  abbrev Leaves : Command → Type 0
  Leaves does = (name : List ℕ) (words : List (List ℕ)) → answered limits variables (does limits name words variables) ≡ Answers 1 text new → new ≡ variables

  commands_leave : (name : List ℕ) → IfSome (command_named name) Leaves
  commands_leave name =
      by_kind Leaves name (λ does name words e. with_0 _ e) (all_so _ (variable_named name) (λ does name words e. with_0 _ e))
      (all_so _ (code_named name) (λ does name words e. with_code _ e))

  by_name : (o : Option Command) → IfSome o Leaves → (name : List ℕ) (words : List (List ℕ))
      → option_map (λ does. answered limits variables (does limits name words variables)) o ≡ Some (Answers 1 text new) → new ≡ variables
  by_name None leaves name words e = absurd cc
  by_name (Some does) leaves name words e = leaves name words cc

pub errors_leave_all : ErrorsChangeNothing
errors_leave_all limits [] variables new text e = absurd cc
errors_leave_all limits (name ∷ words) variables new text e = by_name limits variables new text (command_named name) (commands_leave limits variables new text name) name words e
