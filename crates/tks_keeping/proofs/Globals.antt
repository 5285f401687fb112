-- What is read of globals fits where they do.
use Rattle.std.proofs.Common.{◌≡◌, ℕ, true, List, Option, Some, None, IfSome, Result, Ok, Err, IfOk}
use Rattle.std.specs.FinMap as fin
use Rattle.std.proofs.lemmas.Bool.{and_parts}
use Rattle.tks_text.specs.declared.fault.ErrorNumber.{ErrorNumber}
use Rattle.tks_text.specs.declared.fault.ScriptFault.{ScriptFault}
use Rattle.tks_text.specs.declared.limits.Limits.{Limits}
use Rattle.tks_vars.specs.Names.{Name, named}
use Rattle.tks_vars.specs.Variables.{Variables, element_of, value_in, on_name, value_at, pushed_global, global_value_of}
use Rattle.tks_vars.specs.declared.content.Content.{Content}
use Rattle.tks_vars.specs.declared.content.Content.TheVariants.{Scalar, Array}
use Rattle.tks_state.specs.Links.{value_if, global_if, or_empty}
use Rattle.tks_limits.specs.Within.{fits, global_fits, globals_fit, procedures_fit}
use Rattle.tks_keeping.proofs.Texts.{TextFits, empty_fits}
use Rattle.tks_keeping.proofs.Tables.{found_fits}
use Rattle.tks_keeping.proofs.Variables.{told_so, VariablesFit}

module _ (limits : Limits) where
  element_fits : (o : Option (List ℕ)) → IfSome o (TextFits limits) → IfOk (element_of o) (TextFits limits)
  element_fits None h = tt
  element_fits (Some value) h = h

  value_fits : (o : Option Content) (index : Option (List ℕ)) → IfSome o (λ c. global_fits limits c ≡ true) → IfOk (value_in o index) (TextFits limits)
  value_fits None index h = tt
  value_fits (Some (Scalar value)) None h = h
  value_fits (Some (Scalar value)) (Some index) h = tt
  value_fits (Some (Array elements)) None h = tt
  value_fits (Some (Array elements)) (Some index) h =
      element_fits (fin.get elements index) (found_fits limits (fits limits) elements index h)

  name_fits : (o : Option Name) (next : Name → Result (List ℕ) ErrorNumber) → ((n : Name) → IfOk (next n) (TextFits limits)) → IfOk (on_name o next) (TextFits limits)
  name_fits None next h = tt
  name_fits (Some n) next h = h n

  -- a global's value
  global_value_fits : (v : Variables) (name : List ℕ) → VariablesFit limits v → IfOk (global_value_of v name) (TextFits limits)
  global_value_fits v name h =
      let globals = (and_parts (globals_fit limits v.globals) (procedures_fit limits v.procedures) h).0 in
      told_so (TextFits limits) name (value_at (pushed_global v) name)
      (name_fits (named name) _ (λ n. value_fits (fin.get v.globals n.variable) n.index (found_fits limits (global_fits limits) v.globals n.variable globals)))

  -- the text that a widget shows of it, which is empty where it can't be read
  pub shown_fits : (v : Variables) (name : List ℕ) → VariablesFit limits v → TextFits limits (or_empty (global_if v name))
  shown_fits v name h = by (global_value_of v name) (global_value_fits v name h)
    where
      by : (r : Result (List ℕ) ScriptFault) → IfOk r (TextFits limits) → TextFits limits (or_empty (value_if r))
      by (Ok value) k = k
      by (Err fault) k = empty_fits limits
