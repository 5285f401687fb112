-- The commands on variables (set(n), unset(n), incr(n), append(n), lappend(n), global(n), info(n)).
use Rattle.std.specs.Prelude.{ℕ, Bool, true, false, ◌&&◌, nat_lt, if◌then◌else◌, List, [], ◌∷◌, ◌++◌, codes, ℤ, ◌+ℤ◌, Option, Some, None, Result, Ok, Err}
use Rattle.std.specs.Fmt.{signed_decimal}
use Rattle.tks_text.specs.Text.{same_text}
use Rattle.tks_text.specs.Integer.{fits_i64}
use Rattle.tks_text.specs.declared.fault.ErrorNumber.{ErrorNumber}
use Rattle.tks_text.specs.declared.fault.ErrorNumber.TheVariants.{NoSuchVariable, OutOfRange}
use Rattle.tks_text.specs.declared.fault.ScriptFault.{ScriptFault}
use Rattle.tks_text.specs.declared.limits.Limits.{Limits}
use Rattle.tks_list.specs.Quoting.{joined}
use Rattle.tks_vars.specs.Variables.{Variables, value_of, exists, with_value, with_global_value, without, with_global_link, grown_by_value, grown_by_global_value, grown_by_link}
use Rattle.tks_tcl.specs.Cause.{Cause, Fault, OverLimit, after, value_or_fault, bare, wrong_words, within}
use Rattle.tks_text.specs.Limits.{fits}
use Rattle.tks_tcl.specs.Words.{integer_in, list_in, truth_text}

-- ---- values

-- the value of a variable
abbrev pub value_in : Variables → List ℕ → Result (List ℕ) Cause
value_in variables name = value_or_fault (value_of variables name)

-- whether an error says that a variable is missing
abbrev pub is_missing : ErrorNumber → Bool
is_missing NoSuchVariable = true
is_missing number = false

-- a value, or a default where it is missing
abbrev pub with_default : List ℕ → Result (List ℕ) ScriptFault → Result (List ℕ) Cause
with_default default (Ok value) = Ok value
with_default default (Err fault) = if is_missing fault.number then Ok default else Err (Fault fault)

-- the value of a variable, and a default of it where it is missing
abbrev pub value_or : List ℕ → Variables → List ℕ → Result (List ℕ) Cause
value_or default variables name = with_default default (value_of variables name)

-- the decimal of an integer of 64 bits
abbrev pub decimal_within : ℤ → Result (List ℕ) Cause
decimal_within z = if fits_i64 z then Ok (signed_decimal z) else Err (Fault (bare OutOfRange))

-- the integer that a text spells, and another one added
abbrev pub sum_of : List ℕ → List ℕ → Result (List ℕ) Cause
sum_of n value = after (integer_in value) (λ a. after (integer_in n) (λ b. decimal_within (a +ℤ b)))

-- the integer in a variable, where a missing one counts as 0, and this one added
abbrev pub increased : Variables → List ℕ → List ℕ → Result (List ℕ) Cause
increased variables name n = after (value_or (codes "0") variables name) (sum_of n)

-- texts one after the other
abbrev pub flat : List (List ℕ) → List ℕ
flat [] = []
flat (text ∷ texts) = text ++ flat texts

-- a value, and these texts behind it
abbrev pub with_texts : List (List ℕ) → List ℕ → Result (List ℕ) Cause
with_texts texts value = Ok (value ++ flat texts)

-- the list that a value splits into, and these elements behind it
abbrev pub with_elements : List (List ℕ) → List ℕ → Result (List ℕ) Cause
with_elements elements value = after (list_in value) (λ l. Ok (joined (l ++ elements)))

-- the value of a variable, where a missing one counts as empty, and these texts behind it
abbrev pub appended : Variables → List ℕ → List (List ℕ) → Result (List ℕ) Cause
appended variables name texts = after (value_or [] variables name) (with_texts texts)

-- the list in a variable, where a missing one counts as empty, and these elements behind it
abbrev pub list_appended : Variables → List ℕ → List (List ℕ) → Result (List ℕ) Cause
list_appended variables name elements = after (value_or [] variables name) (with_elements elements)

-- ---- changes

-- the variables without each of these names, taken out one after the other
abbrev pub without_all : List (List ℕ) → Variables → Result Variables Cause
without_all [] variables = Ok variables
without_all (name ∷ names) variables = after (value_or_fault (without variables name)) (without_all names)

-- what a command answers, and the variables that it leaves
abbrev pub Changed : Type 0
Changed = List ℕ × Variables

-- the variables that a command leaves, whatever it answers
abbrev pub left : Result Changed Cause → Result Variables Cause
left changed = after changed (λ x. Ok x.1)

-- an empty answer
abbrev pub silent : Variables → Result Changed Cause
silent variables = Ok ([], variables)

-- unset name ..
abbrev pub unset_does : List ℕ → List (List ℕ) → Variables → Result Changed Cause
unset_does command [] variables = wrong_words command
unset_does command (name ∷ names) variables = after (without_all (name ∷ names) variables) silent

module _ (limits : Limits) where
  -- an answer that leaves the variables as they are
  abbrev pub answers : Variables → Result (List ℕ) Cause → Result Changed Cause
  answers variables value = after value (λ value. after (within limits value) (λ text. Ok (text, variables)))

  -- whether a list that would grow may have one member more
  abbrev pub may_grow : Option ℕ → Bool
  may_grow None = true
  may_grow (Some members) = nat_lt members limits.items

  -- the variables after a name was given a value, where neither the value nor they pass a limit
  abbrev pub stores : List ℕ → Variables → List ℕ → Result Changed Cause
  stores name variables value =
      if fits limits value && may_grow (grown_by_value variables name) then after (value_or_fault (with_value variables name value)) (λ new. Ok (value, new))
      else Err OverLimit

  -- the same of a global, whatever the present frame is
  abbrev pub stores_global : List ℕ → Variables → List ℕ → Result Changed Cause
  stores_global name variables value =
      if fits limits value && may_grow (grown_by_global_value variables name) then after (value_or_fault (with_global_value variables name value)) (λ new. Ok (value, new))
      else Err OverLimit

  -- the variables after a name was made a link to a global
  abbrev pub link_within : List ℕ → Variables → Result Variables Cause
  link_within name variables = if may_grow (grown_by_link variables name) then value_or_fault (with_global_link variables name) else Err OverLimit

  -- the same of each of these names, one after the other
  abbrev pub with_global_links : List (List ℕ) → Variables → Result Variables Cause
  with_global_links [] variables = Ok variables
  with_global_links (name ∷ names) variables = after (link_within name variables) (with_global_links names)

  -- ---- the commands

  -- set name ?value?
  abbrev pub set_does : List ℕ → List (List ℕ) → Variables → Result Changed Cause
  set_does command (name ∷ []) variables = answers variables (value_in variables name)
  set_does command (name ∷ value ∷ []) variables = stores name variables value
  set_does command words variables = wrong_words command

  -- incr name ?n?
  abbrev pub incr_does : List ℕ → List (List ℕ) → Variables → Result Changed Cause
  incr_does command (name ∷ []) variables = after (increased variables name (codes "1")) (stores name variables)
  incr_does command (name ∷ n ∷ []) variables = after (increased variables name n) (stores name variables)
  incr_does command words variables = wrong_words command

  -- append name value ..
  abbrev pub append_does : List ℕ → List (List ℕ) → Variables → Result Changed Cause
  append_does command (name ∷ value ∷ values) variables = after (appended variables name (value ∷ values)) (stores name variables)
  append_does command words variables = wrong_words command

  -- lappend name value ..
  abbrev pub lappend_does : List ℕ → List (List ℕ) → Variables → Result Changed Cause
  lappend_does command (name ∷ value ∷ values) variables = after (list_appended variables name (value ∷ values)) (stores name variables)
  lappend_does command words variables = wrong_words command

  -- global name ..
  abbrev pub global_does : List ℕ → List (List ℕ) → Variables → Result Changed Cause
  global_does command [] variables = wrong_words command
  global_does command (name ∷ names) variables = after (with_global_links (name ∷ names) variables) silent

  -- info exists name
  abbrev pub info_does : List ℕ → List (List ℕ) → Variables → Result Changed Cause
  info_does command (subcommand ∷ name ∷ []) variables =
      if same_text subcommand (codes "exists") then answers variables (after (value_or_fault (exists variables name)) (λ there. Ok (truth_text there)))
      else wrong_words command
  info_does command words variables = wrong_words command

-- a command on variables: what it answers and leaves, given the limits, its first word, the others and the variables
abbrev pub VariableCommand : Type 0
VariableCommand = Limits → List ℕ → List (List ℕ) → Variables → Result Changed Cause

-- the one of this name
abbrev pub variable_named : List ℕ → Option VariableCommand
variable_named name =
    if same_text name (codes "append") then Some append_does
    else (if same_text name (codes "global") then Some global_does
    else (if same_text name (codes "incr") then Some incr_does
    else (if same_text name (codes "info") then Some info_does
    else (if same_text name (codes "lappend") then Some lappend_does
    else (if same_text name (codes "set") then Some set_does
    else (if same_text name (codes "unset") then Some (λ limits. unset_does)
    else None))))))
