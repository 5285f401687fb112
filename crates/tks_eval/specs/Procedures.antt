-- Procedures: their parameters, and what a call gives these (proc(n)).
use Rattle.std.specs.Prelude.{ℕ, ◌||◌, ◌==◌, not, length, if◌then◌else◌, codes, List, [], ◌∷◌, ◌++◌, nat_le, nat_lt, is_some, Bool, false, Option, Some, None, option_and_then, Result, Ok, Err}
use Rattle.std.specs.FinMap as map
use Rattle.std.specs.List.{list_all}
use Rattle.tks_text.specs.Text.{same_text}
use Rattle.tks_text.specs.declared.fault.ErrorNumber.TheVariants.{BadName, NoSuchCommand}
use Rattle.tks_text.specs.declared.limits.Limits.{Limits}
use Rattle.tks_list.specs.Quoting.{joined}
use Rattle.tks_parse.specs.Tree.{Script}
use Rattle.tks_parse.specs.Reading.{script_of}
use Rattle.tks_vars.specs.Names.{named, is_whole}
use Rattle.tks_vars.specs.Variables.{Variables, frame_of, pushed_with, with_procedure}
use Rattle.tks_vars.specs.declared.procedure.Argument.{Argument}
use Rattle.tks_vars.specs.declared.procedure.Parameter.{Parameter}
use Rattle.tks_vars.specs.declared.procedure.Procedure.{Procedure}
use Rattle.tks_tcl.specs.Cause.{Cause, Fault, OverLimit, after, about, wrong_words}
use Rattle.tks_text.specs.Limits.{fits}
use Rattle.tks_tcl.specs.Words.{list_in}
use Rattle.tks_tcl.specs.Names.{is_built_in}
use Rattle.tks_eval.specs.Outcome.{Meaning}

-- ---- parameters

-- the error of a bad list of parameters
abbrev pub bad_parameters : {X : Type 0} → List ℕ → Result X Cause
bad_parameters procedure = Err (Fault (about BadName procedure))

-- a parameter is a whole variable, whose name isn't empty
abbrev pub parameter_named : List ℕ → List ℕ → Option (List ℕ) → Result Parameter Cause
parameter_named procedure name default =
    if (length name == 0) || not (is_whole (named name)) then bad_parameters procedure else Ok (record { name = name; default = default })

-- a name, or a name and a default
abbrev pub parameter : List ℕ → List (List ℕ) → Result Parameter Cause
parameter procedure (name ∷ []) = parameter_named procedure name None
parameter procedure (name ∷ default ∷ []) = parameter_named procedure name (Some default)
parameter procedure fields = bad_parameters procedure

-- the parameters that these words say, behind those that are there
abbrev pub parameters : List ℕ → List Parameter → List (List ℕ) → Result (List Parameter) Cause
parameters procedure made [] = Ok made
parameters procedure made (word ∷ words) =
    after (list_in word) (λ fields. after (parameter procedure fields) (λ p. parameters procedure (made ++ p ∷ []) words))

-- the parameters that a text says
abbrev pub parameters_in : List ℕ → List ℕ → Result (List Parameter) Cause
parameters_in procedure text = after (list_in text) (parameters procedure [])

-- ---- arguments

abbrev pub argument_for : Parameter → List ℕ → Argument
argument_for p value = record { name = p.name; value = value }

-- whether a parameter takes all words that are left: the last one, where its name is `args`
abbrev pub takes_rest : Parameter → List Parameter → Bool
takes_rest p [] = same_text p.name (codes "args")
takes_rest p (q ∷ ps) = false

-- the values that the words of a call give to parameters, behind those that are there, or none where the
-- number of words is wrong
abbrev pub arguments : List Argument → List Parameter → List (List ℕ) → Option (List Argument)
arguments given [] [] = Some given
arguments given [] (word ∷ words) = None
arguments given (p ∷ ps) [] =
    if takes_rest p ps then Some (given ++ argument_for p (joined []) ∷ []) else option_and_then (λ value. arguments (given ++ argument_for p value ∷ []) ps []) p.default
arguments given (p ∷ ps) (word ∷ words) =
    if takes_rest p ps then Some (given ++ argument_for p (joined (word ∷ words)) ∷ []) else arguments (given ++ argument_for p word ∷ []) ps words

-- the variables of a call
abbrev pub with_arguments : Limits → List Argument → Variables → Result Variables Cause
with_arguments limits given variables =
    if list_all (λ x. fits limits x.value) given then (if nat_le (map.len (frame_of given)) limits.items then Ok (pushed_with given variables) else Err OverLimit)
    else Err OverLimit

-- the arguments of a call, or the error that the number of words is wrong
abbrev pub given_arguments : List ℕ → Option (List Argument) → Result (List Argument) Cause
given_arguments first None = wrong_words first
given_arguments first (Some given) = Ok given

-- ---- calls and definitions

-- the body of a procedure, and the variables of a call
abbrev pub entered : Limits → List ℕ → List (List ℕ) → Variables → Option Procedure → Result (List ℕ × Variables) Cause
entered limits first words variables None = Err (Fault (about NoSuchCommand first))
entered limits first words variables (Some procedure) =
    after (given_arguments first (arguments [] procedure.params words)) (λ given. after (with_arguments limits given variables) (λ inside. Ok (procedure.body, inside)))

-- a call's body as the script that it spells
abbrev pub script_in : List ℕ × Variables → Script × Variables
script_in x = (script_of x.0, x.1)

-- the variables with a procedure, where these pass no limit
abbrev pub with_room : Limits → List ℕ → Procedure → Variables → Result Variables Cause
with_room limits name procedure variables =
    if is_some (map.get variables.procedures name) || nat_lt (map.len variables.procedures) limits.items then Ok (with_procedure variables name procedure) else Err OverLimit

-- the variables with a procedure of these parameters
abbrev pub defined : Limits → List ℕ → List ℕ → List ℕ → Variables → Result Variables Cause
defined limits name params body variables =
    after (parameters_in name params) (λ params. with_room limits name (record { params = params; body = body }) variables)

-- whether a name is like that of a window
abbrev pub begins_with_dot : List ℕ → Bool
begins_with_dot [] = false
begins_with_dot (c ∷ name) = c == 46

module _ {S : Type 0} (host : Meaning S) where
  -- whether no procedure may have this name
  abbrev pub is_taken : S → List ℕ → Bool
  is_taken state name = is_built_in name || host.owns state name || begins_with_dot name

  -- proc name params body
  abbrev pub proc_form : Limits → List ℕ → List (List ℕ) → S → Variables → Result Variables Cause
  proc_form limits first (name ∷ params ∷ body ∷ []) state variables =
      if is_taken state name then Err (Fault (about BadName name)) else defined limits name params body variables
  proc_form limits first words state variables = wrong_words first
