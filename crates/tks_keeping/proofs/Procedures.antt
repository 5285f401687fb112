-- What defining and calling a procedure leaves passes no limit.
use Rattle.std.proofs.Common.{◌≡◌, ℕ, ◌==◌, ◌||◌, not, Bool, true, false, true≢false, ◌&&◌, List, [], ◌∷◌, ◌++◌, length, Option, Some, None, IfOk, refl}
use Rattle.std.specs.Prelude.{is_some, nat_le, nat_lt}
use Rattle.std.specs.List.{list_all}
use Rattle.std.specs.FinMap as map
use Rattle.std.proofs.lemmas.Bool.{and_from}
use Rattle.tks_text.specs.Limits.{fits}
use Rattle.tks_text.specs.declared.limits.Limits.{Limits}
use Rattle.tks_vars.specs.Names.{named, is_whole}
use Rattle.tks_vars.specs.Variables.{Variables, frame_of}
use Rattle.tks_vars.specs.declared.procedure.Argument.{Argument}
use Rattle.tks_vars.specs.declared.procedure.Parameter.{Parameter}
use Rattle.tks_vars.specs.declared.procedure.Procedure.{Procedure}
use Rattle.tks_tcl.specs.Words.{list_in}
use Rattle.tks_tcl.proofs.Framing.{follows, follows_on}
use Rattle.tks_eval.specs.Outcome.{given}
use Rattle.tks_eval.specs.Procedures.{parameter_named, parameter, parameters, parameters_in, given_arguments, arguments, with_arguments, entered, defined}
use Rattle.tks_limits.specs.Within.{default_fits}
use Rattle.tks_keeping.proofs.Lists.{one_of, pushed_so, AllSo}
use Rattle.tks_keeping.proofs.Texts.{tested_so, TextFits, TextsFit, first_word, other_words, list_fits}
use Rattle.tks_keeping.proofs.Variables.{VariablesFit, procedure_put_fits}

module _ (limits : Limits) where
  -- whether a parameter's name fits, and what it is where it isn't given
  abbrev parameter_so : Parameter → Bool
  parameter_so a = fits limits a.name && default_fits limits a.default

  abbrev ParameterFits : Parameter → Type 0
  ParameterFits a = parameter_so a ≡ true

  abbrev ParametersFit : List Parameter → Type 0
  ParametersFit params = AllSo parameter_so params

  named_fits : (procedure name : List ℕ) (default : Option (List ℕ)) → TextFits limits name → default_fits limits default ≡ true → IfOk (parameter_named procedure name default) ParameterFits
  named_fits procedure name default n d = one_of ParameterFits ((length name == 0) || not (is_whole (named name))) _ _ tt (and_from (fits limits name) (default_fits limits default) n d)

  parameter_fits : (procedure : List ℕ) (fields : List (List ℕ)) → TextsFit limits fields → IfOk (parameter procedure fields) ParameterFits
  parameter_fits procedure [] h = tt
  parameter_fits procedure (name ∷ []) h = named_fits procedure name None (first_word limits name [] h) refl
  parameter_fits procedure (name ∷ (default ∷ [])) h =
      named_fits procedure name (Some default) (first_word limits name (default ∷ []) h) (first_word limits default [] (other_words limits name (default ∷ []) h))
  parameter_fits procedure (name ∷ (default ∷ (third ∷ fields))) h = tt

  parameters_fit : (procedure : List ℕ) (made : List Parameter) (texts : List (List ℕ)) → ParametersFit made → TextsFit limits texts → IfOk (parameters procedure made texts) ParametersFit
  parameters_fit procedure made [] m h = m
  parameters_fit procedure made (text ∷ texts) m h =
      follows_on (TextsFit limits) ParametersFit (list_in text) _ (list_fits limits text (first_word limits text texts h)) (λ fields k.
      follows_on ParameterFits ParametersFit (parameter procedure fields) _ (parameter_fits procedure fields k) (λ p q.
      parameters_fit procedure (made ++ p ∷ []) texts (pushed_so parameter_so made p m q) (other_words limits text texts h)))

  parameters_in_fit : (procedure text : List ℕ) → TextFits limits text → IfOk (parameters_in procedure text) ParametersFit
  parameters_in_fit procedure text h =
      follows_on (TextsFit limits) ParametersFit (list_in text) _ (list_fits limits text h) (λ l k. parameters_fit procedure [] l refl k)

  room_by : (a b : Bool) → (a || b) ≡ true → a ≡ false → b ≡ true
  room_by true b h e = absurd (true≢false e)
  room_by false b h e = h

  -- a procedure that is defined
  pub defined_fits : (name params body : List ℕ) (v : Variables) → VariablesFit limits v → TextFits limits name → TextFits limits params → TextFits limits body
      → IfOk (defined limits name params body v) (VariablesFit limits)
  defined_fits name params body v h n p b =
      follows_on ParametersFit (VariablesFit limits) (parameters_in name params) _ (parameters_in_fit name params p) (λ made k.
      let procedure : Procedure = record { params = made; body = body } in
      tested_so (VariablesFit limits) (is_some (map.get v.procedures name) || nat_lt (map.len v.procedures) limits.items) _ (λ room.
      procedure_put_fits limits v name procedure h n (and_from (list_all parameter_so made) (fits limits body) k b)
      (room_by (is_some (map.get v.procedures name)) (nat_lt (map.len v.procedures) limits.items) room)))

  begun_fits : (given : List Argument) (v : Variables) → VariablesFit limits v → IfOk (with_arguments limits given v) (VariablesFit limits)
  begun_fits given v h =
      one_of (VariablesFit limits) (list_all (λ x. fits limits x.value) given) _ _ (one_of (VariablesFit limits) (nat_le (map.len (frame_of given)) limits.items) _ _ h tt) tt

  -- one that is called, with its arguments in a frame of its own
  pub entered_fits : (name : List ℕ) (words : List (List ℕ)) (v : Variables) (procedure : Option Procedure) → VariablesFit limits v
      → IfOk (entered limits name words v procedure) (λ x. VariablesFit limits x.1)
  entered_fits name words v None h = tt
  entered_fits name words v (Some procedure) h =
      follows (λ x. VariablesFit limits x.1) (given_arguments name (arguments [] procedure.params words)) _ (λ given.
      follows_on (VariablesFit limits) (λ x. VariablesFit limits x.1) (with_arguments limits given v) _ (begun_fits given v h) (λ inside k. k))
