-- Commands that run no script leave the frames below the innermost.
use Rattle.std.proofs.Common.{◌≡◌, ℕ, Bool, true, false, if◌then◌else◌, ◌&&◌, codes, List, [], ◌∷◌, Option, Some, None, option_map, IfSome, Result, Ok, Err, IfOk, subst}
use Rattle.std.proofs.lemmas.Option.{IfSome_then}
use Rattle.tks_text.specs.Text.{same_text}
use Rattle.tks_text.specs.Fault.{fault_text}
use Rattle.tks_text.specs.declared.fault.ScriptFault.{ScriptFault}
use Rattle.tks_text.specs.declared.limits.Limits.{Limits}
use Rattle.tks_vars.specs.Laws.{FramesStay}
use Rattle.tks_vars.specs.Variables.{Variables, without, with_value, with_global_value, grown_by_value, grown_by_global_value, grown_by_link}
use Rattle.tks_vars.proofs.Framing.{itself, both, given_stays, global_given_stays, without_stays, link_stays}
use Rattle.tks_tcl.specs.Cause.{Cause, Fault, OverLimit, after, value_or_fault, within}
use Rattle.tks_text.specs.Limits.{fits}
use Rattle.tks_tcl.specs.Codes.{CodeCommand, code_named}
use Rattle.tks_tcl.specs.Lists.{ListCommand}
use Rattle.tks_tcl.specs.Variables.{Changed, VariableCommand, value_in, increased, appended, list_appended, without_all, silent, unset_does, answers, may_grow, stores, stores_global, link_within, with_global_links, set_does, incr_does, append_does, lappend_does, global_does, info_does, variable_named}
use Rattle.tks_tcl.specs.Plain.{Answer, Answers, PassesLimit, Ending, with_code_0, Command, of_lists, of_variables, of_code, command_named, errs, answered}
use Rattle.tks_tcl.specs.Laws.{LeavesFrames}
use Rattle.tks_tcl.proofs.Named.{each_variable, all_so, by_kind}

-- what follows has P, whatever it follows on
pub follows : {X Y : Type 0} (P : Y → Type 0) (r : Result X Cause) (next : X → Result Y Cause) → ((x : X) → IfOk (next x) P) → IfOk (after r next) P
follows P (Ok x) next h = h x
follows P (Err cause) next h = tt

-- the same, where what it follows on has Q
pub follows_on : {X Y : Type 0} (Q : X → Type 0) (P : Y → Type 0) (r : Result X Cause) (next : X → Result Y Cause) → IfOk r Q → ((x : X) → Q x → IfOk (next x) P) → IfOk (after r next) P
follows_on Q P (Ok x) next q h = h x q
follows_on Q P (Err cause) next q h = tt

told : {X : Type 0} (P : X → Type 0) (r : Result X ScriptFault) → IfOk r P → IfOk (value_or_fault r) P
told P (Ok x) h = h
told P (Err fault) h = tt

-- one of two, whatever is asked
pub one_of : {X : Type 0} (P : X → Type 0) (holds : Bool) (r s : Result X Cause) → IfOk r P → IfOk s P → IfOk (if holds then r else s) P
one_of P true r s h k = h
one_of P false r s h k = k

-- what is left has the same frames below
abbrev pub Left : Variables → Changed → Type 0
Left v x = FramesStay v x.1

without_all_stay : (names : List (List ℕ)) (u v : Variables) → FramesStay u v → IfOk (without_all names v) (FramesStay u)
without_all_stay [] u v h = h
without_all_stay (name ∷ names) u v h =
    follows_on (FramesStay v) (FramesStay u) (value_or_fault (without v name)) (without_all names) (told (FramesStay v) _ (without_stays v name)) (λ w k. without_all_stay names u w (both h k))

module _ (limits : Limits) where
  pub answers_stay : (v : Variables) (value : Result (List ℕ) Cause) → IfOk (answers limits v value) (Left v)
  answers_stay v value = follows (Left v) value _ (λ x. follows (Left v) (within limits x) _ (λ text. itself v))

  pub stores_stay : (name : List ℕ) (v : Variables) (value : List ℕ) → IfOk (stores limits name v value) (Left v)
  stores_stay name v value =
      one_of (Left v) (fits limits value && may_grow limits (grown_by_value v name)) _ _
      (follows_on (FramesStay v) (Left v) (value_or_fault (with_value v name value)) _ (told (FramesStay v) _ (given_stays v name value)) (λ w k. k)) tt

  pub stores_global_stay : (name : List ℕ) (v : Variables) (value : List ℕ) → IfOk (stores_global limits name v value) (Left v)
  stores_global_stay name v value =
      one_of (Left v) (fits limits value && may_grow limits (grown_by_global_value v name)) _ _
      (follows_on (FramesStay v) (Left v) (value_or_fault (with_global_value v name value)) _ (told (FramesStay v) _ (global_given_stays v name value)) (λ w k. k)) tt

  link_within_stays : (name : List ℕ) (v : Variables) → IfOk (link_within limits name v) (FramesStay v)
  link_within_stays name v = one_of (FramesStay v) (may_grow limits (grown_by_link v name)) _ _ (told (FramesStay v) _ (link_stays v name)) tt

  links_stay : (names : List (List ℕ)) (u v : Variables) → FramesStay u v → IfOk (with_global_links limits names v) (FramesStay u)
  links_stay [] u v h = h
  links_stay (name ∷ names) u v h =
      follows_on (FramesStay v) (FramesStay u) (link_within limits name v) (with_global_links limits names) (link_within_stays name v) (λ w k. links_stay names u w (both h k))

  -- ---- the commands

  set_stays : (first : List ℕ) (words : List (List ℕ)) (v : Variables) → IfOk (set_does limits first words v) (Left v)
  set_stays first [] v = tt
  set_stays first (name ∷ []) v = answers_stay v (value_in v name)
  set_stays first (name ∷ (value ∷ [])) v = stores_stay name v value
  set_stays first (name ∷ (value ∷ (third ∷ words))) v = tt

  incr_stays : (first : List ℕ) (words : List (List ℕ)) (v : Variables) → IfOk (incr_does limits first words v) (Left v)
  incr_stays first [] v = tt
  incr_stays first (name ∷ []) v = follows (Left v) (increased v name (codes "1")) _ (stores_stay name v)
  incr_stays first (name ∷ (n ∷ [])) v = follows (Left v) (increased v name n) _ (stores_stay name v)
  incr_stays first (name ∷ (n ∷ (third ∷ words))) v = tt

  append_stays : (first : List ℕ) (words : List (List ℕ)) (v : Variables) → IfOk (append_does limits first words v) (Left v)
  append_stays first [] v = tt
  append_stays first (name ∷ []) v = tt
  append_stays first (name ∷ (value ∷ values)) v = follows (Left v) (appended v name (value ∷ values)) _ (stores_stay name v)

  lappend_stays : (first : List ℕ) (words : List (List ℕ)) (v : Variables) → IfOk (lappend_does limits first words v) (Left v)
  lappend_stays first [] v = tt
  lappend_stays first (name ∷ []) v = tt
  lappend_stays first (name ∷ (value ∷ values)) v = follows (Left v) (list_appended v name (value ∷ values)) _ (stores_stay name v)

  global_stays : (first : List ℕ) (words : List (List ℕ)) (v : Variables) → IfOk (global_does limits first words v) (Left v)
  global_stays first [] v = tt
  global_stays first (name ∷ names) v = follows_on (FramesStay v) (Left v) (with_global_links limits (name ∷ names) v) silent (links_stay (name ∷ names) v v (itself v)) (λ w k. k)

  info_stays : (first : List ℕ) (words : List (List ℕ)) (v : Variables) → IfOk (info_does limits first words v) (Left v)
  info_stays first [] v = tt
  info_stays first (subcommand ∷ []) v = tt
  info_stays first (subcommand ∷ (name ∷ [])) v = one_of (Left v) (same_text subcommand (codes "exists")) _ _ (answers_stay v _) tt
  info_stays first (subcommand ∷ (name ∷ (third ∷ words))) v = tt

  unset_stays : (first : List ℕ) (words : List (List ℕ)) (v : Variables) → IfOk (unset_does first words v) (Left v)
  unset_stays first [] v = tt
  unset_stays first (name ∷ names) v = follows_on (FramesStay v) (Left v) (without_all (name ∷ names) v) silent (without_all_stay (name ∷ names) v v (itself v)) (λ w k. k)

  abbrev Stays : VariableCommand → Type 0
  Stays does = (first : List ℕ) (words : List (List ℕ)) (v : Variables) → IfOk (does limits first words v) (Left v)

  variables_stay : (name : List ℕ) → IfSome (variable_named name) Stays
  variables_stay = each_variable Stays append_stays global_stays incr_stays info_stays lappend_stays set_stays unset_stays

  -- ---- their answers

  module _ (v : Variables) where
    abbrev EndLeft : Ending → Type 0
    EndLeft x = FramesStay v x.1

    abbrev CommandStays : Command → Type 0
    CommandStays does = (first : List ℕ) (words : List (List ℕ)) → IfOk (does limits first words v) EndLeft

    list_stays : (does : ListCommand) → CommandStays (of_lists does)
    list_stays does first words = follows_on (Left v) EndLeft (answers limits v (does first words)) with_code_0 (answers_stay v (does first words)) (λ x k. k)

    variable_stays : (does : VariableCommand) → Stays does → CommandStays (of_variables does)
    variable_stays does stays first words = follows_on (Left v) EndLeft (does limits first words v) with_code_0 (stays first words v) (λ x k. k)

    code_stays : (does : CodeCommand) → CommandStays (of_code does)
    code_stays does first words = follows EndLeft (does limits first words) (λ x. Ok (x, v)) (λ x. itself v)

    commands_stay : (name : List ℕ) → IfSome (command_named name) CommandStays
    commands_stay name =
        by_kind CommandStays name list_stays (IfSome_then (variable_named name) (variables_stay name) variable_stays)
        (all_so _ (code_named name) code_stays)

    -- of an answer, that its variables have the same frames below
    abbrev pub AnswerLeft : Answer → Type 0
    AnswerLeft (Answers code text new) = FramesStay v new
    AnswerLeft PassesLimit = Unit {0}

    errs_stay : (fault : ScriptFault) → AnswerLeft (errs limits fault v)
    errs_stay fault = by (fits limits (fault_text fault))
      where
        by : (b : Bool) → AnswerLeft (if b then Answers 1 (fault_text fault) v else PassesLimit)
        by true = itself v
        by false = tt

    answered_stays : (r : Result Ending Cause) → IfOk r EndLeft → AnswerLeft (answered limits v r)
    answered_stays (Ok x) h = h
    answered_stays (Err (Fault fault)) h = errs_stay fault
    answered_stays (Err OverLimit) h = tt

    by_name : (o : Option Command) → IfSome o CommandStays → (first : List ℕ) (words : List (List ℕ)) (answer : Answer)
        → option_map (λ does. answered limits v (does limits first words v)) o ≡ Some answer → AnswerLeft answer
    by_name None stays first words answer e = absurd cc
    by_name (Some does) stays first words answer e =
        let same : answered limits v (does limits first words v) ≡ answer = cc in
        subst AnswerLeft same (answered_stays (does limits first words v) (stays first words))

pub leaves_frames : LeavesFrames
leaves_frames limits [] v new code text e = absurd cc
leaves_frames limits (name ∷ words) v new code text e = by_name limits v (command_named name) (commands_stay limits v name) name words (Answers code text new) e
