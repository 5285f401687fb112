-- What commands that run no script answer and leave passes no limit.
use Rattle.std.proofs.Common.{ℕ, codes, List, [], ◌∷◌, Option, Some, None, option_map, IfSome, Result, Ok, Err, IfOk}
use Rattle.std.proofs.lemmas.Bool.{cond_both}
use Rattle.std.proofs.lemmas.Option.{IfSome_then}
use Rattle.tks_text.specs.Text.{same_text}
use Rattle.tks_text.specs.Fault.{fault_text}
use Rattle.tks_text.specs.declared.limits.Limits.{Limits}
use Rattle.tks_text.specs.Limits.{fits}
use Rattle.tks_vars.specs.Variables.{Variables, without, with_global_link, grown_by_link}
use Rattle.tks_tcl.specs.Cause.{Cause, Fault, OverLimit, value_or_fault, within}
use Rattle.tks_tcl.specs.Codes.{CodeCommand, bare_code, says, returns, raises, code_named}
use Rattle.tks_tcl.specs.Lists.{ListCommand}
use Rattle.tks_tcl.specs.Variables.{VariableCommand, value_in, increased, appended, list_appended, without_all, silent, unset_does, answers, may_grow, link_within, with_global_links, set_does, incr_does, append_does, lappend_does, global_does, info_does, variable_named}
use Rattle.tks_tcl.specs.Plain.{Answer, Answers, PassesLimit, Ending, with_code_0, Command, of_lists, of_variables, of_code, command_named, answered, plain}
use Rattle.tks_tcl.proofs.Framing.{follows, follows_on}
use Rattle.tks_tcl.proofs.Named.{named_or, each_variable, by_kind}
use Rattle.tks_keeping.proofs.Lists.{one_of}
use Rattle.tks_keeping.proofs.Texts.{value_so, TextFits, TextsFit, empty_fits, within_fits, first_word, other_words}
use Rattle.tks_keeping.proofs.Variables.{VariablesFit, ChangedFits, unset_fits, link_fits, stores_fit}

module _ (limits : Limits) where
  -- ---- variables

  without_all_fit : (names : List (List ℕ)) → TextsFit limits names → (v : Variables) → VariablesFit limits v → IfOk (without_all names v) (VariablesFit limits)
  without_all_fit [] k v h = h
  without_all_fit (name ∷ names) k v h =
      follows_on (VariablesFit limits) (VariablesFit limits) (value_or_fault (without v name)) (without_all names)
      (value_so (VariablesFit limits) (without v name) (unset_fits limits v name h (first_word limits name names k))) (without_all_fit names (other_words limits name names k))

  answers_fit : (v : Variables) → VariablesFit limits v → (value : Result (List ℕ) Cause) → IfOk (answers limits v value) (ChangedFits limits)
  answers_fit v h value =
      follows (ChangedFits limits) value _ (λ x. follows_on (TextFits limits) (ChangedFits limits) (within limits x) _ (within_fits limits x) (λ t k. (k, h)))

  silent_fits : (v : Variables) → VariablesFit limits v → IfOk (silent v) (ChangedFits limits)
  silent_fits v h = (empty_fits limits, h)

  link_within_fits : (name : List ℕ) (v : Variables) → VariablesFit limits v → IfOk (link_within limits name v) (VariablesFit limits)
  link_within_fits name v h =
      one_of (VariablesFit limits) (may_grow limits (grown_by_link v name)) _ _ (value_so (VariablesFit limits) (with_global_link v name) (link_fits limits v name h)) tt

  links_fit : (names : List (List ℕ)) (v : Variables) → VariablesFit limits v → IfOk (with_global_links limits names v) (VariablesFit limits)
  links_fit [] v h = h
  links_fit (name ∷ names) v h =
      follows_on (VariablesFit limits) (VariablesFit limits) (link_within limits name v) (with_global_links limits names) (link_within_fits name v h) (links_fit names)

  -- ---- the commands

  abbrev ChangeFits : VariableCommand → Type 0
  ChangeFits does = (first : List ℕ) (words : List (List ℕ)) → TextsFit limits words → (v : Variables) → VariablesFit limits v → IfOk (does limits first words v) (ChangedFits limits)

  set_fits : ChangeFits set_does
  set_fits command [] k v h = tt
  set_fits command (name ∷ []) k v h = answers_fit v h (value_in v name)
  set_fits command (name ∷ (value ∷ [])) k v h = stores_fit limits name (first_word limits name (value ∷ []) k) v h value
  set_fits command (name ∷ (value ∷ (third ∷ words))) k v h = tt

  incr_fits : ChangeFits incr_does
  incr_fits command [] k v h = tt
  incr_fits command (name ∷ []) k v h = follows (ChangedFits limits) (increased v name (codes "1")) _ (stores_fit limits name (first_word limits name [] k) v h)
  incr_fits command (name ∷ (n ∷ [])) k v h = follows (ChangedFits limits) (increased v name n) _ (stores_fit limits name (first_word limits name (n ∷ []) k) v h)
  incr_fits command (name ∷ (n ∷ (third ∷ words))) k v h = tt

  append_fits : ChangeFits append_does
  append_fits command [] k v h = tt
  append_fits command (name ∷ []) k v h = tt
  append_fits command (name ∷ (value ∷ values)) k v h =
      follows (ChangedFits limits) (appended v name (value ∷ values)) _ (stores_fit limits name (first_word limits name (value ∷ values) k) v h)

  lappend_fits : ChangeFits lappend_does
  lappend_fits command [] k v h = tt
  lappend_fits command (name ∷ []) k v h = tt
  lappend_fits command (name ∷ (value ∷ values)) k v h =
      follows (ChangedFits limits) (list_appended v name (value ∷ values)) _ (stores_fit limits name (first_word limits name (value ∷ values) k) v h)

  global_fits : ChangeFits global_does
  global_fits command [] k v h = tt
  global_fits command (name ∷ names) k v h =
      follows_on (VariablesFit limits) (ChangedFits limits) (with_global_links limits (name ∷ names) v) silent (links_fit (name ∷ names) v h) silent_fits

  info_fits : ChangeFits info_does
  info_fits command [] k v h = tt
  info_fits command (subcommand ∷ []) k v h = tt
  info_fits command (subcommand ∷ (name ∷ [])) k v h = one_of (ChangedFits limits) (same_text subcommand (codes "exists")) _ _ (answers_fit v h _) tt
  info_fits command (subcommand ∷ (name ∷ (third ∷ words))) k v h = tt

  unset_command_fits : ChangeFits (λ limits. unset_does)
  unset_command_fits command [] k v h = tt
  unset_command_fits command (name ∷ names) k v h =
      follows_on (VariablesFit limits) (ChangedFits limits) (without_all (name ∷ names) v) silent (without_all_fit (name ∷ names) k v h) silent_fits

  changes_fit : (name : List ℕ) → IfSome (variable_named name) ChangeFits
  changes_fit = each_variable ChangeFits append_fits global_fits incr_fits info_fits lappend_fits set_fits unset_command_fits

  -- ---- codes

  -- the text beside a code fits
  abbrev CodeFits : ℕ × List ℕ → Type 0
  CodeFits x = TextFits limits x.1

  abbrev SaysFit : CodeCommand → Type 0
  SaysFit does = (first : List ℕ) (words : List (List ℕ)) → TextsFit limits words → IfOk (does limits first words) CodeFits

  bare_fits : (code : ℕ) (command : List ℕ) (words : List (List ℕ)) → IfOk (bare_code code command words) CodeFits
  bare_fits code command [] = empty_fits limits
  bare_fits code command (word ∷ words) = tt

  says_fits : (code : ℕ) (text : List ℕ) → IfOk (says limits code text) CodeFits
  says_fits code text = follows_on (TextFits limits) CodeFits (within limits text) _ (within_fits limits text) (λ t k. k)

  raises_fits : SaysFit raises
  raises_fits command [] k = tt
  raises_fits command (text ∷ []) k = says_fits 1 text
  raises_fits command (text ∷ (more ∷ words)) k = tt

  returns_fits : SaysFit returns
  returns_fits command [] k = empty_fits limits
  returns_fits command (value ∷ []) k = says_fits 2 value
  returns_fits command (value ∷ (more ∷ words)) k = tt

  codes_fit : (name : List ℕ) → IfSome (code_named name) SaysFit
  codes_fit name =
      named_or SaysFit (same_text name (codes "break")) _ _ (λ command words k. bare_fits 3 command words)
      (named_or SaysFit (same_text name (codes "continue")) _ _ (λ command words k. bare_fits 4 command words)
      (named_or SaysFit (same_text name (codes "error")) _ _ raises_fits
      (named_or SaysFit (same_text name (codes "return")) _ _ returns_fits tt)))

  -- ---- all of them

  -- a text and variables that fit
  abbrev EndingFits : Ending → Type 0
  EndingFits x = CodeFits x.0 × VariablesFit limits x.1

  -- what a command that runs no script answers and leaves
  abbrev pub PlainFits : Answer → Type 0
  PlainFits (Answers code text new) = TextFits limits text × VariablesFit limits new
  PlainFits PassesLimit = Unit {0}

  module _ (v : Variables) (h : VariablesFit limits v) where
    abbrev CommandFits : Command → Type 0
    CommandFits does = (first : List ℕ) (words : List (List ℕ)) → TextsFit limits words → IfOk (does limits first words v) EndingFits

    list_command_fits : (does : ListCommand) → CommandFits (of_lists does)
    list_command_fits does first words k = follows_on (ChangedFits limits) EndingFits (answers limits v (does first words)) with_code_0 (answers_fit v h (does first words)) (λ x k. k)

    variable_command_fits : (does : VariableCommand) → ChangeFits does → CommandFits (of_variables does)
    variable_command_fits does fit first words k = follows_on (ChangedFits limits) EndingFits (does limits first words v) with_code_0 (fit first words k v h) (λ x k. k)

    code_command_fits : (does : CodeCommand) → SaysFit does → CommandFits (of_code does)
    code_command_fits does fit first words k = follows_on CodeFits EndingFits (does limits first words) (λ x. Ok (x, v)) (fit first words k) (λ x c. (c, h))

    commands_fit : (name : List ℕ) → IfSome (command_named name) CommandFits
    commands_fit name =
        by_kind CommandFits name list_command_fits (IfSome_then (variable_named name) (changes_fit name) variable_command_fits)
        (IfSome_then (code_named name) (codes_fit name) code_command_fits)

    answered_fits : (r : Result Ending Cause) → IfOk r EndingFits → PlainFits (answered limits v r)
    answered_fits (Ok x) k = k
    answered_fits (Err (Fault fault)) k =
        cond_both (fits limits (fault_text fault)) (Answers 1 (fault_text fault) v) PassesLimit PlainFits (λ is. (is, h)) (λ _. tt)
    answered_fits (Err OverLimit) k = tt

    named_fits : (o : Option Command) → IfSome o CommandFits → (first : List ℕ) (words : List (List ℕ)) → TextsFit limits words
        → IfSome (option_map (λ does. answered limits v (does limits first words v)) o) PlainFits
    named_fits None fit first words k = tt
    named_fits (Some does) fit first words k = answered_fits (does limits first words v) (fit first words k)

  -- a command that runs no script answers and leaves what fits
  pub plain_fits : (words : List (List ℕ)) → TextsFit limits words → (v : Variables) → VariablesFit limits v → IfSome (plain limits words v) PlainFits
  plain_fits [] k v h = tt
  plain_fits (name ∷ words) k v h = named_fits v h (command_named name) (commands_fit v h name) name words (other_words limits name words k)
