-- Wider limits keep what a command comes to, where that passed none.
use Rattle.std.proofs.Common.{◌≡◌, ℕ, ◌≤◌, Bool, true, false, ◌&&◌, leb, ltb, if◌then◌else◌, List, [], ◌∷◌, length, codes, Option, Some, None, option_map, IfSome, Result, Ok, Err, refl, subst, arith}
use Rattle.std.proofs.lemmas.Bool.{le-leb, leb-true, lt-ltb, ltb-true}
use Rattle.std.proofs.lemmas.Option.{IfSome_then}
use Rattle.tks_text.specs.Limits.{Wider, fits}
use Rattle.tks_text.specs.Text.{same_text}
use Rattle.tks_text.specs.Fault.{fault_text}
use Rattle.tks_text.specs.declared.limits.Limits.{Limits}
use Rattle.tks_vars.specs.Variables.{Variables, with_value, with_global_value, with_global_link, exists, grown_by_value, grown_by_global_value, grown_by_link}
use Rattle.tks_tcl.specs.Cause.{Cause, Fault, OverLimit, after, value_or_fault, within, wrong_words}
use Rattle.tks_tcl.specs.Codes.{CodeCommand, bare_code, says, returns, raises, code_named}
use Rattle.tks_tcl.specs.Words.{truth_text}
use Rattle.tks_tcl.specs.Lists.{ListCommand}
use Rattle.tks_tcl.specs.Variables.{VariableCommand, answers, may_grow, stores, stores_global, link_within, with_global_links, value_in, increased, appended, list_appended, silent, set_does, incr_does, append_does, lappend_does, global_does, info_does, unset_does, variable_named}
use Rattle.tks_tcl.specs.Plain.{Answer, Answers, PassesLimit, Ending, with_code_0, Command, of_lists, of_variables, of_code, command_named, answered, plain}
use Rattle.tks_tcl.specs.Laws.{AnswersStay}
use Rattle.tks_tcl.proofs.Named.{named_or, each_variable, by_kind}

-- ---- values

-- the second is the first, unless that passed a limit
abbrev pub IsKept : {X : Type 0} → Result X Cause → Result X Cause → Type 0
IsKept (Ok x) r = r ≡ Ok x
IsKept (Err (Fault fault)) r = r ≡ Err (Fault fault)
IsKept (Err OverLimit) r = Unit {0}

-- the same as a record, which shows its two results
pub record Keeps {X : Type 0} (r r' : Result X Cause) : Type 0 where
  pub kept : IsKept r r'

pub itself : {X : Type 0} (r : Result X Cause) → Keeps r r
itself (Ok x) = record { kept = refl }
itself (Err (Fault fault)) = record { kept = refl }
itself (Err OverLimit) = record { kept = tt }

pub after_keeps : {X Y : Type 0} {r r' : Result X Cause} {next next' : X → Result Y Cause} → Keeps r r' → ((x : X) → Keeps (next x) (next' x)) → Keeps (after r next) (after r' next')
after_keeps {r = Ok x} h n = rw (h.kept) (n x)
after_keeps {r = Err (Fault fault)} h n = rw (h.kept) (itself (Err (Fault fault)))
after_keeps {r = Err OverLimit} h n = record { kept = tt }

-- one of two, whatever is asked
pub if_keeps : {X : Type 0} (b : Bool) {r r' other other' : Result X Cause} → Keeps r r' → Keeps other other' → Keeps (if b then r else other) (if b then r' else other')
if_keeps true h o = h
if_keeps false h o = o

-- a test that still holds
abbrev pub Holds : Bool → Bool → Type 0
Holds b b' = b ≡ true → b' ≡ true

-- what may be where there is room
pub room_keeps : {X : Type 0} (b b' : Bool) {r r' : Result X Cause} → Holds b b' → Keeps r r' → Keeps (if b then r else Err OverLimit) (if b' then r' else Err OverLimit)
room_keeps true b' h k = rw (h refl) k
room_keeps false b' h k = record { kept = tt }

pub both_hold : (a a' b b' : Bool) → Holds a a' → Holds b b' → Holds (a && b) (a' && b')
both_hold true a' true b' p q h = rw (p refl, q refl) refl
both_hold true a' false b' p q h = absurd cc
both_hold false a' b b' p q h = absurd cc

-- a number within a limit is within a greater one
pub at_most_holds : (n a b : ℕ) → a ≤ b → Holds (leb n a) (leb n b)
at_most_holds n a b w h = let l = leb-true n a h in le-leb n b (omega (arith, l, w))

pub below_holds : (n a b : ℕ) → a ≤ b → Holds (ltb n a) (ltb n b)
below_holds n a b w h = let l = ltb-true n a h in lt-ltb n b (omega (arith, l, w))

-- ---- answers of commands

-- the second is the first, unless that passed a limit
abbrev pub IsAnswerKept : Option Answer → Option Answer → Type 0
IsAnswerKept None answer = answer ≡ None
IsAnswerKept (Some (Answers code text variables)) answer = answer ≡ Some (Answers code text variables)
IsAnswerKept (Some PassesLimit) answer = Unit {0}

module _ (limits wider : Limits) (w : Wider limits wider) where
  pub fits_wider : (text : List ℕ) → Holds (fits limits text) (fits wider text)
  fits_wider text = at_most_holds (length text) limits.text wider.text w.text

  pub within_keeps : (text : List ℕ) → Keeps (within limits text) (within wider text)
  within_keeps text = room_keeps _ _ (fits_wider text) (itself (Ok text))

  -- ---- variables

  may_grow_wider : (members : Option ℕ) → Holds (may_grow limits members) (may_grow wider members)
  may_grow_wider None h = refl
  may_grow_wider (Some members) h = below_holds members limits.items wider.items w.items h

  pub answers_keep : (variables : Variables) (value : Result (List ℕ) Cause) → Keeps (answers limits variables value) (answers wider variables value)
  answers_keep variables value = after_keeps (itself value) (λ value. after_keeps (within_keeps value) (λ text. itself (Ok (text, variables))))

  pub stores_keep : (name : List ℕ) (variables : Variables) (value : List ℕ) → Keeps (stores limits name variables value) (stores wider name variables value)
  stores_keep name variables value =
      room_keeps _ _ (both_hold _ _ _ _ (fits_wider value) (may_grow_wider (grown_by_value variables name)))
      (itself (after (value_or_fault (with_value variables name value)) (λ new. Ok (value, new))))

  pub stores_global_keep : (name : List ℕ) (variables : Variables) (value : List ℕ) → Keeps (stores_global limits name variables value) (stores_global wider name variables value)
  stores_global_keep name variables value =
      room_keeps _ _ (both_hold _ _ _ _ (fits_wider value) (may_grow_wider (grown_by_global_value variables name)))
      (itself (after (value_or_fault (with_global_value variables name value)) (λ new. Ok (value, new))))

  -- what a command that stores a value comes to
  stored_keep : (name : List ℕ) (variables : Variables) (value : Result (List ℕ) Cause) → Keeps (after value (stores limits name variables)) (after value (stores wider name variables))
  stored_keep name variables value = after_keeps (itself value) (stores_keep name variables)

  link_keeps : (name : List ℕ) (variables : Variables) → Keeps (link_within limits name variables) (link_within wider name variables)
  link_keeps name variables = room_keeps _ _ (may_grow_wider (grown_by_link variables name)) (itself (value_or_fault (with_global_link variables name)))

  links_keep : (names : List (List ℕ)) (variables : Variables) → Keeps (with_global_links limits names variables) (with_global_links wider names variables)
  links_keep [] variables = itself (Ok variables)
  links_keep (name ∷ names) variables = after_keeps (link_keeps name variables) (links_keep names)

  -- ---- commands

  set_keeps : (command : List ℕ) (words : List (List ℕ)) (variables : Variables) → Keeps (set_does limits command words variables) (set_does wider command words variables)
  set_keeps command [] variables = itself (wrong_words command)
  set_keeps command (name ∷ []) variables = answers_keep variables (value_in variables name)
  set_keeps command (name ∷ (value ∷ [])) variables = stores_keep name variables value
  set_keeps command (name ∷ (value ∷ (more ∷ words))) variables = itself (wrong_words command)

  incr_keeps : (command : List ℕ) (words : List (List ℕ)) (variables : Variables) → Keeps (incr_does limits command words variables) (incr_does wider command words variables)
  incr_keeps command [] variables = itself (wrong_words command)
  incr_keeps command (name ∷ []) variables = stored_keep name variables (increased variables name (codes "1"))
  incr_keeps command (name ∷ (n ∷ [])) variables = stored_keep name variables (increased variables name n)
  incr_keeps command (name ∷ (n ∷ (more ∷ words))) variables = itself (wrong_words command)

  append_keeps : (command : List ℕ) (words : List (List ℕ)) (variables : Variables) → Keeps (append_does limits command words variables) (append_does wider command words variables)
  append_keeps command [] variables = itself (wrong_words command)
  append_keeps command (name ∷ []) variables = itself (wrong_words command)
  append_keeps command (name ∷ (value ∷ values)) variables = stored_keep name variables (appended variables name (value ∷ values))

  lappend_keeps : (command : List ℕ) (words : List (List ℕ)) (variables : Variables) → Keeps (lappend_does limits command words variables) (lappend_does wider command words variables)
  lappend_keeps command [] variables = itself (wrong_words command)
  lappend_keeps command (name ∷ []) variables = itself (wrong_words command)
  lappend_keeps command (name ∷ (value ∷ values)) variables = stored_keep name variables (list_appended variables name (value ∷ values))

  global_keeps : (command : List ℕ) (words : List (List ℕ)) (variables : Variables) → Keeps (global_does limits command words variables) (global_does wider command words variables)
  global_keeps command [] variables = itself (wrong_words command)
  global_keeps command (name ∷ names) variables = after_keeps (links_keep (name ∷ names) variables) (λ new. itself (silent new))

  info_keeps : (command : List ℕ) (words : List (List ℕ)) (variables : Variables) → Keeps (info_does limits command words variables) (info_does wider command words variables)
  info_keeps command [] variables = itself (wrong_words command)
  info_keeps command (subcommand ∷ []) variables = itself (wrong_words command)
  info_keeps command (subcommand ∷ (name ∷ [])) variables =
      if_keeps (same_text subcommand (codes "exists")) (answers_keep variables (after (value_or_fault (exists variables name)) (λ there. Ok (truth_text there)))) (itself (wrong_words command))
  info_keeps command (subcommand ∷ (name ∷ (more ∷ words))) variables = itself (wrong_words command)

  abbrev VariableKeeps : VariableCommand → Type 0
  VariableKeeps does = (command : List ℕ) (words : List (List ℕ)) (variables : Variables) → Keeps (does limits command words variables) (does wider command words variables)

  variables_keep : (name : List ℕ) → IfSome (variable_named name) VariableKeeps
  variables_keep =
      each_variable VariableKeeps append_keeps global_keeps incr_keeps info_keeps lappend_keeps set_keeps
      (λ command words variables. itself (unset_does command words variables))

  says_keeps : (number : ℕ) (text : List ℕ) → Keeps (says limits number text) (says wider number text)
  says_keeps number text = after_keeps (within_keeps text) (λ text. itself (Ok (number, text)))

  raises_keeps : (command : List ℕ) (words : List (List ℕ)) → Keeps (raises limits command words) (raises wider command words)
  raises_keeps command [] = itself (wrong_words command)
  raises_keeps command (text ∷ []) = says_keeps 1 text
  raises_keeps command (text ∷ (more ∷ words)) = itself (wrong_words command)

  returns_keeps : (command : List ℕ) (words : List (List ℕ)) → Keeps (returns limits command words) (returns wider command words)
  returns_keeps command [] = itself (Ok (2, []))
  returns_keeps command (value ∷ []) = says_keeps 2 value
  returns_keeps command (value ∷ (more ∷ words)) = itself (wrong_words command)

  abbrev CodeKeeps : CodeCommand → Type 0
  CodeKeeps does = (command : List ℕ) (words : List (List ℕ)) → Keeps (does limits command words) (does wider command words)

  codes_keep : (name : List ℕ) → IfSome (code_named name) CodeKeeps
  codes_keep name =
      named_or CodeKeeps (same_text name (codes "break")) _ _ (λ command words. itself (bare_code 3 command words))
      (named_or CodeKeeps (same_text name (codes "continue")) _ _ (λ command words. itself (bare_code 4 command words))
      (named_or CodeKeeps (same_text name (codes "error")) _ _ raises_keeps
      (named_or CodeKeeps (same_text name (codes "return")) _ _ returns_keeps tt)))

  -- ---- all of them

  abbrev CommandKeeps : Command → Type 0
  CommandKeeps does = (name : List ℕ) (words : List (List ℕ)) (variables : Variables) → Keeps (does limits name words variables) (does wider name words variables)

  of_lists_keeps : (does : ListCommand) → CommandKeeps (of_lists does)
  of_lists_keeps does name words variables = after_keeps (answers_keep variables (does name words)) (λ x. itself (with_code_0 x))

  of_variables_keeps : (does : VariableCommand) → VariableKeeps does → CommandKeeps (of_variables does)
  of_variables_keeps does keeps name words variables = after_keeps (keeps name words variables) (λ x. itself (with_code_0 x))

  of_code_keeps : (does : CodeCommand) → CodeKeeps does → CommandKeeps (of_code does)
  of_code_keeps does keeps name words variables = after_keeps (keeps name words) (λ x. itself (Ok (x, variables)))

  commands_keep : (name : List ℕ) → IfSome (command_named name) CommandKeeps
  commands_keep name =
      by_kind CommandKeeps name of_lists_keeps (IfSome_then (variable_named name) (variables_keep name) of_variables_keeps)
      (IfSome_then (code_named name) (codes_keep name) of_code_keeps)

  -- ---- answers

  answered_kept : (variables : Variables) (r r' : Result Ending Cause) → Keeps r r' → IsAnswerKept (Some (answered limits variables r)) (Some (answered wider variables r'))
  answered_kept variables (Ok x) r' h = rw (h.kept) refl
  answered_kept variables (Err (Fault fault)) r' h = rw (h.kept) (by_size (fits limits (fault_text fault)) (fits wider (fault_text fault)) (fits_wider (fault_text fault)))
    where
      by_size : (b b' : Bool) → Holds b b' → IsAnswerKept (Some (if b then Answers 1 (fault_text fault) variables else PassesLimit)) (Some (if b' then Answers 1 (fault_text fault) variables else PassesLimit))
      by_size true b' g = rw (g refl) refl
      by_size false b' g = tt
  answered_kept variables (Err OverLimit) r' h = tt

  named_kept : (o : Option Command) → IfSome o CommandKeeps → (name : List ℕ) (words : List (List ℕ)) (variables : Variables)
      → IsAnswerKept (option_map (λ does. answered limits variables (does limits name words variables)) o) (option_map (λ does. answered wider variables (does wider name words variables)) o)
  named_kept None keeps name words variables = refl
  named_kept (Some does) keeps name words variables = answered_kept variables _ _ (keeps name words variables)

  pub plain_kept : (words : List (List ℕ)) (variables : Variables) → IsAnswerKept (plain limits words variables) (plain wider words variables)
  plain_kept [] variables = refl
  plain_kept (name ∷ words) variables = named_kept (command_named name) (commands_keep name) name words variables

-- an answer within the limits is the answer within wider ones
pub answers_stay : (limits wider : Limits) → Wider limits wider → AnswersStay limits wider
answers_stay limits wider w words variables code text new e = subst (λ answer. IsAnswerKept answer (plain wider words variables)) e (plain_kept limits wider w words variables)
