-- How the run of a script ends, what a host does, and what follows on an end (this project's own rule; the
-- codes are those of Tcl(n) and catch(n)).
use Rattle.std.specs.Prelude.{ℕ, zero, suc, Bool, ◌||◌, ◌==◌, if◌then◌else◌, List, [], ◌++◌, length, Result, Ok, Err}
use Rattle.tks_text.specs.Fault.{fault_text}
use Rattle.tks_text.specs.declared.fault.ScriptFault.{ScriptFault}
use Rattle.tks_text.specs.declared.limits.Limits.{Limits}
use Rattle.tks_parse.specs.Tree.{Script}
use Rattle.tks_vars.specs.Variables.{Variables}
use Rattle.tks_tcl.specs.Cause as tcl
use Rattle.tks_tcl.specs.Cause.{Fault, OverLimit}
use Rattle.tks_text.specs.Limits.{fits}
use Rattle.tks_eval.specs.declared.host.Due.{Due}
use Rattle.tks_eval.specs.declared.host.Plan.{Plan}

-- why a run stops; no script sees it
pub data Why : Type 0 where
  OutOfSteps : Why
  TooDeep : Why
  TooLarge : Why

-- a run ends with a code, 0 ok, 1 error, 2 return, 3 break or 4 continue, and a text; or it stops
pub data Outcome (S : Type 0) : Type 0 where
  End : (code : ℕ) (text : List ℕ) (state : S) (variables : Variables) (fuel : ℕ) → Outcome S
  Stopped : (why : Why) → Outcome S

-- what goes on from a host's state, the variables and the fuel that is left
abbrev pub Next : Type 0 → Type 0
Next S = S → Variables → ℕ → Outcome S

-- how a script runs
abbrev pub Level : Type 0 → Type 0
Level S = Script → Next S

-- what a host comes to at a command: it has none of this name, a plan with the state and the variables that are left,
-- or it would pass a limit
pub data Answer (S : Type 0) : Type 0 where
  Unknown : Answer S
  Comes : (plan : Plan) (state : S) (variables : Variables) → Answer S
  PassesLimit : Answer S

-- what a host takes out of what waits in it: nothing, since nothing waits, a plan with the state that is left, or it would
-- pass a limit
pub data Taken (S : Type 0) : Type 0 where
  Nothing : Taken S
  Takes : (plan : Plan) (state : S) → Taken S
  TooMuch : Taken S

-- the same answer with other states, one for each
abbrev pub mapped : {S T : Type 0} → (S → T) → Answer S → Answer T
mapped f Unknown = Unknown
mapped f (Comes plan state variables) = Comes plan (f state) variables
mapped f PassesLimit = PassesLimit

-- the same of what is taken out
abbrev pub taken_mapped : {S T : Type 0} → (S → T) → Taken S → Taken T
taken_mapped f Nothing = Nothing
taken_mapped f (Takes plan state) = Takes plan (f state)
taken_mapped f TooMuch = TooMuch

-- what a host does and says in each of its states
pub record Meaning (S : Type 0) : Type 0 where
  pub commands : S → Variables → List (List ℕ) → Answer S
  -- whether no procedure may have this name
  pub owns : S → List ℕ → Bool
  -- whether the window of this number is there
  pub alive : S → ℕ → Bool
  -- the state with an error's text joined to its faults
  pub faulted : S → List ℕ → S
  -- the next of what waits, taken out: of all that there is, or of the idle scripts alone
  pub next : Due → S → Taken S

-- more behind a text that is being made; only what adds to it can pass the limit
abbrev pub appended : Limits → List ℕ → List ℕ → Result (List ℕ) tcl.Cause
appended limits made more = if (length more == 0) || fits limits (made ++ more) then Ok (made ++ more) else Err OverLimit

module _ {S : Type 0} where
  -- what follows a step
  abbrev pub after_step : ℕ → (ℕ → Outcome S) → Outcome S
  after_step zero next = Stopped OutOfSteps
  after_step (suc fuel) next = next fuel

  -- what follows an end with code 0
  abbrev pub after : Outcome S → (List ℕ → Next S) → Outcome S
  after (Stopped why) next = Stopped why
  after (End code text state variables fuel) next = if code == 0 then next text state variables fuel else End code text state variables fuel

  -- what follows on what was taken out; where nothing was, nothing is left to do
  abbrev pub after_taken : Taken S → S → Variables → ℕ → (Plan → Next S) → Outcome S
  after_taken Nothing state variables fuel next = End 0 [] state variables fuel
  after_taken (Takes plan taken) state variables fuel next = next plan taken variables fuel
  after_taken TooMuch state variables fuel next = Stopped TooLarge

  -- what follows the body of a loop: break ends the loop, continue goes on
  abbrev pub after_body : Outcome S → Next S → Outcome S
  after_body (Stopped why) next = Stopped why
  after_body (End code text state variables fuel) next =
      if code == 0 then next state variables fuel
      else (if code == 4 then next state variables fuel
      else (if code == 3 then End 0 [] state variables fuel
      else End code text state variables fuel))

  -- what follows the script that a `for` runs behind its body: break ends the loop
  abbrev pub after_next : Outcome S → Next S → Outcome S
  after_next (Stopped why) next = Stopped why
  after_next (End code text state variables fuel) next =
      if code == 0 then next state variables fuel
      else (if code == 3 then End 0 [] state variables fuel
      else End code text state variables fuel)

  -- what follows any end; a stop is never caught
  abbrev pub caught : Outcome S → (ℕ → List ℕ → Next S) → Outcome S
  caught (Stopped why) next = Stopped why
  caught (End code text state variables fuel) next = next code text state variables fuel

  module _ (limits : Limits) where
    -- the end by an error
    abbrev pub fails : ScriptFault → Next S
    fails fault state variables fuel = if fits limits (fault_text fault) then End 1 (fault_text fault) state variables fuel else Stopped TooLarge

    -- a value, or why there is none
    abbrev pub given : {X : Type 0} → Result X tcl.Cause → S → Variables → ℕ → (X → Outcome S) → Outcome S
    given (Ok x) state variables fuel next = next x
    given (Err (Fault fault)) state variables fuel next = fails fault state variables fuel
    given (Err OverLimit) state variables fuel next = Stopped TooLarge
