-- What holds of the evaluation as a whole (this project's own rule; that commands run one after the other is
-- Tcl(n), rule 1).
use Rattle.std.specs.Prelude.{◌≡◌, ◌≢◌, ◌≤◌, ℕ, zero, suc, ◌+◌, List, []}
use Rattle.tks_text.specs.declared.limits.Limits.{Limits}
use Rattle.tks_parse.specs.Tree.{Script, no_command, join_scripts}
use Rattle.tks_vars.specs.Laws.{FramesStay}
use Rattle.tks_vars.specs.Variables.{Variables}
use Rattle.tks_eval.specs.Outcome.{Outcome, End, Stopped, Answer, Unknown, Comes, PassesLimit, Taken, Nothing, Takes, TooMuch, Meaning, mapped, taken_mapped, Next, Level, after_step, after, after_taken, caught}
use Rattle.tks_eval.specs.Evaluation.{Loop, tested, turn_does, loop_does, done, update_does, thing_does, evaluate}
use Rattle.tks_eval.specs.declared.host.Due.{Due}
use Rattle.tks_eval.specs.declared.host.Plan.{Plan}

-- ---- two halves of a script

-- the second ends as the first does, but for the text; a stop is the same
abbrev pub EndsAlike : {S : Type 0} → Outcome S → Outcome S → Type 0
EndsAlike (Stopped why) whole = whole ≡ Stopped why
EndsAlike (End code text state variables fuel) whole = (last : List ℕ) × (whole ≡ End code last state variables fuel)

-- a whole goes on from an end with code 0 as its second half does; else it is that end, or that stop
abbrev pub GoesOn : {S : Type 0} → Outcome S → Next S → Outcome S → Type 0
GoesOn (Stopped why) second whole = whole ≡ Stopped why
GoesOn (End zero text state variables fuel) second whole = EndsAlike (second state variables fuel) whole
GoesOn (End (suc code) text state variables fuel) second whole = whole ≡ End (suc code) text state variables fuel

-- a script of two halves runs as the first, and then as the second
abbrev pub RunsAsHalves : {S : Type 0} → Meaning S → Type 0
RunsAsHalves {S = S} host = (limits : Limits) (depth : ℕ) (p q : Script) (state : S) (variables : Variables) (fuel : ℕ)
    → GoesOn (evaluate host limits depth p state variables fuel) (evaluate host limits depth q) (evaluate host limits depth (join_scripts p q) state variables fuel)

-- where there is a second half, the text is its text too
abbrev pub TextIsOfSecondHalf : {S : Type 0} → Meaning S → Type 0
TextIsOfSecondHalf {S = S} host = (limits : Limits) (depth : ℕ) (p q : Script) (state : S) (variables : Variables) (fuel : ℕ) → q ≢ no_command
    → evaluate host limits depth (join_scripts p q) state variables fuel ≡ after (evaluate host limits depth p state variables fuel) (λ text. evaluate host limits depth q)

-- ---- limits

-- an answer's state has P
abbrev pub AnswerHas : {S : Type 0} → (S → Type 0) → Answer S → Type 0
AnswerHas P Unknown = Unit {0}
AnswerHas P (Comes plan state variables) = P state
AnswerHas P PassesLimit = Unit {0}

-- the state in which something was taken out has P
abbrev pub TakenHas : {S : Type 0} → (S → Type 0) → Taken S → Type 0
TakenHas P Nothing = Unit {0}
TakenHas P (Takes plan state) = P state
TakenHas P TooMuch = Unit {0}

-- in states that have P, a host answers in those that come of another's by f as the other does, and takes out what the other
-- does, unless that passed a limit; all else is the same, and P stays
pub record HostStays {S T : Type 0} (P : S → Type 0) (f : S → T) (host : Meaning S) (host' : Meaning T) : Type 0 where
  pub commands : (state : S) → P state → (variables : Variables) (words : List (List ℕ)) → host.commands state variables words ≢ PassesLimit → host'.commands (f state) variables words ≡ mapped f (host.commands state variables words)
  pub keeps : (state : S) → P state → (variables : Variables) (words : List (List ℕ)) → AnswerHas P (host.commands state variables words)
  pub owns : (state : S) → P state → (name : List ℕ) → host'.owns (f state) name ≡ host.owns state name
  pub alive : (state : S) → P state → (window : ℕ) → host'.alive (f state) window ≡ host.alive state window
  pub faulted : (state : S) → P state → (text : List ℕ) → host'.faulted (f state) text ≡ f (host.faulted state text)
  pub faulted_keeps : (state : S) → P state → (text : List ℕ) → P (host.faulted state text)
  pub next : (due : Due) (state : S) → P state → host.next due state ≢ TooMuch → host'.next due (f state) ≡ taken_mapped f (host.next due state)
  pub next_keeps : (due : Due) (state : S) → P state → TakenHas P (host.next due state)

-- what ends within limits, levels and fuel for one host ends alike within wider ones for another that stays by it
abbrev pub EndsStayBy : {S T : Type 0} → (S → Type 0) → (S → T) → Meaning S → Meaning T → Limits → Limits → Type 0
EndsStayBy {S = S} {T = T} P f host host' limits wider = (depth deeper : ℕ) → depth ≤ deeper
    → (script : Script) (state : S) → P state → (variables : Variables) (fuel more : ℕ) (code : ℕ) (text : List ℕ) (state' : S) (variables' : Variables) (left : ℕ)
    → evaluate host limits depth script state variables fuel ≡ End code text state' variables' left
    → P state' × (evaluate host' wider deeper script (f state) variables (fuel + more) ≡ End code text (f state') variables' (left + more))

-- what ends within limits, levels and fuel ends alike within wider ones, and leaves so much more of the fuel
abbrev pub EndsStay : {S : Type 0} → Meaning S → Limits → Limits → Type 0
EndsStay {S = S} host limits wider = (depth deeper : ℕ) → depth ≤ deeper
    → (script : Script) (state : S) (variables : Variables) (fuel more : ℕ) (code : ℕ) (text : List ℕ) (state' : S) (variables' : Variables) (left : ℕ)
    → evaluate host limits depth script state variables fuel ≡ End code text state' variables' left
    → evaluate host wider deeper script state variables (fuel + more) ≡ End code text state' variables' (left + more)

-- ---- frames

-- a host's commands leave the frames below the innermost
pub record HostLeavesFrames {S : Type 0} (host : Meaning S) : Type 0 where
  pub commands : (state : S) (variables : Variables) (words : List (List ℕ)) (plan : Plan) (state' : S) (variables' : Variables) → host.commands state variables words ≡ Comes plan state' variables' → FramesStay variables variables'

-- and so does a script that ends
abbrev pub LeavesFrames : {S : Type 0} → Meaning S → Type 0
LeavesFrames {S = S} host = (limits : Limits) (depth : ℕ) (script : Script) (state : S) (variables : Variables) (fuel : ℕ) (code : ℕ) (text : List ℕ) (state' : S) (variables' : Variables) (left : ℕ)
    → evaluate host limits depth script state variables fuel ≡ End code text state' variables' left → FramesStay variables variables'

-- ---- loops

-- a loop is a test of its condition and, where that holds, its body, the script behind it, and the loop again
abbrev pub Unrolls : {S : Type 0} → Meaning S → Type 0
Unrolls {S = S} host = (limits : Limits) (depth : ℕ) (loop : Loop) (state : S) (variables : Variables) (fuel : ℕ)
    → loop_does limits (evaluate host limits depth) loop state variables fuel
    ≡ tested limits (evaluate host limits depth) loop.condition
    (turn_does (evaluate host limits depth) loop (loop_does limits (evaluate host limits depth) loop)) done state variables fuel

-- ---- update

-- `update` takes out the next of what waits and, behind a step, does it and goes on; where nothing waits it is done
abbrev pub UpdatesUnroll : {S : Type 0} → Meaning S → Type 0
UpdatesUnroll {S = S} host = (limits : Limits) (depth : ℕ) (due : Due) (state : S) (variables : Variables) (fuel : ℕ)
    → update_does host limits (evaluate host limits depth) due state variables fuel
    ≡ after_taken (host.next due state) state variables fuel (λ p state variables fuel. after_step fuel (λ fuel.
    caught (thing_does host limits (evaluate host limits depth) p state variables fuel) (λ code text. update_does host limits (evaluate host limits depth) due)))

-- behind an `update` nothing waits that it would do, whatever its scripts ended with, and it has nothing to say
abbrev pub UpdatesLeaveNothing : {S : Type 0} → Meaning S → Type 0
UpdatesLeaveNothing {S = S} host = (limits : Limits) (inner : Level S) (due : Due) (state : S) (variables : Variables) (fuel : ℕ) (code : ℕ) (text : List ℕ) (state' : S) (variables' : Variables) (left : ℕ)
    → update_does host limits inner due state variables fuel ≡ End code text state' variables' left → (code ≡ 0) × (text ≡ []) × (host.next due state' ≡ Nothing)
