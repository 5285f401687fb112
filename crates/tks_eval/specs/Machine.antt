-- What frames mean: each is one sequencing of the evaluation, read backwards.
use Rattle.std.specs.Prelude.{◌≡◌, ℕ, Bool, true, false, not, is_some, ◌+◌, ◌*◌, ◌≤◌, ◌<◌, List, [], ◌∷◌, ◌++◌, Option, Some, None, Result, Ok, Err}
use Rattle.tks_text.specs.declared.limits.Limits.{Limits}
use Rattle.tks_parse.specs.Tree.{Words, script_size, words_size, parts_size}
use Rattle.tks_parse.specs.Reading.{script_of}
use Rattle.tks_parse.specs.View.{parts_of, words_of}
use Rattle.tks_vars.specs.Variables.{Variables}
use Rattle.tks_tcl.specs.Plain as commands
use Rattle.tks_tcl.specs.Plain.{plain}
use Rattle.tks_tcl.specs.Cause.{Cause}
use Rattle.tks_tcl.specs.Meets.{text_of, AnswersSo}
use Rattle.tks_eval.specs.Outcome.{Outcome, End, Stopped, Meaning, Next, Level, after, after_body, caught, appended, fails, given}
use Rattle.tks_expr.specs.declared.items.Item.{Item}
use Rattle.tks_expr.specs.declared.items.Item.TheVariants as item
use Rattle.tks_eval.specs.Evaluation.{Loop, element_name, with_value, parts_do, words_in, words_do, commands_do, evaluate, after_truth, branches_do, catch_ends, each, settled, without_frame, returned, after_script, scripts_do, noted, update_does, result_told}
use Rattle.tks_eval.specs.Filling.{Stand, All, Upto, words_made}
use Rattle.tks_eval.specs.Names.{Control, control_named}
use Rattle.tks_eval.specs.Names as control
use Rattle.tks_eval.specs.Counting.{counts_on}
use Rattle.tks_eval.specs.Loops.{after_stage}
use Rattle.tks_eval.specs.Meets.{FailsSo, StopsSo}
use Rattle.tks_eval.specs.declared.control.Control.{Control as Coded}
use Rattle.tks_eval.specs.declared.control.Control.TheVariants as coded
use Rattle.tks_eval.specs.declared.frame.Frame.{Frame}
use Rattle.tks_eval.specs.declared.frame.Frame.TheVariants as frame
use Rattle.tks_eval.specs.declared.expressions.Valued.{Valued}
use Rattle.tks_eval.specs.declared.expressions.Valued.TheVariants as valued
use Rattle.tks_eval.specs.declared.loops.Stage.{Stage}
use Rattle.tks_eval.specs.declared.loops.Stage.TheVariants as stage
use Rattle.tks_eval.specs.declared.frame.Ending.{Ending}
use Rattle.tks_eval.specs.declared.frame.Opens.{Opens}
use Rattle.tks_eval.specs.declared.frame.Opens.TheVariants as opens
use Rattle.tks_eval.specs.declared.frame.Waiting.{Waiting}
use Rattle.tks_eval.specs.declared.frame.Came.{Came}
use Rattle.tks_eval.specs.declared.frame.Came.TheVariants as came
use Rattle.tks_eval.specs.declared.machine.Machine.{Machine}
use Rattle.tks_eval.specs.declared.halt.Halt.{Halt}
use Rattle.tks_eval.specs.declared.halt.Halt.TheVariants as halt
use Rattle.tks_tcl.specs.declared.stop.Stop.{Stop}

-- the command that the code means
abbrev pub control_of : Coded → Control
control_of coded.Catch = control.Catch
control_of coded.Eval = control.Eval
control_of coded.Expr = control.Expr
control_of coded.For = control.For
control_of coded.Foreach = control.Foreach
control_of coded.If = control.If
control_of coded.Proc = control.Proc
control_of coded.While = control.While

-- the text that an outcome tells
abbrev pub text_told : {S : Type 0} → Outcome S → List ℕ
text_told (End code text state variables fuel) = text
text_told (Stopped why) = []

-- how a script or a command ended; where its text isn't asked for, another one may stand for that of an end by code 0
abbrev pub EndsAs : {S : Type 0} → Bool → Outcome S → Ending → S → Variables → ℕ → Type 0
EndsAs true whole end state variables fuel = whole ≡ End end.code end.text state variables fuel
EndsAs false whole end state variables fuel =
    (whole ≡ End end.code (text_told whole) state variables fuel) × ((end.code ≡ 0 → ⊥) → text_told whole ≡ end.text)

-- the words that were made, where all are
abbrev pub words_filled : Result Stand Cause → List (List ℕ)
words_filled (Ok (All words)) = words
words_filled (Ok (Upto words expand parts made rest)) = words
words_filled (Err why) = []

-- whether words are a command's that runs no script
abbrev pub runs_none : List (List ℕ) → Bool
runs_none [] = false
runs_none (first ∷ words) = not (is_some (control_named first))

-- the same of a command that runs no script
abbrev pub AnswersAs : Bool → Option commands.Answer → Ending → Variables → Type 0
AnswersAs true answer end variables = answer ≡ Some (commands.Answers end.code end.text variables)
AnswersAs false answer end variables =
    (answer ≡ Some (commands.Answers end.code (text_of answer) variables)) × ((end.code ≡ 0 → ⊥) → text_of answer ≡ end.text)

-- what was answered, from old variables to new ones, is the definition's; want of memory may come anywhere
abbrev pub PlainlySo : Bool → Result (Option Ending) Stop → Variables → Variables → Option commands.Answer → Type 0
PlainlySo asked (Ok (Some end)) old new answer = AnswersAs asked answer end new
PlainlySo asked (Ok None) old new answer = AnswersSo (Ok None) old new answer
PlainlySo asked (Err why) old new answer = AnswersSo (Err why) old new answer

-- words that are all made are those of a command that runs no script, and ends with this code and this text
abbrev pub AnswersWords : Limits → Variables → Words → ℕ → List ℕ → Type 0
AnswersWords limits variables words code text =
    (words_made limits variables words [] ≡ Ok (All (words_filled (words_made limits variables words []))))
    × (runs_none (words_filled (words_made limits variables words [])) ≡ true)
    × (plain limits (words_filled (words_made limits variables words [])) variables ≡ Some (commands.Answers code text variables))

-- how many scripts may be opened in one another behind a frame
abbrev pub left_below : ℕ → Frame → ℕ
left_below left (frame.Commands rest levels) = levels
left_below left frame = left

-- the same behind frames
abbrev pub left_behind : ℕ → List Frame → ℕ
left_behind left [] = left
left_behind left (frame ∷ below) = left_behind (left_below left frame) below

module _ {S : Type 0} (host : Meaning S) (limits : Limits) where
  -- what a frame makes of the end that it waited for, where so many scripts may yet be opened in one another
  abbrev pub after_frame : ℕ → Frame → Outcome S → Outcome S
  after_frame left (frame.Commands rest levels) outcome = after outcome (commands_do host limits (evaluate host limits left) rest)
  after_frame left (frame.Command words expand rest) outcome =
      after outcome (λ text state variables fuel. given limits (words_in expand text) state variables fuel (λ more.
      words_do host limits (evaluate host limits left) (words_of rest) (words ++ more) state variables fuel))
  after_frame left (frame.Nested made parts) outcome =
      after outcome (λ text state variables fuel. given limits (appended limits made text) state variables fuel (λ made.
      parts_do limits (evaluate host limits left) (parts_of parts) made state variables fuel))
  after_frame left (frame.Element name made parts) outcome =
      after outcome (λ at state variables fuel. given limits (with_value limits variables (element_name name at) made) state variables fuel (λ made.
      parts_do limits (evaluate host limits left) (parts_of parts) made state variables fuel))
  after_frame left (frame.Catch name) outcome = caught outcome (catch_ends limits name)
  after_frame left (frame.Each name body elements) outcome = after_body outcome (each limits (evaluate host limits left) name body elements)
  after_frame left (frame.Value c) outcome = counts_on limits (evaluate host limits left) c outcome
  after_frame left frame.Whole outcome = result_told limits outcome
  after_frame left (frame.Branch body rest) outcome =
      after_truth limits outcome (evaluate host limits left (script_of body)) (branches_do limits (evaluate host limits left) rest.otherwise rest.tests)
  after_frame left (frame.Turns stage loop) outcome = after_stage limits (evaluate host limits left) stage loop outcome
  after_frame left frame.Procedure outcome = settled limits (without_frame outcome)
  after_frame left frame.Global outcome = returned (without_frame outcome)
  after_frame left (frame.Scripts window scripts) outcome = after_script host (without_frame outcome) (scripts_do host (evaluate host limits left) window scripts)
  after_frame left frame.Thing outcome = noted host (settled limits outcome)
  after_frame left (frame.Update due) outcome = caught outcome (λ code text. update_does host limits (evaluate host limits left) due)

  -- what comes of an end on top of a stack
  abbrev pub resume : ℕ → List Frame → Outcome S → Outcome S
  resume left [] outcome = outcome
  resume left (frame ∷ below) outcome = resume (left_below left frame) below (after_frame left frame outcome)

  -- what is to be opened
  abbrev pub opens_do : ℕ → Opens → Next S
  opens_do left (opens.Script script) = evaluate host limits left script
  opens_do left (opens.Index parts) = parts_do limits (evaluate host limits left) (parts_of parts) []
  opens_do left (opens.Things due) = update_does host limits (evaluate host limits left) due

  -- what waits
  abbrev pub waits_do : ℕ → Waiting → Next S
  waits_do left w state variables fuel = resume left w.frames.items (opens_do left w.opens state variables fuel)

-- a thing, the result of which is told
abbrev pub told_by : {S : Type 0} → Limits → Next S → Next S
told_by limits thing state variables fuel = result_told limits (thing state variables fuel)

-- a stop, as what there is nothing to go on with
abbrev pub halted : Result Came Stop → Result Came Halt
halted (Ok c) = Ok c
halted (Err why) = Err (halt.Stop why)

-- the same, where an error is an end
abbrev pub ToldSo : Limits → Result Came Halt → Result Came Stop → Type 0
ToldSo limits (Ok c) (Ok told) = told ≡ c
ToldSo limits (Ok c) (Err why) = ⊥
ToldSo limits (Err (halt.Fault fault)) (Ok (came.Ended end)) = FailsSo limits fault (Ok end)
ToldSo limits (Err (halt.Fault fault)) (Ok (came.Waits w)) = ⊥
ToldSo limits (Err (halt.Fault fault)) (Err why) = FailsSo limits fault (Err why)
ToldSo limits (Err (halt.Stop why)) (Ok told) = ⊥
ToldSo limits (Err (halt.Stop why)) (Err told) = told ≡ why

-- scripts, where as many may be opened in one another as a machine has left
abbrev pub level_of : {S : Type 0} → Meaning S → Machine → Level S
level_of host m = evaluate host m.limits m.left

-- an end, as what is done
abbrev pub ended : {S : Type 0} → Ending → Next S
ended end state variables fuel = End end.code end.text state variables fuel

-- what is done in a state, with a machine's variables and its steps
abbrev pub done_by : {S : Type 0} → Next S → S → Machine → Outcome S
done_by thing state m = thing state m.variables m.fuel

module _ {S : Type 0} (host : Meaning S) where
  -- how far a thing came, behind which so many scripts may be open. Where the text of an end by code 0 isn't asked for, another
  -- one may stand for it
  abbrev pub CameSo : Bool → ℕ → Outcome S → Came → Machine → S → Type 0
  CameSo asked below whole (came.Ended end) m state = EndsAs asked whole end state m.variables m.fuel × (m.left ≡ below)
  CameSo asked below whole (came.Waits w) m state =
      (whole ≡ done_by (waits_do host m.limits m.left w.value) state m) × (left_behind m.left w.value.frames.items ≡ below)

  -- the same of what no error ends
  abbrev pub RunsSo : Bool → ℕ → Outcome S → Result Came Stop → Machine → S → Type 0
  RunsSo asked below whole (Ok c) m state = CameSo asked below whole c m state
  RunsSo asked below whole (Err why) m state = StopsSo whole why

  -- the same of what an error may end
  abbrev pub ComesSo : Bool → ℕ → Outcome S → Result Came Halt → Machine → S → Type 0
  ComesSo asked below whole (Ok c) m state = CameSo asked below whole c m state
  ComesSo asked below whole (Err (halt.Fault fault)) m state = (whole ≡ fails m.limits fault state m.variables m.fuel) × (m.left ≡ below)
  ComesSo asked below whole (Err (halt.Stop why)) m state = StopsSo whole why

  -- the same, behind which as many scripts may be open as before
  abbrev pub DoesSo : Bool → Next S → S → Machine → Result Came Halt → S → Machine → Type 0
  DoesSo asked thing state old result state' new = ComesSo asked old.left (done_by thing state old) result new state'

  -- how far an expression came
  abbrev pub ValuedSo : ℕ → Outcome S → Result Valued Halt → Machine → S → Type 0
  ValuedSo below whole (Ok (valued.Value value)) m state = (whole ≡ End 0 value state m.variables m.fuel) × (m.left ≡ below)
  ValuedSo below whole (Ok (valued.Ended end)) m state =
      (whole ≡ End end.code end.text state m.variables m.fuel) × (end.code ≡ 0 → ⊥) × (m.left ≡ below)
  ValuedSo below whole (Ok (valued.Waits w)) m state =
      (whole ≡ done_by (waits_do host m.limits m.left w.value) state m) × (left_behind m.left w.value.frames.items ≡ below)
  ValuedSo below whole (Err (halt.Fault fault)) m state = (whole ≡ fails m.limits fault state m.variables m.fuel) × (m.left ≡ below)
  ValuedSo below whole (Err (halt.Stop why)) m state = StopsSo whole why

  -- how far a thing came, before a stack
  abbrev pub GoesSo : Outcome S → List Frame → Result Came Halt → Machine → S → Type 0
  GoesSo whole stack (Ok (came.Ended end)) m state = whole ≡ resume host m.limits m.left stack (done_by (ended end) state m)
  GoesSo whole stack (Ok (came.Waits w)) m state =
      whole ≡ resume host m.limits m.left (w.value.frames.items ++ stack) (done_by (opens_do host m.limits m.left w.value.opens) state m)
  GoesSo whole stack (Err (halt.Fault fault)) m state = whole ≡ resume host m.limits m.left stack (done_by (fails m.limits fault) state m)
  GoesSo whole stack (Err (halt.Stop why)) m state = StopsSo whole why

-- ---- what is left to do before the next step

abbrev pub items_weight : List Item → ℕ
items_weight [] = 0
items_weight (item.Make parts ∷ rest) = 4 * parts_size parts + 3 + items_weight rest
items_weight (i ∷ rest) = items_weight rest

abbrev pub text_weight : List ℕ → ℕ
text_weight text = 4 * script_size (script_of text) + 2

abbrev pub optional_weight : Option (List ℕ) → ℕ
optional_weight None = 0
optional_weight (Some text) = text_weight text

abbrev pub loop_weight : Stage → Loop → ℕ
loop_weight stage.Start loop = 1
loop_weight stage.Condition loop = text_weight loop.body + optional_weight loop.next + 3
loop_weight stage.Body loop = optional_weight loop.next + 2
loop_weight stage.Next loop = 1

abbrev pub frame_weight : Frame → ℕ
frame_weight (frame.Value c) = items_weight c.0 + 1
frame_weight frame.Whole = 1
frame_weight (frame.Branch body rest) = text_weight body + optional_weight rest.otherwise + 1
frame_weight (frame.Turns stage loop) = loop_weight stage loop
frame_weight (frame.Commands rest levels) = 4 * script_size rest + 1
frame_weight (frame.Command words expand rest) = 4 * words_size (words_of rest) + 1
frame_weight (frame.Nested made parts) = 4 * parts_size (parts_of parts) + 2
frame_weight (frame.Element name made parts) = 4 * parts_size (parts_of parts) + 2
frame_weight (frame.Catch name) = 1
frame_weight (frame.Each name body elements) = 1
frame_weight frame.Procedure = 1
frame_weight frame.Global = 1
frame_weight (frame.Scripts window scripts) = 1
frame_weight frame.Thing = 1
frame_weight (frame.Update due) = 1

abbrev pub frames_weight : List Frame → ℕ
frames_weight [] = 0
frames_weight (frame ∷ below) = frame_weight frame + frames_weight below

abbrev pub opens_weight : Opens → ℕ
opens_weight (opens.Script script) = 4 * script_size script + 2
opens_weight (opens.Index parts) = 4 * parts_size (parts_of parts) + 1
opens_weight (opens.Things due) = 1

abbrev pub waits_weight : Waiting → ℕ
waits_weight w = opens_weight w.opens + frames_weight w.frames.items

-- a step was taken, or no more is left of what waits than this
abbrev pub FallsTo : {E : Type 0} → Result Came E → ℕ → ℕ → ℕ → Type 0
FallsTo (Ok (came.Ended end)) size old new = new ≤ old
FallsTo (Ok (came.Waits w)) size old new = (new ≤ old) × (new ≡ old → waits_weight w.value ≤ size)
FallsTo (Err why) size old new = new ≤ old

-- the same of an expression
abbrev pub ValueFallsTo : {E : Type 0} → Result Valued E → ℕ → ℕ → ℕ → Type 0
ValueFallsTo (Ok (valued.Value value)) size old new = new ≤ old
ValueFallsTo (Ok (valued.Ended end)) size old new = new ≤ old
ValueFallsTo (Ok (valued.Waits w)) size old new = (new ≤ old) × (new ≡ old → waits_weight w.value ≤ size)
ValueFallsTo (Err why) size old new = new ≤ old

-- a step was taken, or less is left of what waits than this
abbrev pub FallsBelow : {E : Type 0} → Result Came E → ℕ → ℕ → ℕ → Type 0
FallsBelow (Ok (came.Ended end)) size old new = new ≤ old
FallsBelow (Ok (came.Waits w)) size old new = (new ≤ old) × (new ≡ old → waits_weight w.value < size)
FallsBelow (Err why) size old new = new ≤ old
