-- What the script of an input does (this project's own rule).
use Rattle.std.specs.Prelude.{ℕ, nat_lt, if◌then◌else◌, List, length}
use Rattle.tks_text.specs.declared.limits.Limits.{Limits}
use Rattle.tks_parse.specs.Tree as tree
use Rattle.tks_parse.specs.Reading.{script_of}
use Rattle.tks_vars.specs.Variables.{Variables}
use Rattle.tks_app.specs.Applications.{Application, Meaning}
use Rattle.tks_eval.specs.Outcome as outcome
use Rattle.tks_eval.specs.Outcome.{Outcome, End, Stopped, Why, OutOfSteps, TooDeep}
use Rattle.tks_eval.specs.Evaluation.{evaluate, settled}
use Rattle.tks_state.specs.World.{World}
use Rattle.tks_world.specs.Hosting.{Setting, hosting, stripped}
use Rattle.tks_world.specs.Stepped.{Stepped, Refuses, counted}
use Rattle.tks_input.specs.declared.reply.Refused.{Refused}
use Rattle.tks_input.specs.declared.reply.Refused.TheVariants.{BadInput, Budget, Depth, TooLarge}

abbrev pub refusal_of : Why → Refused
refusal_of OutOfSteps = Budget
refusal_of TooDeep = Depth
refusal_of outcome.TooLarge = TooLarge

-- a script's end accepts the input, behind so many, a stop refuses it
abbrev pub concluded : ℕ → Outcome Setting → Stepped
concluded before (Stopped why) = Refuses (refusal_of why)
concluded before (End code text setting variables fuel) = counted before setting.world setting.memories code text variables

-- a script at top level, run to its end with all the steps that an input has
abbrev pub script_ends : Meaning → Limits → tree.Script → Setting → Variables → Outcome Setting
script_ends m limits script setting variables = settled limits (evaluate (hosting m) limits limits.depth script setting variables limits.fuel)

-- the world as scripts are lent it, beside an application's commands of these names
abbrev pub lent : List (List ℕ) → Limits → World → Setting
lent names limits world = record { world = stripped world; memories = world.memories; limits = limits; names = names }

-- a script over the limit is bad
abbrev pub script_step : Application → World → List ℕ → Limits → Stepped
script_step app world text limits =
    if nat_lt limits.text (length text) then Refuses BadInput
    else concluded world.accepted (script_ends app.meaning limits (script_of text) (lent app.names limits world) world.variables)
