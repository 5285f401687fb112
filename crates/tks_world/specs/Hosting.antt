-- What the world is to its scripts (this project's own rule): the host of the commands that the language
-- doesn't have, and of what waits. A command is found in this order: one that is built in, one of the application, a window.
use Rattle.std.specs.Prelude.{ℕ, Bool, ◌&&◌, ◌||◌, not, if◌then◌else◌, List, [], ◌∷◌, Some, None, is_some, Result, Ok, Err}
use Rattle.tks_text.specs.declared.limits.Limits.{Limits}
use Rattle.tks_vars.specs.Variables.{Variables, no_variables}
use Rattle.tks_text.specs.Limits.{fits}
use Rattle.tks_tcl.specs.Cause.{Cause}
use Rattle.tks_tcl.specs.Names.{is_built_in}
use Rattle.tks_app.specs.Applications as app
use Rattle.tks_app.specs.Applications.{has}
use Rattle.tks_app.specs.Memories.{memory_of, remembering}
use Rattle.tks_app.specs.declared.answer.AppAnswer.{AppAnswer}
use Rattle.tks_app.specs.declared.answer.AppCode.{AppCode}
use Rattle.tks_app.specs.declared.answer.AppCode.TheVariants as code
use Rattle.std.specs.FinMap as map
use Rattle.tks_vars.specs.Table.{Map}
use Rattle.tks_state.specs.World.{World, with_fault}
use Rattle.tks_state.specs.declared.rules.Rules.{Rules}
use Rattle.tks_state.specs.Windows.{kept_of}
use Rattle.tks_cmd.specs.Commands.{does}
use Rattle.tks_cmd.specs.EventCommands.{is_built_in_by}
use Rattle.tks_eval.specs.Outcome.{Answer, Unknown, Comes, PassesLimit, Taken, Nothing, Takes, TooMuch, Meaning}
use Rattle.tks_eval.specs.declared.host.Plan.{Plan}
use Rattle.tks_eval.specs.declared.host.Plan.TheVariants as plan
use Rattle.tks_world.specs.Things.{Next, next_due, planned}
use Rattle.tks_world.specs.declared.things.Thing.{Thing}

-- what scripts change and look at beside variables
pub record Setting : Type 0 where
  -- the world, in which there are neither variables nor memories meanwhile
  pub world : World
  -- what the application's commands keep
  pub memories : Map (List ℕ)
  -- the limits that commands keep
  pub limits : Limits
  -- the names of the application's commands
  pub names : List (List ℕ)

-- the world while a script runs in it: variables and memories go beside it
abbrev pub stripped : World → World
stripped world = record world { variables = no_variables; memories = map.empty }

-- ---- commands on windows, bindings and events

-- a command's answer, in the setting in which it was called
abbrev pub in_setting : Setting → Answer World → Answer Setting
in_setting s Unknown = Unknown
in_setting s (Comes plan world variables) = Comes plan (record s { world = world }) variables
in_setting s PassesLimit = PassesLimit

abbrev pub world_does : Setting → Variables → List (List ℕ) → Answer Setting
world_does s variables words = in_setting s (does s.limits s.world variables words)

-- ---- commands of the application

-- the code that an end of such a command is
abbrev pub code_of : AppCode → ℕ
code_of code.Value = 0
code_of code.Error = 1

-- what is answered, where neither its text nor the memory passes the limit; the memory is kept behind an error too
abbrev pub answered : Setting → Variables → List ℕ → AppAnswer → Answer Setting
answered s variables name a =
    if fits s.limits a.text && fits s.limits a.memory
    then Comes (plan.Answer (code_of a.code) a.text) (record s { memories = remembering name a.memory s.memories }) variables
    else PassesLimit

-- ---- both

-- is the command built in, by the rules of the world, or no application's?
abbrev pub is_of_world : Rules → List (List ℕ) → List ℕ → Bool
is_of_world rules names name = is_built_in name || is_built_in_by rules name || not (has names name)

-- ---- what waits

-- what is to be done, in the setting in which it was taken out; only a script of an event can be more than may be
abbrev pub taken_in : Setting → Result (Plan × World) Cause → Taken Setting
taken_in s (Ok x) = Takes x.0 (record s { world = x.1 })
taken_in s (Err why) = TooMuch

-- a thing, in the setting without it
abbrev pub thing_taken : Setting → Thing → Taken Setting
thing_taken s x = taken_in s (planned s.limits x s.world)

-- what is next, and the world without it
abbrev pub next_taken : Setting → Next → Taken Setting
next_taken s None = Nothing
next_taken s (Some x) = thing_taken (record s { world = x.1 }) x.0

-- ---- the host

-- these are what the application's commands mean
module _ (m : app.Meaning) where
  abbrev pub application_does : Setting → Variables → List ℕ → List (List ℕ) → Answer Setting
  application_does s variables name words = answered s variables name (m name (memory_of s.memories name) words)

  abbrev pub command_does : Setting → Variables → List (List ℕ) → Answer Setting
  command_does s variables [] = world_does s variables []
  command_does s variables (name ∷ words) = if is_of_world s.world.rules s.names name then world_does s variables (name ∷ words) else application_does s variables name words

  abbrev pub hosting : Meaning Setting
  hosting = record {
    commands = command_does;
    owns = λ s name. has s.names name || is_built_in_by s.world.rules name;
    alive = λ s window. is_some (kept_of s.world.kept window);
    faulted = λ s text. record s { world = with_fault text s.world };
    next = λ due s. next_taken s (next_due due s.world);
  }
