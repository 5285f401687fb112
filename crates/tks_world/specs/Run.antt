-- A run: inputs one after the other (this project's own rule).
use Rattle.std.specs.Prelude.{List, [], ◌∷◌, ◌++◌}
use Rattle.tks_text.specs.declared.limits.Limits.{Limits}
use Rattle.tks_app.specs.Applications.{Application}
use Rattle.tks_state.specs.World.{World}
use Rattle.tks_world.specs.Step.{Stepped, Accepts, Refuses, step}
use Rattle.tks_input.specs.declared.input.Input.{Input}
use Rattle.tks_input.specs.declared.reply.Reply.{Reply}

-- the world that inputs leave, and the replies to those that were accepted
abbrev pub Ran : Type 0
Ran = World × List Reply

-- a reply before those of what comes after it
abbrev pub with_reply : Reply → Ran → Ran
with_reply reply ran = (ran.0, reply ∷ ran.1)

-- a step, and what is run from where it leads; a refused input leaves the world
abbrev pub went : World → Stepped → (World → Ran) → Ran
went w (Accepts v reply) next = with_reply reply (next v)
went w (Refuses why) next = next w

abbrev pub run_of : Application → World → List Input → Limits → Ran
run_of app w [] limits = (w, [])
run_of app w (input ∷ inputs) limits = went w (step app w input limits) (λ v. run_of app v inputs limits)

-- one run and then another, from where the first ends
abbrev pub then_run : Ran → (World → Ran) → Ran
then_run ran next = ((next ran.0).0, ran.1 ++ (next ran.0).1)

-- those of the inputs that are accepted
abbrev pub kept_input : Input → World → Stepped → (World → List Input) → List Input
kept_input input w (Accepts v reply) next = input ∷ next v
kept_input input w (Refuses why) next = next w

abbrev pub accepted_among : Application → World → List Input → Limits → List Input
accepted_among app w [] limits = []
accepted_among app w (input ∷ inputs) limits = kept_input input w (step app w input limits) (λ v. accepted_among app v inputs limits)
