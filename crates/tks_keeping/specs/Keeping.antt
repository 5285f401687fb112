-- What steps keep (this project's own rule).
use Rattle.std.specs.Prelude.{◌≡◌, true}
use Rattle.std.specs.FinMap as fin
use Rattle.tks_text.specs.declared.limits.Limits.{Limits}
use Rattle.tks_app.specs.Applications.{Application}
use Rattle.tks_input.specs.declared.input.Input.{Input}
use Rattle.tks_input.specs.declared.reply.Reply.{Reply}
use Rattle.tks_limits.specs.Within.{within}
use Rattle.tks_state.specs.World.{World}
use Rattle.tks_world.specs.Step.{Accepts, step}

-- where an input is accepted in a world within the limits, the world that it leaves is within them too, on the same grid, and has
-- memories of the same names
abbrev pub StepsKeep : Application → Limits → Type 0
StepsKeep app limits = (old : World) (input : Input) (new : World) (reply : Reply) → step app old input limits ≡ Accepts new reply → within limits old ≡ true
    → (within limits new ≡ true) × (new.grid ≡ old.grid) × (fin.keys new.memories ≡ fin.keys old.memories)
