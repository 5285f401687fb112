-- What holds of every command on windows (this project's own rule).
use Rattle.std.specs.Prelude.{◌≡◌, ◌≢◌, ℕ, List}
use Rattle.tks_text.specs.declared.limits.Limits.{Limits}
use Rattle.tks_vars.specs.Laws.{FramesStay}
use Rattle.tks_vars.specs.Variables.{Variables}
use Rattle.tks_state.specs.World.{World}
use Rattle.tks_eval.specs.Outcome.{Comes, PassesLimit}
use Rattle.tks_eval.specs.declared.host.Plan.{Plan}
use Rattle.tks_eval.specs.declared.host.Plan.TheVariants as plan
use Rattle.tks_cmd.specs.Commands.{does}

-- a command that ends in an error of its own has changed nothing
abbrev pub ErrorsChangeNothing : Type 0
ErrorsChangeNothing =
    (limits : Limits) (w w' : World) (variables variables' : Variables) (words : List (List ℕ)) (text : List ℕ)
    → does limits w variables words ≡ Comes (plan.Answer 1 text) w' variables' → (w' ≡ w) × (variables' ≡ variables)

-- what a command comes to within limits it comes to within wider ones
abbrev pub AnswersStay : Limits → Limits → Type 0
AnswersStay limits wider = (w : World) (variables : Variables) (words : List (List ℕ)) → does limits w variables words ≢ PassesLimit
    → does wider w variables words ≡ does limits w variables words

-- a command leaves the frames below the innermost
abbrev pub LeavesFrames : Type 0
LeavesFrames =
    (limits : Limits) (w w' : World) (variables variables' : Variables) (words : List (List ℕ)) (p : Plan)
    → does limits w variables words ≡ Comes p w' variables' → FramesStay variables variables'
