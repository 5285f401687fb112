-- Runs one behind the other, and without the inputs that are refused.
use Rattle.std.proofs.Common.{◌≡◌, [], ◌∷◌, ◌++◌, refl, sym, subst, ap}
use Rattle.tks_text.specs.declared.limits.Limits.{Limits}
use Rattle.tks_app.specs.Applications.{Application}
use Rattle.tks_state.specs.World.{World}
use Rattle.tks_world.specs.Step.{Stepped, Accepts, Refuses, step}
use Rattle.tks_world.specs.Run.{with_reply, went, run_of, then_run, kept_input, accepted_among}
use Rattle.tks_world.specs.Laws.{RunsJoin, RefusedLeaveOut}

pub join : (app : Application) (limits : Limits) → RunsJoin app limits
join app limits w [] second = refl
join app limits w (input ∷ first) second = by (step app w input limits) (λ v. join app limits v first second)
  where
    by : (stepped : Stepped) → ((v : World) → run_of app v (first ++ second) limits ≡ then_run (run_of app v first limits) (λ u. run_of app u second limits))
        → went w stepped (λ v. run_of app v (first ++ second) limits) ≡ then_run (went w stepped (λ v. run_of app v first limits)) (λ u. run_of app u second limits)
    by (Accepts v reply) rest = ap (with_reply reply) (rest v)
    by (Refuses why) rest = rest w

pub leave_out : (app : Application) (limits : Limits) → RefusedLeaveOut app limits
leave_out app limits w [] = refl
leave_out app limits w (input ∷ inputs) = by (step app w input limits) refl (λ v. leave_out app limits v inputs)
  where
    by : (stepped : Stepped) → step app w input limits ≡ stepped
        → ((v : World) → run_of app v (accepted_among app v inputs limits) limits ≡ run_of app v inputs limits)
        → run_of app w (kept_input input w stepped (λ v. accepted_among app v inputs limits)) limits ≡ went w stepped (λ v. run_of app v inputs limits)
    by (Accepts v reply) is rest =
        subst (λ s. went w s (λ u. run_of app u (accepted_among app v inputs limits) limits) ≡ with_reply reply (run_of app v inputs limits)) (sym is)
        (ap (with_reply reply) (rest v))
    by (Refuses why) is rest = rest w
