use Rattle.std.proofs.Common.{◌<◌, ◌^◌, List, ℕ, length, sym, ◌∙◌, ap, subst}
use Rattle.tks_app.specs.Applications.{Application}
use Rattle.tks_state.specs.World.{World, first_world}
use Rattle.tks_session.specs.Terminals.{spelled}
use Rattle.tks_session.proofs.Lengths.{first_short}
use Rattle.tks_session.proofs.Stored.{first_own}
use Rattle.tks_session.proofs.stepper.StepperMachine.first.Goals as goal

pub returns-clause-own : goal.returns-clause-own
returns-clause-own g c =
    let t = c.args.self.now in
    let app : Application = record { names = t.apps; meaning = g.T.AppMeaning.meaning } in
    let same = c.as_slice.ensures.value ∙ c.in_ok-names.ensures in
    first_own app t.limits t.grid c.in_ok-world.world c.commands.ensures.names (c.in_ok-world.ensures ∙ ap (λ (n : List (List ℕ)). first_world t.grid n) same)

pub returns-clause-short : goal.returns-clause-short
unfolding spelled
returns-clause-short g c =
    let t = c.args.self.now in
    let same = c.as_slice.ensures.value ∙ c.in_ok-names.ensures in
    subst (λ (w : World). length (spelled w) < 2 ^ 40) (sym (c.in_ok-world.ensures ∙ ap (λ (n : List (List ℕ)). first_world t.grid n) same)) (first_short t.grid t.apps c.commands.ensures.names c.commands.ensures.count)
