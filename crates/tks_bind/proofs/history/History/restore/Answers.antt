use Rattle.std.proofs.Common.{◌≡◌, true, List, sym, subst, ◌∙◌}
use Rattle.tks_event.specs.Event.{Event}
use Rattle.tks_event.specs.Legality.{AreEvents}
use Rattle.tks_bind.specs.History.{are_physical}
use Rattle.tks_bind.proofs.Latest.{latest_events, latest_physical}
use Rattle.tks_bind.proofs.history.History.restore.Goals as goal

pub invariant_of-result : goal.invariant_of-result
invariant_of-result c =
    let events = c.args.events.items in
    subst (λ (l : List Event). AreEvents l × (are_physical l ≡ true)) (sym (c.in_ok-new.ensures ∙ c.in_ok-of.ensures))
    (latest_events events c.requires.legal, latest_physical events c.requires.physical)
