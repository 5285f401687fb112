use Rattle.std.proofs.Common.{rules, ◌≡◌, ◌++◌, ◌∷◌, [], true, false, List, sym, subst}
use Rattle.tks_event.specs.Event.{Event}
use Rattle.tks_event.specs.Kinds.{is_virtual}
use Rattle.tks_event.specs.Legality.{AreEvents}
use Rattle.tks_bind.specs.History.{are_physical, latest}
use Rattle.tks_bind.proofs.Latest.{with_one_event, with_one_more}
use Rattle.tks_bind.proofs.history.History.add_copy.Goals as goal

pub invariant_of-self-2 : goal.invariant_of-self-2
invariant_of-self-2 c =
    let events = c.self.inside.ring in
    let e = c.args.event.now in
    let physical : is_virtual e.kind ≡ false = search rules in
    let pushed : c.push.new.self ≡ latest (events ++ e ∷ []) = search rules in
    subst (λ (l : List Event). AreEvents l × (are_physical l ≡ true)) (sym pushed)
    (with_one_event e events c.stands.ensures c.self.invariant.0, with_one_more e events physical c.self.invariant.1)
