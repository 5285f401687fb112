use Rattle.std.proofs.Common.{rules, ◌≡◌, ◌∷◌, ◌++◌, sym, ap, ◌∙◌}
use Rattle.std.specs.Vec.Iter.{into_iter_items}
use Rattle.tks_bind.specs.History.{latest}
use Rattle.tks_bind.proofs.Latest.{latest_next}
use Rattle.tks_bind.proofs.ring.Ring.of.Goals as goal

pub loop-event-preserved : goal.loop-event-preserved
loop-event-preserved c =
    let ring = c.loop-event.ring in
    let event = c.in_ok-new.field-0 in
    let rest = into_iter_items c.next.new.self in
    let steps : into_iter_items c.loop-event.event-iterator ≡ event ∷ rest = search rules in
    record {
      left = search rules;
      all = latest_next ring event rest c.push.new.self c.push.ensures ∙ (ap (λ l. latest (ring ++ l)) (sym steps) ∙ c.loop-event.invariant.all);
    }
