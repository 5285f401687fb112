use Rattle.std.proofs.Common.{◌≡◌, subst}
use Rattle.tks_session.specs.Draining.{DrainsSo}
use Rattle.tks_session.specs.Sessions.{Made, seen_as, setting_of}
use Rattle.tks_session.proofs.Surface.{drains_so}
use Rattle.tks_session.proofs.session.Session.drain.Goals as goal

pub returns-clause-drained : goal.returns-clause-drained
returns-clause-drained g c =
    let s = c.self.inside.durable in
    let new = c.drain.new.self in
    let made : Made = record { names = s.machine.apps; limits = s.machine.limits; grid = s.machine.grid } in
    let made_then : Made = record { names = new.machine.apps; limits = new.machine.limits; grid = new.machine.grid } in
    subst (λ t. DrainsSo (λ p reply q. (r : _) × (r.now ≡ reply) × goal.F-step g p r tt q) (setting_of g.T.AppMeaning.meaning t.machine) t (seen_as made_then new) c.args.tell.now c.drain.new.tell c.args.turns c.drain.result.turns c.drain.result.ended) c.self.view_is
    (drains_so (λ t. record { names = t.apps; limits = t.limits; grid = t.grid }) (setting_of g.T.AppMeaning.meaning made) _ _ (λ p reply q is. (is.0, is.1, record { met = is.2.met }))
    s new _ _ c.args.turns _ _ c.drain.ensures.drained)
