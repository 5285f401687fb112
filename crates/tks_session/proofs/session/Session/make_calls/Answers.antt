use Rattle.std.proofs.Common.{◌≡◌, false, ap, subst, sym}
use Rattle.tks_session.specs.Crash.{Makes}
use Rattle.tks_session.specs.Sessions.{Made, seen_as, setting_of, terminal_in}
use Rattle.tks_session.proofs.AnyCalls.{makes_seen}
use Rattle.tks_session.proofs.session.Session.make_calls.Goals as goal

pub returns-clause-makes : goal.returns-clause-makes
returns-clause-makes g c =
    let s = c.self.inside.durable in
    let new = c.make_calls.new.durable in
    let made : Made = record { names = s.machine.apps; limits = s.machine.limits; grid = s.machine.grid } in
    let made_then : Made = record { names = new.machine.apps; limits = new.machine.limits; grid = new.machine.grid } in
    let setting = setting_of g.T.AppMeaning.meaning made in
    let same : made ≡ made_then = ap (λ t. record { names = t.apps; limits = t.limits; grid = t.grid }) (sym c.make_calls.ensures.machine) in
    subst (λ t. t.journal.failed ≡ false → g.D.Disk.honest t.journal.disk → Makes (setting_of g.T.AppMeaning.meaning t.machine) g.D.Disk.failures g.D.Disk.view c.args.calls.now t (seen_as made_then new) c.make_calls.result)
    c.self.view_is
    (λ works h.
    subst (λ x. Makes setting g.D.Disk.failures g.D.Disk.view c.args.calls.now (seen_as made s) (seen_as x new) c.make_calls.result) same
    (makes_seen (terminal_in setting) g.D.Disk.failures made g.D.Disk.view c.args.calls.now s new c.make_calls.result (c.make_calls.ensures.makes works h)))
