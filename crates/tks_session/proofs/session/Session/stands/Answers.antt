use Rattle.std.proofs.Common.{◌≡◌, false, subst}
use Rattle.tks_session.specs.Crash.{LeadsOn, OpensToCount}
use Rattle.tks_session.specs.Sessions.{Made, setting_of}
use Rattle.tks_session.proofs.Surface.{stands_on}
use Rattle.tks_session.proofs.session.Session.stands.Goals as goal

pub returns-clause-leads : goal.returns-clause-leads
returns-clause-leads g c =
    let s = c.self.inside.durable in
    let made : Made = record { names = s.machine.apps; limits = s.machine.limits; grid = s.machine.grid } in
    subst (λ t. t.journal.failed ≡ false → g.D.Disk.honest t.journal.disk → LeadsOn (setting_of g.T.AppMeaning.meaning t.machine) (g.D.Disk.view t.journal.disk).reads t.waiting t.world) c.self.view_is
    (λ works h. stands_on (setting_of g.T.AppMeaning.meaning made) (g.D.Disk.view s.journal.disk).reads s.waiting s.world (c.stands.ensures.world works h))

pub returns-clause-acknowledged : goal.returns-clause-acknowledged
returns-clause-acknowledged g c =
    subst (λ t. t.journal.failed ≡ false → g.D.Disk.honest t.journal.disk → OpensToCount (setting_of g.T.AppMeaning.meaning t.machine) (g.D.Disk.view t.journal.disk).reads t.acknowledged) c.self.view_is c.stands.ensures.acknowledged
