use Rattle.std.proofs.Common.{◌≡◌, false, sym, subst}
use Rattle.tks_journal.specs.Moments.{LeavesOnly}
use Rattle.tks_durable.specs.Crash.{OpensToPrefix}
use Rattle.tks_durable.specs.Durable.{or_none}
use Rattle.tks_durable.specs.Inputs.{inputs_in}
use Rattle.tks_durable.specs.Opening.{opens}
use Rattle.tks_durable.proofs.Crashes.{idle_moments}
use Rattle.tks_durable.proofs.durable.Durable.close.Goals as goal

pub returns-clause-any_moment : goal.returns-clause-any_moment
returns-clause-any_moment g c =
    let s = c.self.inside in
    let m = g.M.Machine.meaning s.machine in
    let v = g.D.Disk.view s.journal.disk in
    subst (λ t. t.journal.failed ≡ false → g.D.Disk.honest t.journal.disk → LeavesOnly (g.D.Disk.view t.journal.disk) (g.D.Disk.view c.into_disk.result) (OpensToPrefix (g.M.Machine.meaning t.machine) (opens (g.M.Machine.meaning t.machine) (g.D.Disk.view t.journal.disk).reads) t.waiting)) c.self.view_is
    (λ works h. subst (λ d. LeavesOnly v (g.D.Disk.view d) (OpensToPrefix m (opens m v.reads) (or_none (inputs_in s.body.items)))) (sym c.into_disk.ensures)
    (idle_moments m v (c.stands.ensures works h).0 (λ i left. g.met.D.Disk.only_now s.journal.disk i h left) (or_none (inputs_in s.body.items))))
