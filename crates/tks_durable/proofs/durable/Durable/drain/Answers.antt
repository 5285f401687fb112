use Rattle.std.proofs.Common.{sym, subst}
use Rattle.tks_journal.specs.Moments.{LeavesOnly}
use Rattle.tks_durable.specs.Crash.{OpensToPrefix}
use Rattle.tks_durable.specs.Opening.{opens}
use Rattle.tks_durable.proofs.Drains.{turns_keep}
use Rattle.tks_durable.proofs.durable.Durable.drain.Goals as goal

pub returns-clause-any_moment : goal.returns-clause-any_moment
returns-clause-any_moment g c = λ works h.
    let old = c.args.self.now in
    let m = g.M.Machine.meaning old.machine in
    let v = g.D.Disk.view old.journal.disk in
    let same = turns_keep m old c.run_turns.new.self c.run_turns.ensures.replies c.run_turns.ensures.leads in
    subst (λ j. LeavesOnly v (g.D.Disk.view j.disk) (OpensToPrefix m (opens m v.reads) old.waiting)) (sym same) (c.stands.ensures.moments works h)
