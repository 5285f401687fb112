use Rattle.std.proofs.Common.{◌≡◌, List, ℕ, sym, ◌∙◌, ap}
use Rattle.tks_journal.specs.Loading.{behind}
use Rattle.tks_journal.specs.Sides.{frames, kept}
use Rattle.tks_durable.specs.Opening.{opened}
use Rattle.tks_durable.proofs.Opens.{own_fault}
use Rattle.tks_durable.proofs.open.restore.Goals as goal

pub returns-in-Ok-Err-clause-fault : goal.returns-in-Ok-Err-clause-fault
returns-in-Ok-Err-clause-fault g c =
    let m = g.M.Machine.meaning c.args.machine in
    let left = c.in-Ok.read.2 in
    let is = c.in-Ok-Err.field-0-is in
    let same : g.D.Disk.failures c.into_disk.result ≡ g.D.Disk.failures c.args.stored.disk = ap g.D.Disk.failures c.into_disk.ensures ∙ c.in-Ok-Err.ensures.tells ∙ c.in-Ok.ensures.tells in
    own_fault m _ _ _ _ c.in-Ok-Err.fault (rw is at c.in-Ok-Err.ensures.bytes) same
    (λ h. ap (opened m) (c.in-Ok.ensures.read h)
    ∙ ap (λ (l : List ℕ). opened m (kept left.live left.format c.in-Ok.read.0 l (frames (behind left.live left.at (g.D.Disk.view left.disk).reads)))) (sym c.deref.ensures.value)
    ∙ c.in-Ok-Err.ensures.ran (c.in-Ok.ensures.honesty.0 h) left.live
    ∙ is)
