use Rattle.std.proofs.Common.{ap}
use Rattle.tks_session.specs.Sessions.{setting_of}
use Rattle.tks_desk.proofs.Parts.{checkpoint_part, committed_written}
use Rattle.tks_desk.proofs.Talks.{checkpoint_answered, checkpoint_refused}
use Rattle.tks_desk.proofs.running.answer_checkpoint.Goals as goal

pub returns-in-Ok : goal.returns-in-Ok
returns-in-Ok g c =
    let old = c.args.session.now in
    let new = c.checkpoint.new.self in
    let ok = c.in-Ok.ensures.ok in
    committed_written g.T.AppMeaning.meaning g.D.Disk.honest g.D.Disk.view g.D.Disk.failures old new (ap (λ s. s.machine) ok.2) c.checkpoint.ensures.honesty c.checkpoint.ensures.any_moment
    (ap (λ s. s.world) ok.2) (ap (λ s. s.waiting) ok.2) (record { as_before = ap (λ s. s.journal.failed) ok.2; steady = c.in-Ok.ensures.steady })
    c.stands.ensures.world c.in-Ok.ensures.acknowledged g.met.D.Disk.reads_may_stay c.put_count.result _ _ _ _ c.put_count.ensures
    (checkpoint_answered (setting_of g.T.AppMeaning.meaning old.machine) old new _ _ c.put_count.result c.in-Ok.count ok.1 ok.2 c.in-Ok.ensures.fits c.put_count.ensures)

pub returns-in-Err : goal.returns-in-Err
returns-in-Err g c =
    let old = c.args.session.now in
    let new = c.checkpoint.new.self in
    checkpoint_part g.T.AppMeaning.meaning g.D.Disk.honest g.D.Disk.view g.D.Disk.failures old new c.checkpoint.ensures.honesty c.checkpoint.ensures.any_moment c.stands.ensures.images g.met.D.Disk.only_now
    c.answer_fault.result _ _ _
    (checkpoint_refused (setting_of g.T.AppMeaning.meaning old.machine) old new _ _ c.in-Err.fault c.answer_fault.result _ _ c.in-Err.ensures.err c.answer_fault.ensures)
    c.in-Err.fault c.in-Err.ensures.err c.answer_fault.ensures
