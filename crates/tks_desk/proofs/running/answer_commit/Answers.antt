use Rattle.std.proofs.Common.{ap, refl}
use Rattle.tks_session.specs.Sessions.{setting_of}
use Rattle.tks_desk.proofs.Parts.{commit_failed, committed_written, same_machine}
use Rattle.tks_desk.proofs.Talks.{commit_answered, commit_unanswered}
use Rattle.tks_desk.proofs.running.answer_commit.Goals as goal

pub returns-in-Ok : goal.returns-in-Ok
returns-in-Ok g c =
    let old = c.args.session.now in
    let new = c.commit.new.self in
    let ok = c.in-Ok.ensures.ok in
    committed_written g.T.AppMeaning.meaning g.D.Disk.honest g.D.Disk.view g.D.Disk.failures old new (ap (λ s. s.machine) ok.2) c.commit.ensures.honesty c.commit.ensures.any_moment
    (ap (λ s. s.world) ok.2) (ap (λ s. s.waiting) ok.2) (record { as_before = ap (λ s. s.journal.failed) ok.2; steady = c.in-Ok.ensures.steady })
    c.stands.ensures.world c.in-Ok.ensures.acknowledged g.met.D.Disk.reads_may_stay c.put_count.result _ _ _ _ c.put_count.ensures
    (commit_answered (setting_of g.T.AppMeaning.meaning old.machine) old new _ _ c.put_count.result c.in-Ok.count ok.1 ok.2 c.put_count.ensures)

pub returns-in-Err : goal.returns-in-Err
returns-in-Err g c =
    let old = c.args.session.now in
    let new = c.commit.new.self in
    commit_failed g.T.AppMeaning.meaning g.D.Disk.honest g.D.Disk.view g.D.Disk.failures old new (same_machine g.T.AppMeaning.meaning g.D.Disk.honest g.D.Disk.view g.D.Disk.failures old new _ _ c.in-Err.fault c.in-Err.ensures.err)
    c.commit.ensures.honesty c.commit.ensures.any_moment c.in-Err.fault _ c.in-Err.ensures.err
    (commit_unanswered (setting_of g.T.AppMeaning.meaning old.machine) old new _ _ c.in-Err.fault _ _ c.in-Err.ensures.err refl) c.stands.ensures.images g.met.D.Disk.only_now
