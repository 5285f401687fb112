use Rattle.std.proofs.Common.{[], refl, sym, append-nil}
use Rattle.tks_session.specs.Sessions.{setting_of}
use Rattle.tks_desk.specs.Answers.{standing}
use Rattle.tks_desk.specs.declared.request.Request.TheVariants.{Screen}
use Rattle.tks_desk.proofs.Parts.{written}
use Rattle.tks_desk.proofs.Talks.{answers_so, bad_answered, faults_answered, quit_answered, unfit_answered}
use Rattle.tks_desk.proofs.running.answer.Goals as goal

pub returns-in-Quit : goal.returns-in-Quit
returns-in-Quit g c =
    let s = c.args.session.now in
    rw c.in-Quit.is
    (written g.T.AppMeaning.meaning g.D.Disk.honest g.D.Disk.view g.D.Disk.failures s s [] refl refl (sym (append-nil s.waiting)) c.stands.ensures.images g.met.D.Disk.only_now
    c.put_last.result _ _ _ _ c.put_last.ensures (quit_answered (setting_of g.T.AppMeaning.meaning s.machine) c.put_last.result (standing s) _ _ c.put_last.ensures))

pub returns-in-Bad : goal.returns-in-Bad
returns-in-Bad g c =
    let s = c.args.session.now in
    rw c.in-Bad.is
    (written g.T.AppMeaning.meaning g.D.Disk.honest g.D.Disk.view g.D.Disk.failures s s [] refl refl (sym (append-nil s.waiting)) c.stands.ensures.images g.met.D.Disk.only_now
    c.put_last-in-Bad.result _ _ _ _ c.put_last-in-Bad.ensures (bad_answered (setting_of g.T.AppMeaning.meaning s.machine) c.put_last-in-Bad.result (standing s) _ _ c.put_last-in-Bad.ensures))

pub returns-in-Unfit : goal.returns-in-Unfit
returns-in-Unfit g c =
    let s = c.args.session.now in
    rw c.in-Unfit.is
    (written g.T.AppMeaning.meaning g.D.Disk.honest g.D.Disk.view g.D.Disk.failures s s [] refl refl (sym (append-nil s.waiting)) c.stands.ensures.images g.met.D.Disk.only_now
    c.put_refusal.result _ _ _ _ c.put_refusal.ensures (unfit_answered (setting_of g.T.AppMeaning.meaning s.machine) c.put_refusal.result (standing s) _ _ c.put_refusal.ensures))

pub returns-in-Screen : goal.returns-in-Screen
returns-in-Screen g c =
    let s = c.args.session.now in
    let writes = rw c.prepare.ensures.stays at c.answer_screen.ensures in
    rw (c.in-Screen.is, c.prepare.ensures.stays)
    (written g.T.AppMeaning.meaning g.D.Disk.honest g.D.Disk.view g.D.Disk.failures s s [] refl refl (sym (append-nil s.waiting)) c.stands.ensures.images g.met.D.Disk.only_now
    c.answer_screen.result _ _ _ _ writes.writes (answers_so (setting_of g.T.AppMeaning.meaning s.machine) c.answer_screen.result Screen [] (standing s) (standing s) _ _ writes))

pub returns-in-Faults : goal.returns-in-Faults
returns-in-Faults g c =
    let s = c.args.session.now in
    let writes = rw (c.faults.ensures, c.world.ensures) at c.put_faults.ensures in
    rw c.in-Faults.is
    (written g.T.AppMeaning.meaning g.D.Disk.honest g.D.Disk.view g.D.Disk.failures s s [] refl refl (sym (append-nil s.waiting)) c.stands.ensures.images g.met.D.Disk.only_now
    c.put_faults.result _ _ _ _ writes (faults_answered (setting_of g.T.AppMeaning.meaning s.machine) c.put_faults.result (standing s) _ _ writes))
