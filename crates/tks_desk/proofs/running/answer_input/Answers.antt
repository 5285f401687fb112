use Rattle.std.proofs.Common.{[], ◌∷◌, ap}
use Rattle.tks_session.specs.Sessions.{setting_of}
use Rattle.tks_desk.proofs.Parts.{refused_part, written}
use Rattle.tks_desk.proofs.Talks.{input_accepted, input_refused}
use Rattle.tks_desk.proofs.running.answer_input.Goals as goal

pub returns-in-Ok : goal.returns-in-Ok
returns-in-Ok g c =
    let old = c.args.session.now in
    let new = c.post.new.self in
    let input = c.args.input.now in
    let so = c.in-Ok.ensures.ok.2 in
    written g.T.AppMeaning.meaning g.D.Disk.honest g.D.Disk.view g.D.Disk.failures old new (input ∷ []) (ap (λ s. s.journal) so) (ap (λ s. s.machine) so) (ap (λ s. s.waiting) so)
    c.stands.ensures.images g.met.D.Disk.only_now c.put_reply.result _ _ _ _ c.put_reply.ensures
    (input_accepted (setting_of g.T.AppMeaning.meaning old.machine) old new input c.put_reply.result _ _ c.in-Ok.reply c.in-Ok.ensures.accepted c.in-Ok.ensures.ok.1 so c.put_reply.ensures)

pub returns-in-Err : goal.returns-in-Err
returns-in-Err g c =
    let old = c.args.session.now in
    let new = c.post.new.self in
    refused_part g.T.AppMeaning.meaning g.D.Disk.honest g.D.Disk.view g.D.Disk.failures old new c.args.input.now c.in-Err.ensures.unchanged c.stands.ensures.images g.met.D.Disk.only_now c.answer_refusal.result _ _ _
    (input_refused (setting_of g.T.AppMeaning.meaning old.machine) old new c.args.input.now c.answer_refusal.result _ _ c.in-Err.why c.in-Err.ensures.refused c.in-Err.ensures.unchanged c.answer_refusal.ensures)
    c.in-Err.why c.in-Err.ensures.refused c.answer_refusal.ensures
