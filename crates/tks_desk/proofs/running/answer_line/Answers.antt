use Rattle.std.proofs.Common.{[], None, Some, refl, sym, append-nil}
use Rattle.std.proofs.lemmas.Result.{err_from_is_err_and}
use Rattle.tks_session.specs.Sessions.{setting_of}
use Rattle.tks_desk.specs.Reading.{unread}
use Rattle.tks_desk.specs.Requests.{ReadsRequest}
use Rattle.tks_desk.specs.Answers.{standing}
use Rattle.tks_desk.specs.declared.ending.RunEnd.TheVariants as end
use Rattle.tks_desk.proofs.Parts.{err_again, ok_again, ok_idle, read_idle}
use Rattle.tks_desk.proofs.Talks.{always, where_known, not_read, nothing_left, turned_so, cut_so}
use Rattle.tks_desk.proofs.running.answer_line.Goals as goal

pub returns-in_err-request-clause-turn : goal.returns-in_err-request-clause-turn
returns-in_err-request-clause-turn g c =
    let s = c.args.session.now in
    let o = unread c.args.intake.now.skips_newline (g.R.Read.remaining c.args.reader.now) in
    let left = unread c.next_request.new.intake.skips_newline (g.R.Read.remaining c.next_request.new.reader) in
    let why = c.in_err-request.field-0.0 in
    let p = err_from_is_err_and c.from_residual.result c.from_residual.ensures.1 in
    rw (p.1, p.2) (read_idle g.T.AppMeaning.meaning g.D.Disk.honest g.D.Disk.view g.D.Disk.failures s s [] refl refl (sym (append-nil s.waiting)) c.stands.ensures.images g.met.D.Disk.only_now
    _ (always o _ (λ input. not_read (setting_of g.T.AppMeaning.meaning s.machine) input left (standing s) _ why c.in_err-request.ensures.fault)) why c.in_err-request.ensures.fault)

pub returns-in_default-clause-turn : goal.returns-in_default-clause-turn
returns-in_default-clause-turn g c =
    let s = c.args.session.now in
    let o = unread c.args.intake.now.skips_newline (g.R.Read.remaining c.args.reader.now) in
    let left = unread c.next_request.new.intake.skips_newline (g.R.Read.remaining c.next_request.new.reader) in
    ok_idle g.T.AppMeaning.meaning g.D.Disk.honest g.D.Disk.view g.D.Disk.failures s s [] refl refl (sym (append-nil s.waiting)) c.stands.ensures.images g.met.D.Disk.only_now
    _ (where_known o (λ input. ReadsRequest input None left) _ (λ input none. nothing_left (setting_of g.T.AppMeaning.meaning s.machine) input left (standing s) _ none) (rw c.in_default.is at c.in_ok-request.ensures.request)) (Some end.EndOfInput)

pub returns-in_err-answer-clause-turn : goal.returns-in_err-answer-clause-turn
returns-in_err-answer-clause-turn g c =
    let s = c.args.session.now in
    let new = c.answer.new.session in
    let o = unread c.args.intake.now.skips_newline (g.R.Read.remaining c.args.reader.now) in
    let left = unread c.next_request.new.intake.skips_newline (g.R.Read.remaining c.next_request.new.reader) in
    let why = c.in_err-answer.field-0.0 in
    let request = c.in-Some.request in
    let reads = rw c.in-Some.is at c.in_ok-request.ensures.request in
    let p = err_from_is_err_and c.from_residual-in_err-answer.result c.from_residual-in_err-answer.ensures.1 in
    rw (p.1, p.2) (err_again g.T.AppMeaning.meaning g.D.Disk.honest g.D.Disk.view g.D.Disk.failures s new _ _
    (λ accepted told. where_known o (λ input. ReadsRequest input (Some request) left) _ (λ input h. cut_so (setting_of g.T.AppMeaning.meaning s.machine) input left (standing s) _ (standing new) _ accepted request why h told) reads) why c.in_err-answer.ensures)

pub returns-clause-turn : goal.returns-clause-turn
returns-clause-turn g c =
    let s = c.args.session.now in
    let new = c.answer.new.session in
    let o = unread c.args.intake.now.skips_newline (g.R.Read.remaining c.args.reader.now) in
    let left = unread c.next_request.new.intake.skips_newline (g.R.Read.remaining c.next_request.new.reader) in
    let request = c.in-Some.request in
    let reads = rw c.in-Some.is at c.in_ok-request.ensures.request in
    rw c.end_by.ensures (ok_again g.T.AppMeaning.meaning g.D.Disk.honest g.D.Disk.view g.D.Disk.failures s new _ _
    (λ accepted told. where_known o (λ input. ReadsRequest input (Some request) left) _ (λ input h. turned_so (setting_of g.T.AppMeaning.meaning s.machine) input left (standing s) _ (standing new) _ accepted request h told) reads) tt _ c.in_ok-answer.ensures)
