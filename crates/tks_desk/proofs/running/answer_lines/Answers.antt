use Rattle.std.proofs.Common.{[], None, Some, Ok, Err, refl, sym, append-nil}
use Rattle.std.proofs.lemmas.Result.{err_from_is_err_and}
use Rattle.tks_session.specs.Sessions.{setting_of}
use Rattle.tks_desk.specs.Reading.{unread}
use Rattle.tks_desk.specs.Answers.{standing}
use Rattle.tks_desk.proofs.Lines.{pays_none, pays_on, reads_at_most}
use Rattle.tks_desk.proofs.Parts.{err_again, ok_again, ok_idle}
use Rattle.tks_desk.proofs.Talks.{so_far_known}
use Rattle.tks_desk.proofs.Turns.{line_then}
use Rattle.tks_desk.proofs.running.answer_lines.Goals as goal

pub lines-init : goal.lines-init
lines-init g c =
    let s = c.args.session.now in (
      ok_idle g.T.AppMeaning.meaning g.D.Disk.honest g.D.Disk.view g.D.Disk.failures s s [] refl refl (sym (append-nil s.waiting)) c.stands.ensures.images g.met.D.Disk.only_now
          _ (so_far_known (setting_of g.T.AppMeaning.meaning s.machine) (g.R.Read.remaining c.args.reader.now) (standing s) (g.W.Write.contents c.args.writer.now)) tt,
      pays_none _ _,
    )

pub lines-preserved : goal.lines-preserved
lines-preserved g c = (
  ok_again g.T.AppMeaning.meaning g.D.Disk.honest g.D.Disk.view g.D.Disk.failures c.args.session.now c.answer_line.new.session _ _ (λ accepted told. told) None tt
      (line_then g.T.AppMeaning.meaning g.D.Disk.honest g.D.Disk.view g.D.Disk.failures (g.R.Read.remaining c.args.reader.now) (unread c.lines.intake.skips_newline (g.R.Read.remaining c.lines.reader)) (unread c.answer_line.new.intake.skips_newline (g.R.Read.remaining c.answer_line.new.reader))
      c.args.session.now c.lines.session c.answer_line.new.session (g.W.Write.contents c.args.writer.now) (g.W.Write.contents c.lines.writer) (g.W.Write.contents c.answer_line.new.writer)
      c.lines.invariant.0 (Ok None) (rw c.in_default.is at c.in_ok-end.ensures.turn)),
  pays_on _ _ _ _ _ _ c.lines.invariant.1 c.in_ok-end.ensures.pays,
)

pub returns-in_err-end-clause-runs : goal.returns-in_err-end-clause-runs
returns-in_err-end-clause-runs g c =
    let p = err_from_is_err_and c.from_residual.result c.from_residual.ensures.1 in
    let why = c.in_err-end.field-0.0 in
    rw (p.1, p.2) (err_again g.T.AppMeaning.meaning g.D.Disk.honest g.D.Disk.view g.D.Disk.failures c.args.session.now c.answer_line.new.session _ _ (λ accepted told. told) why
    (line_then g.T.AppMeaning.meaning g.D.Disk.honest g.D.Disk.view g.D.Disk.failures (g.R.Read.remaining c.args.reader.now) (unread c.lines.intake.skips_newline (g.R.Read.remaining c.lines.reader)) (unread c.answer_line.new.intake.skips_newline (g.R.Read.remaining c.answer_line.new.reader))
    c.args.session.now c.lines.session c.answer_line.new.session (g.W.Write.contents c.args.writer.now) (g.W.Write.contents c.lines.writer) (g.W.Write.contents c.answer_line.new.writer)
    c.lines.invariant.0 (Err why) c.in_err-end.ensures.turn))

pub returns-in-Some-clause-runs : goal.returns-in-Some-clause-runs
returns-in-Some-clause-runs g c =
    ok_again g.T.AppMeaning.meaning g.D.Disk.honest g.D.Disk.view g.D.Disk.failures c.args.session.now c.answer_line.new.session _ _ (λ accepted told. told) (Some c.in-Some.end) c.in-Some.end
    (line_then g.T.AppMeaning.meaning g.D.Disk.honest g.D.Disk.view g.D.Disk.failures (g.R.Read.remaining c.args.reader.now) (unread c.lines.intake.skips_newline (g.R.Read.remaining c.lines.reader)) (unread c.answer_line.new.intake.skips_newline (g.R.Read.remaining c.answer_line.new.reader))
    c.args.session.now c.lines.session c.answer_line.new.session (g.W.Write.contents c.args.writer.now) (g.W.Write.contents c.lines.writer) (g.W.Write.contents c.answer_line.new.writer)
    c.lines.invariant.0 (Ok (Some c.in-Some.end)) (rw c.in-Some.is at c.in_ok-end.ensures.turn))

pub returns-in_err-end-clause-bound : goal.returns-in_err-end-clause-bound
returns-in_err-end-clause-bound g c = reads_at_most _ _ _ _ (pays_on _ _ _ _ _ _ c.lines.invariant.1 c.in_err-end.ensures.pays)

pub returns-in-Some-clause-bound : goal.returns-in-Some-clause-bound
returns-in-Some-clause-bound g c = reads_at_most _ _ _ _ (pays_on _ _ _ _ _ _ c.lines.invariant.1 c.in_ok-end.ensures.pays)
