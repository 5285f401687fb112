use Rattle.std.proofs.Common.{◌^◌, IfSome}
use Rattle.tks_session.specs.Sessions.{setting_of}
use Rattle.tks_desk.specs.Reading.{Pays, unread}
use Rattle.tks_desk.specs.Answers.{SoFar, standing}
use Rattle.tks_desk.specs.Running.{Runs}
use Rattle.tks_desk.proofs.Parts.{done_as}
use Rattle.tks_desk.proofs.running.answer_lines.Given as goal

abbrev pub invariant-lines : goal.invariant-lines
invariant-lines g l =
    Runs g.T.AppMeaning.meaning g.D.Disk.honest g.D.Disk.view g.D.Disk.failures (done_as (Unit {0}) tt) l.fn.session l.session
    (λ accepted. IfSome (g.R.Read.remaining l.fn.reader)
    (λ input. SoFar (setting_of g.T.AppMeaning.meaning l.fn.session.machine) input (unread l.intake.skips_newline (g.R.Read.remaining l.reader)) accepted (standing l.fn.session) (standing l.session) (g.W.Write.contents l.fn.writer) (g.W.Write.contents l.writer)))
    × Pays (g.R.Read.remaining l.fn.reader) (g.R.Read.remaining l.reader) (2 ^ 40) l.intake.left

abbrev pub decreases-lines : goal.decreases-lines
decreases-lines g l = l.intake.left
