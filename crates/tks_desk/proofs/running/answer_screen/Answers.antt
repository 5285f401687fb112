use Rattle.tks_session.specs.Sessions.{setting_of}
use Rattle.tks_desk.proofs.Talks.{screen_shown, screen_not_shown}
use Rattle.tks_desk.specs.Answers.{standing}
use Rattle.tks_desk.proofs.running.answer_screen.Goals as goal

pub returns-in-Ok : goal.returns-in-Ok
returns-in-Ok g c =
    screen_shown (setting_of g.T.AppMeaning.meaning c.args.session.now.machine) c.put_screen.result (standing c.args.session.now) _ _ (rw (c.in-Ok.ensures, c.world.ensures) at c.put_screen.ensures)

pub returns-in-Err : goal.returns-in-Err
returns-in-Err g c = screen_not_shown (setting_of g.T.AppMeaning.meaning c.args.session.now.machine) c.put_last.result (standing c.args.session.now) _ _ c.put_last.ensures
