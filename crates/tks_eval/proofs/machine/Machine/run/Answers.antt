use Rattle.std.proofs.Common.{rules, ◌≡◌, ◌++◌, ap, ◌∙◌}
use Rattle.tks_eval.specs.declared.frame.Came.TheVariants as came
use Rattle.tks_eval.proofs.Running.{frame_falls, open_falls, told_goes, told_stops, frame_goes, open_goes}
use Rattle.tks_eval.proofs.machine.Machine.run.Goals.{in-Ended+in-Some, in-Waits+in_ok-put_on-in-Waits}
use Rattle.tks_eval.proofs.machine.Machine.run.Goals as goal

pub returns-in_err-reached-clause-ends : goal.returns-in_err-reached-clause-ends
returns-in_err-reached-clause-ends g c whole h =
    let why = c.in_err-reached.field-0.0 in
    let stops = told_stops g.H.Host.meaning (g.H.Host.state c.turns.host) whole c.turns.stack c.turns.came why c.turns.self c.in_err-reached.ensures (c.turns.invariant.goes whole h) in
    search rules

pub steps-preserved : goal.steps-preserved
steps-preserved g c =
    let host = g.H.Host.meaning in
    let at = c.turns.self in
    let inv = c.turns.invariant in
    let state = g.H.Host.state c.turns.host in
    let told = c.in_ok-reached.ensures in
    elim c.match-reached.branch [
      | in-Ended+in-Some w ↦ rw (w.self-is, w.host-is, w.stack-is, w.came-is) (record {
        place = w.resume.ensures.same_place ∙ inv.place;
        goes = (λ whole h. frame_goes host w.next.new.self w.resume.new.self (g.H.Host.state w.resume.new.host) whole at state w.in-Ended.end c.turns.stack w.in-Some.frame w.resume.result
            w.resume.ensures.same_limits w.in-Some.ensures (told_goes host state whole c.turns.stack c.turns.came (came.Ended w.in-Ended.end) at (rw w.in-Ended.is at told) (inv.goes whole h)) w.resume.ensures.comes);
      })
      | in-Waits+in_ok-put_on-in-Waits w ↦ rw (w.self-is, w.host-is, w.stack-is, w.came-is) (record {
        place = w.open.ensures.same_place ∙ inv.place;
        goes = (λ whole h. open_goes host w.put_on.new.stack w.open.new.self (g.H.Host.state w.open.new.host) whole at state w.in-Waits.waiting w.into_inner-opens.result.opens c.turns.stack w.open.result
            w.open.ensures.same_limits (ap (λ x. x.opens) w.into_inner-opens.ensures) (w.in_ok-put_on-in-Waits.ensures ∙ ap (λ x. x.frames.items ++ c.turns.stack) w.into_inner-opens.ensures)
            (told_goes host state whole c.turns.stack c.turns.came (came.Waits w.in-Waits.waiting) at (rw w.in-Waits.is at told) (inv.goes whole h)) w.open.ensures.comes);
      })
    ]

pub turns-smaller : goal.turns-smaller
turns-smaller g c =
    let at = c.turns.self in
    let told = c.in_ok-reached.ensures in
    let same : c.match-reached.self.fuel ≡ at.fuel = search rules in
    elim c.match-reached.branch [
      | in-Ended+in-Some w ↦ rw (w.stack-is, w.came-is) (frame_falls at.limits c.turns.came w.in-Ended.end c.turns.stack w.next.new.self w.in-Some.frame w.resume.result at.fuel w.resume.new.self.fuel
          (rw w.in-Ended.is at told) w.in-Some.ensures w.resume.ensures.falls (rw w.self-is at same))
      | in-Waits+in_ok-put_on-in-Waits w ↦ rw (w.stack-is, w.came-is) (open_falls at.limits c.turns.came w.in-Waits.waiting c.turns.stack w.put_on.new.stack w.into_inner-opens.result.opens w.open.result at.fuel w.open.new.self.fuel
          (rw w.in-Waits.is at told) (ap (λ x. x.opens) w.into_inner-opens.ensures) (w.in_ok-put_on-in-Waits.ensures ∙ ap (λ x. x.frames.items ++ c.turns.stack) w.into_inner-opens.ensures) w.open.ensures.falls (rw w.self-is at same))
    ]

pub turns-preserved : goal.turns-preserved
turns-preserved g c =
    let host = g.H.Host.meaning in
    let at = c.turns.self in
    let inv = c.turns.invariant in
    let state = g.H.Host.state c.turns.host in
    let told = c.in_ok-reached.ensures in
    let same = c.if-self-before.false in
    elim c.match-reached.branch [
      | in-Ended+in-Some w ↦ rw (w.host-is, w.stack-is, w.came-is, w.self-is) (record {
        before = rw w.self-is at same;
        place = w.resume.ensures.same_place ∙ inv.place;
        goes = (λ whole h. frame_goes host w.next.new.self w.resume.new.self (g.H.Host.state w.resume.new.host) whole at state w.in-Ended.end c.turns.stack w.in-Some.frame w.resume.result
            w.resume.ensures.same_limits w.in-Some.ensures (told_goes host state whole c.turns.stack c.turns.came (came.Ended w.in-Ended.end) at (rw w.in-Ended.is at told) (inv.goes whole h)) w.resume.ensures.comes);
      })
      | in-Waits+in_ok-put_on-in-Waits w ↦ rw (w.host-is, w.stack-is, w.came-is, w.self-is) (record {
        before = rw w.self-is at same;
        place = w.open.ensures.same_place ∙ inv.place;
        goes = (λ whole h. open_goes host w.put_on.new.stack w.open.new.self (g.H.Host.state w.open.new.host) whole at state w.in-Waits.waiting w.into_inner-opens.result.opens c.turns.stack w.open.result
            w.open.ensures.same_limits (ap (λ x. x.opens) w.into_inner-opens.ensures) (w.in_ok-put_on-in-Waits.ensures ∙ ap (λ x. x.frames.items ++ c.turns.stack) w.into_inner-opens.ensures)
            (told_goes host state whole c.turns.stack c.turns.came (came.Waits w.in-Waits.waiting) at (rw w.in-Waits.is at told) (inv.goes whole h)) w.open.ensures.comes);
      })
    ]
