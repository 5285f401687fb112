use Rattle.std.proofs.Common.{take}
use Rattle.tks_disk.specs.DiskModel.{Images, on, beside}
use Rattle.tks_journal.specs.Resting.{OneOf, begun_as}
use Rattle.tks_journal.specs.Sides.{holds}
use Rattle.tks_journal.specs.Staging.{Begins, AtGate, Closing}
use Rattle.tks_journal.proofs.Phases.{then, weaker}
use Rattle.tks_journal.proofs.Starts.{closing_holds, behind_holds, gate_holds, staged_long, opened_holds, opened_rests}
use Rattle.tks_journal.proofs.side.start_side.Goals as goal

pub stage_side-requires-clause-some : goal.stage_side-requires-clause-some
stage_side-requires-clause-some g c h1 = (c.in_ok-close_gate.ensures.closed (c.close_gate.ensures.honesty.1 h1)).some

pub stage_side-requires-clause-settled : goal.stage_side-requires-clause-settled
stage_side-requires-clause-settled g c h1 = (c.in_ok-close_gate.ensures.closed (c.close_gate.ensures.honesty.1 h1)).settled

pub open_gate-requires-clause-within : goal.open_gate-requires-clause-within
open_gate-requires-clause-within g c h2 =
    let h1 = c.stage_side.ensures.honesty.1 h2 in
    let h = c.close_gate.ensures.honesty.1 h1 in
    let v = g.D.Disk.view c.args.disk.now in
    let vacant = c.requires.vacant h in
    staged_long v c.args.side c.args.header.now c.args.head.now c.args.world.now c.requires.spelled.reads c.requires.given c.requires.measured vacant (g.D.Disk.view c.close_gate.new.disk) (c.in_ok-close_gate.ensures.closed h) (g.D.Disk.view c.stage_side.new.disk) (c.in_ok-stage_side.ensures.staged h1)

pub open_gate-requires-clause-settled : goal.open_gate-requires-clause-settled
open_gate-requires-clause-settled g c h2 = (c.in_ok-stage_side.ensures.staged (c.stage_side.ensures.honesty.1 h2)).settled

pub returns-in_err-close_gate-clause-any_moment : goal.returns-in_err-close_gate-clause-any_moment
returns-in_err-close_gate-clause-any_moment g c h =
    let v = g.D.Disk.view c.args.disk.now in
    let vacant = c.requires.vacant h in
    let side = c.args.side in
    let Aim : Images → Type 0 = OneOf (holds v.reads) (begun_as side c.args.header.now c.args.world.now) in
    let m = g.D.Disk.view c.close_gate.new.disk in
    let p1 = weaker v m (Closing side v.reads) Aim (closing_holds v c.args.side c.args.header.now c.args.head.now c.args.world.now c.requires.spelled.reads c.requires.given c.requires.measured vacant) (c.close_gate.ensures.any_moment h) in
    p1

pub returns-in_err-stage_side-clause-any_moment : goal.returns-in_err-stage_side-clause-any_moment
returns-in_err-stage_side-clause-any_moment g c h =
    let v = g.D.Disk.view c.args.disk.now in
    let vacant = c.requires.vacant h in
    let side = c.args.side in
    let Aim : Images → Type 0 = OneOf (holds v.reads) (begun_as side c.args.header.now c.args.world.now) in
    let m = g.D.Disk.view c.close_gate.new.disk in
    let p1 = weaker v m (Closing side v.reads) Aim (closing_holds v c.args.side c.args.header.now c.args.head.now c.args.world.now c.requires.spelled.reads c.requires.given c.requires.measured vacant) (c.close_gate.ensures.any_moment h) in
    let h1 = c.close_gate.ensures.honesty.0 h in
    let shut = c.in_ok-close_gate.ensures.closed h in
    let n = g.D.Disk.view c.stage_side.new.disk in
    let p2 = then v m n Aim p1 (weaker m n (Begins side (take 1 (on side m.reads)) (beside side m.reads)) Aim (behind_holds v c.args.side c.args.header.now c.args.head.now c.args.world.now c.requires.spelled.reads c.requires.given c.requires.measured vacant m shut) (c.stage_side.ensures.any_moment h1)) in
    p2

pub returns-in_err-open_gate-clause-any_moment : goal.returns-in_err-open_gate-clause-any_moment
returns-in_err-open_gate-clause-any_moment g c h =
    let v = g.D.Disk.view c.args.disk.now in
    let vacant = c.requires.vacant h in
    let side = c.args.side in
    let Aim : Images → Type 0 = OneOf (holds v.reads) (begun_as side c.args.header.now c.args.world.now) in
    let m = g.D.Disk.view c.close_gate.new.disk in
    let p1 = weaker v m (Closing side v.reads) Aim (closing_holds v c.args.side c.args.header.now c.args.head.now c.args.world.now c.requires.spelled.reads c.requires.given c.requires.measured vacant) (c.close_gate.ensures.any_moment h) in
    let h1 = c.close_gate.ensures.honesty.0 h in
    let shut = c.in_ok-close_gate.ensures.closed h in
    let n = g.D.Disk.view c.stage_side.new.disk in
    let p2 = then v m n Aim p1 (weaker m n (Begins side (take 1 (on side m.reads)) (beside side m.reads)) Aim (behind_holds v c.args.side c.args.header.now c.args.head.now c.args.world.now c.requires.spelled.reads c.requires.given c.requires.measured vacant m shut) (c.stage_side.ensures.any_moment h1)) in
    let h2 = c.stage_side.ensures.honesty.0 h1 in
    let staged = c.in_ok-stage_side.ensures.staged h1 in
    let f = g.D.Disk.view c.open_gate.new.disk in
    let p3 = then v n f Aim p2 (weaker n f (AtGate side 0 n.reads) Aim (gate_holds v c.args.side c.args.header.now c.args.head.now c.args.world.now c.requires.spelled.reads c.requires.given c.requires.measured vacant m shut n staged) (c.open_gate.ensures.any_moment h2)) in
    p3

pub returns-clause-any_moment : goal.returns-clause-any_moment
returns-clause-any_moment g c h =
    let v = g.D.Disk.view c.args.disk.now in
    let vacant = c.requires.vacant h in
    let side = c.args.side in
    let Aim : Images → Type 0 = OneOf (holds v.reads) (begun_as side c.args.header.now c.args.world.now) in
    let m = g.D.Disk.view c.close_gate.new.disk in
    let p1 = weaker v m (Closing side v.reads) Aim (closing_holds v c.args.side c.args.header.now c.args.head.now c.args.world.now c.requires.spelled.reads c.requires.given c.requires.measured vacant) (c.close_gate.ensures.any_moment h) in
    let h1 = c.close_gate.ensures.honesty.0 h in
    let shut = c.in_ok-close_gate.ensures.closed h in
    let n = g.D.Disk.view c.stage_side.new.disk in
    let p2 = then v m n Aim p1 (weaker m n (Begins side (take 1 (on side m.reads)) (beside side m.reads)) Aim (behind_holds v c.args.side c.args.header.now c.args.head.now c.args.world.now c.requires.spelled.reads c.requires.given c.requires.measured vacant m shut) (c.stage_side.ensures.any_moment h1)) in
    let h2 = c.stage_side.ensures.honesty.0 h1 in
    let staged = c.in_ok-stage_side.ensures.staged h1 in
    let f = g.D.Disk.view c.open_gate.new.disk in
    let p3 = then v n f Aim p2 (weaker n f (AtGate side 0 n.reads) Aim (gate_holds v c.args.side c.args.header.now c.args.head.now c.args.world.now c.requires.spelled.reads c.requires.given c.requires.measured vacant m shut n staged) (c.open_gate.ensures.any_moment h2)) in
    p3

pub returns-clause-at_rest : goal.returns-clause-at_rest
returns-clause-at_rest g c h =
    let v = g.D.Disk.view c.args.disk.now in
    let vacant = c.requires.vacant h in
    let h1 = c.close_gate.ensures.honesty.0 h in
    opened_rests v c.args.side c.args.header.now c.args.head.now c.args.world.now c.requires.spelled.reads c.requires.given c.requires.measured vacant (g.D.Disk.view c.close_gate.new.disk) (c.in_ok-close_gate.ensures.closed h) (g.D.Disk.view c.stage_side.new.disk) (c.in_ok-stage_side.ensures.staged h1)
    (g.D.Disk.view c.open_gate.new.disk) (c.in_ok-open_gate.ensures.opened (c.stage_side.ensures.honesty.0 h1))

pub returns-clause-holds : goal.returns-clause-holds
returns-clause-holds g c h =
    let v = g.D.Disk.view c.args.disk.now in
    let vacant = c.requires.vacant h in
    let h1 = c.close_gate.ensures.honesty.0 h in
    opened_holds v c.args.side c.args.header.now c.args.head.now c.args.world.now c.requires.spelled.reads c.requires.given c.requires.measured vacant (g.D.Disk.view c.close_gate.new.disk) (c.in_ok-close_gate.ensures.closed h) (g.D.Disk.view c.stage_side.new.disk) (c.in_ok-stage_side.ensures.staged h1)
    (g.D.Disk.view c.open_gate.new.disk) (c.in_ok-open_gate.ensures.opened (c.stage_side.ensures.honesty.0 h1))
