use Rattle.std.proofs.Common.{◌+◌, ◌++◌, ℕ, ◌∷◌, [], take, subst, arith, length-append}
use Rattle.tks_disk.specs.DiskModel.{on, beside}
use Rattle.tks_journal.specs.Resting.{AtRest, OneOf}
use Rattle.tks_journal.specs.Sides.{holds, with_frames}
use Rattle.tks_journal.specs.Staging.{Begins, AtGate}
use Rattle.tks_journal.proofs.Phases.{then, weaker}
use Rattle.tks_journal.proofs.Appends.{behind_holds, gate_holds, staged_long, opened_holds, opened_rests}
use Rattle.tks_journal.proofs.frame.append_frame.Goals as goal

pub open_gate-requires : goal.open_gate-requires
open_gate-requires g c =
    let v = g.D.Disk.view c.args.disk.now in
    let m = g.D.Disk.view c.stage_frame.new.disk in
    record {
      within = λ h1. let h = c.stage_frame.ensures.honesty.1 h1 in
          staged_long v c.args.live c.args.gate (c.requires.at_rest h) (c.args.lead.now ++ c.args.body.now) (omega (arith, c.requires.short, length-append c.args.lead.now c.args.body.now)) m (c.in_ok-stage_frame.ensures.staged h);
      settled = λ h1. (c.in_ok-stage_frame.ensures.staged (c.stage_frame.ensures.honesty.1 h1)).settled;
    }

pub returns-in_err-stage_frame-clause-any_moment : goal.returns-in_err-stage_frame-clause-any_moment
returns-in_err-stage_frame-clause-any_moment g c h =
    let v = g.D.Disk.view c.args.disk.now in
    weaker v (g.D.Disk.view c.stage_frame.new.disk) (Begins c.args.live (take (c.args.gate + 1) (on c.args.live v.reads)) (beside c.args.live v.reads)) (OneOf (holds v.reads) (with_frames ((c.args.lead.now ++ c.args.body.now) ∷ []) (holds v.reads)))
    (behind_holds v c.args.live c.args.gate (c.requires.at_rest h) (c.args.lead.now ++ c.args.body.now) (omega (arith, c.requires.short, length-append c.args.lead.now c.args.body.now))) (c.stage_frame.ensures.any_moment h)

pub returns-in_err-open_gate-clause-any_moment : goal.returns-in_err-open_gate-clause-any_moment
returns-in_err-open_gate-clause-any_moment g c h =
    let v = g.D.Disk.view c.args.disk.now in
    let m = g.D.Disk.view c.stage_frame.new.disk in
    let f = g.D.Disk.view c.open_gate.new.disk in
    let rest = c.requires.at_rest h in
    let h1 = c.stage_frame.ensures.honesty.0 h in
    let staged = c.in_ok-stage_frame.ensures.staged h in
    let first = weaker v m (Begins c.args.live (take (c.args.gate + 1) (on c.args.live v.reads)) (beside c.args.live v.reads)) (OneOf (holds v.reads) (with_frames ((c.args.lead.now ++ c.args.body.now) ∷ []) (holds v.reads)))
    (behind_holds v c.args.live c.args.gate rest (c.args.lead.now ++ c.args.body.now) (omega (arith, c.requires.short, length-append c.args.lead.now c.args.body.now))) (c.stage_frame.ensures.any_moment h) in
    then v m f (OneOf (holds v.reads) (with_frames ((c.args.lead.now ++ c.args.body.now) ∷ []) (holds v.reads))) first
    (weaker m f (AtGate c.args.live c.args.gate m.reads) (OneOf (holds v.reads) (with_frames ((c.args.lead.now ++ c.args.body.now) ∷ []) (holds v.reads))) (gate_holds v c.args.live c.args.gate rest (c.args.lead.now ++ c.args.body.now) (omega (arith, c.requires.short, length-append c.args.lead.now c.args.body.now)) m staged) (c.open_gate.ensures.any_moment h1))

pub returns-clause-any_moment : goal.returns-clause-any_moment
returns-clause-any_moment g c h =
    let v = g.D.Disk.view c.args.disk.now in
    let m = g.D.Disk.view c.stage_frame.new.disk in
    let f = g.D.Disk.view c.open_gate.new.disk in
    let rest = c.requires.at_rest h in
    let h1 = c.stage_frame.ensures.honesty.0 h in
    let staged = c.in_ok-stage_frame.ensures.staged h in
    let first = weaker v m (Begins c.args.live (take (c.args.gate + 1) (on c.args.live v.reads)) (beside c.args.live v.reads)) (OneOf (holds v.reads) (with_frames ((c.args.lead.now ++ c.args.body.now) ∷ []) (holds v.reads)))
    (behind_holds v c.args.live c.args.gate rest (c.args.lead.now ++ c.args.body.now) (omega (arith, c.requires.short, length-append c.args.lead.now c.args.body.now))) (c.stage_frame.ensures.any_moment h) in
    then v m f (OneOf (holds v.reads) (with_frames ((c.args.lead.now ++ c.args.body.now) ∷ []) (holds v.reads))) first
    (weaker m f (AtGate c.args.live c.args.gate m.reads) (OneOf (holds v.reads) (with_frames ((c.args.lead.now ++ c.args.body.now) ∷ []) (holds v.reads))) (gate_holds v c.args.live c.args.gate rest (c.args.lead.now ++ c.args.body.now) (omega (arith, c.requires.short, length-append c.args.lead.now c.args.body.now)) m staged) (c.open_gate.ensures.any_moment h1))

pub returns-clause-at_rest : goal.returns-clause-at_rest
returns-clause-at_rest g c h =
    subst (λ (k : ℕ). AtRest (g.D.Disk.view c.open_gate.new.disk) c.args.live (c.args.gate + 5 + k)) (length-append c.args.lead.now c.args.body.now)
    (opened_rests (g.D.Disk.view c.args.disk.now) c.args.live c.args.gate (c.requires.at_rest h) (c.args.lead.now ++ c.args.body.now) (omega (arith, c.requires.short, length-append c.args.lead.now c.args.body.now)) (g.D.Disk.view c.stage_frame.new.disk)
    (c.in_ok-stage_frame.ensures.staged h) (g.D.Disk.view c.open_gate.new.disk) (c.in_ok-open_gate.ensures.opened (c.stage_frame.ensures.honesty.0 h)))

pub returns-clause-holds : goal.returns-clause-holds
returns-clause-holds g c h =
    opened_holds (g.D.Disk.view c.args.disk.now) c.args.live c.args.gate (c.requires.at_rest h) (c.args.lead.now ++ c.args.body.now) (omega (arith, c.requires.short, length-append c.args.lead.now c.args.body.now)) (g.D.Disk.view c.stage_frame.new.disk)
    (c.in_ok-stage_frame.ensures.staged h) (g.D.Disk.view c.open_gate.new.disk) (c.in_ok-open_gate.ensures.opened (c.stage_frame.ensures.honesty.0 h))
