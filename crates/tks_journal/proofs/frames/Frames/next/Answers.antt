use Rattle.std.proofs.Common.{◌≡◌, ◌≤◌, ◌+◌, ℕ, true, false, length, sym, ◌∙◌, ap, subst, arith}
use Rattle.tks_disk.specs.DiskModel.{Images, on}
use Rattle.tks_journal.specs.Loading.{FramesAt, FrameIs, behind}
use Rattle.tks_journal.specs.Sides.{frames, with_front}
use Rattle.tks_journal.proofs.Closes.{still_settled}
use Rattle.tks_journal.proofs.Passing.{frames_on, frames_still, frame_met}
use Rattle.tks_journal.proofs.frames.Frames.next.Goals as goal

pub invariant_of-self : goal.invariant_of-self
invariant_of-self g c h =
    let v = g.D.Disk.view c.self.inside.disk in
    let m = g.D.Disk.view c.frame_from.new.disk in
    let live = c.self.inside.live in
    let at = c.self.inside.at in
    let len = c.self.inside.len in
    let body = c.in-Ok-Some.body.items in
    let h0 = c.frame_from.ensures.honesty.1 h in
    let f = (c.self.invariant h0).0 in
    let rests = c.frame_from.ensures.rests h0 in
    let is : FrameIs (on live v.reads) at body = (rw c.in-Ok-Some.field-0-is at c.in-Ok-Some.ensures.frame) h0 in
    let fits : at + 5 + length body ≤ len = rw c.in-Ok-Some.field-0-is at c.in-Ok-Some.ensures.size in
    let next = frames_on v live c.self.inside.format c.self.inside.generation at len f body fits is in
    let here = subst (λ (k : ℕ). FramesAt v live c.self.inside.format c.self.inside.generation k len) (omega (arith, c.len.ensures)) next in
    (frames_still v m live c.self.inside.format c.self.inside.generation (at + (5 + c.len.result)) len here (still_settled v m f.settled rests) rests.same, λ (e : false ≡ true). absurd (cc e))

pub returns-in-Ok-Some-clause-frame : goal.returns-in-Ok-Some-clause-frame
returns-in-Ok-Some-clause-frame g c =
    let m = g.D.Disk.view c.frame_from.new.disk in
    let live = c.self.inside.live in
    let at = c.self.inside.at in
    let len = c.self.inside.len in
    let body = c.in-Ok-Some.body.items in
    subst (λ s. g.D.Disk.honest s.disk → frames (behind s.live s.at (g.D.Disk.view s.disk).reads) ≡ with_front body (frames (behind live (at + (5 + c.len.result)) m.reads))) c.self.view_is
    (λ h0.
    let v = g.D.Disk.view c.self.inside.disk in
    let f = (c.self.invariant h0).0 in
    let rests = c.frame_from.ensures.rests h0 in
    let is : FrameIs (on live v.reads) at body = (rw c.in-Ok-Some.field-0-is at c.in-Ok-Some.ensures.frame) h0 in
    let fits : at + 5 + length body ≤ len = rw c.in-Ok-Some.field-0-is at c.in-Ok-Some.ensures.size in
    let there : at + 5 + length body ≡ at + (5 + c.len.result) = omega (arith, c.len.ensures) in
    frame_met v live c.self.inside.format c.self.inside.generation at len f body fits is
    ∙ ap (λ (k : ℕ). with_front body (frames (behind live k v.reads))) there
    ∙ ap (λ (i : Images). with_front body (frames (behind live (at + (5 + c.len.result)) i))) (sym rests.same))
