use Rattle.std.proofs.Common.{◌≡◌, ◌+◌, ℕ, Err, sym, ◌∙◌, ap, subst, arith}
use Rattle.tks_disk.specs.DiskModel.{Images}
use Rattle.tks_journal.specs.Loading.{FramesAt, behind}
use Rattle.tks_journal.specs.Sides.{frames, holds, kept}
use Rattle.tks_journal.proofs.Closes.{still_settled}
use Rattle.tks_journal.proofs.Passing.{frames_begin, frames_still, world_held, world_cut}
use Rattle.tks_journal.proofs.stored.Stored.world.Goals as goal

pub from-frames-requires : goal.from-frames-requires
from-frames-requires g c h =
    let v = g.D.Disk.view c.self.inside.disk in
    let m = g.D.Disk.view c.world_from.new.disk in
    let live = c.self.inside.live in
    let at = c.self.inside.at in
    let len = c.self.inside.len in
    let h0 = c.world_from.ensures.honesty.1 h in
    let s = c.self.invariant h0 in
    let rests = c.world_from.ensures.rests h0 in
    let sizes = c.in-Ok.ensures.size in
    let begin = frames_begin v live c.self.inside.format c.self.inside.header at len s c.in-Ok.world.items sizes.0 sizes.1 (c.in-Ok.ensures.world h0) in
    let here = subst (λ (k : ℕ). FramesAt v live c.self.inside.format c.self.inside.header.generation k len) (omega (arith, c.len.ensures, sizes.0)) begin in
    frames_still v m live c.self.inside.format c.self.inside.header.generation (at + c.len.result) len here (still_settled v m s.settled rests) rests.same

pub returns-in-Ok-clause-read : goal.returns-in-Ok-clause-read
returns-in-Ok-clause-read g c =
    let m = g.D.Disk.view c.world_from.new.disk in
    let live = c.self.inside.live in
    let at = c.self.inside.at in
    let len = c.self.inside.len in
    let header = c.self.inside.header in
    let world = c.in-Ok.world.items in
    subst (λ s. g.D.Disk.honest s.disk → holds (g.D.Disk.view s.disk).reads ≡ kept c.from-frames.result.live c.from-frames.result.format header world (frames (behind c.from-frames.result.live c.from-frames.result.at (g.D.Disk.view c.from-frames.result.disk).reads))) c.self.view_is
    (λ h0.
    let v = g.D.Disk.view c.self.inside.disk in
    let s = c.self.invariant h0 in
    let rests = c.world_from.ensures.rests h0 in
    let sizes = c.in-Ok.ensures.size in
    let there : at + header.world_length ≡ at + c.len.result = omega (arith, c.len.ensures, sizes.0) in
    world_held v live c.self.inside.format header at len s world sizes.0 sizes.1 (c.in-Ok.ensures.world h0)
    ∙ ap (λ (k : ℕ). kept live c.self.inside.format header world (frames (behind live k v.reads))) there
    ∙ ap (λ (i : Images). kept live c.self.inside.format header world (frames (behind live (at + c.len.result) i))) (sym rests.same)
    ∙ ap (λ f. kept f.live f.format header world (frames (behind f.live f.at (g.D.Disk.view f.disk).reads))) (sym c.from-frames.ensures))

pub returns-in-Err-clause-fault : goal.returns-in-Err-clause-fault
returns-in-Err-clause-fault g c f e =
    subst (λ s. g.D.Disk.honest s.disk → holds (g.D.Disk.view s.disk).reads ≡ Err f) c.self.view_is
    (λ h0.
    let v = g.D.Disk.view c.self.inside.disk in
    let is = c.in-Err.ensures.fault f (ap Err e) in
    world_cut v c.self.inside.live c.self.inside.format c.self.inside.header c.self.inside.at c.self.inside.len (c.self.invariant h0) is.1 ∙ ap Err (sym is.0))
