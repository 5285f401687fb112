use Rattle.std.proofs.Common.{◌≡◌, ◌+◌, List, ℕ, length, sym, ◌∙◌, ap, arith}
use Rattle.tks_spelling.specs.declared.format.Format.{Format}
use Rattle.tks_journal.specs.Loading.{behind}
use Rattle.tks_journal.specs.Sides.{frames}
use Rattle.tks_durable.specs.Inputs.{frame_in}
use Rattle.tks_durable.specs.Opening.{with_bodies, with_inputs}
use Rattle.tks_durable.proofs.Runs.{body_first}
use Rattle.tks_durable.proofs.restore.replay_next.Goals as goal

pub returns-in-Ok-Some-clause-more : goal.returns-in-Ok-Some-clause-more
returns-in-Ok-Some-clause-more g c e =
    let m = g.M.Machine.meaning c.args.machine.now in
    let format = c.args.left.now.format in
    let body = c.in-Ok-Some.body.items in
    let on = rw c.in-Ok-Some.field-0-is at c.in-Ok-Some.ensures.on in
    let at_is : c.next.new.self.at ≡ c.args.left.now.at + 5 + length body = ap (λ f. f.at) on.0 in
    let others = frames (behind c.next.new.self.live c.next.new.self.at (g.D.Disk.view c.next.new.self.disk).reads) in (
      omega (arith, at_is),
      omega (arith, at_is, on.1),
      λ h. ap (λ o. with_bodies m format o others) c.in_ok-so_far-in-Ok-Some.ensures.value
          ∙ ap (λ (f : Format). with_bodies m format (with_inputs m c.args.so_far (frame_in f c.deref.result.now)) others) (c.format.ensures ∙ ap (λ f. f.format) on.0)
          ∙ ap (λ (l : List ℕ). with_bodies m format (with_inputs m c.args.so_far (frame_in format l)) others) c.deref.ensures.value
          ∙ sym (body_first m format c.args.so_far body others)
          ∙ ap (with_bodies m format c.args.so_far) (sym ((rw c.in-Ok-Some.field-0-is at c.in-Ok-Some.ensures.frame) h)),
    )
