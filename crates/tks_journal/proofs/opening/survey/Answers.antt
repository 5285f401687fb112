use Rattle.std.proofs.Common.{◌≡◌, None, Ok, Err, sym, ◌∙◌, ap, subst}
use Rattle.tks_disk.specs.DiskModel.{Images}
use Rattle.tks_journal.specs.Fronts.{FrontIs}
use Rattle.tks_journal.proofs.Choices.{live_front_fault, live_front_nothing, live_front_so}
use Rattle.tks_journal.proofs.Closes.{still_settled}
use Rattle.tks_journal.proofs.opening.survey.Goals as goal

pub returns-in-Ok-clause-blank : goal.returns-in-Ok-clause-blank
returns-in-Ok-clause-blank g c e h =
    let v = g.D.Disk.view c.args.disk.now in
    let m1 = g.D.Disk.view c.settle.new.disk in
    let m2 = g.D.Disk.view c.front_of.new.disk in
    let m3 = g.D.Disk.view c.front_of-2.new.disk in
    let h1 = c.settle.ensures.honesty.0 h in
    let h2 = c.front_of.ensures.honesty.0 h1 in
    let r2 = c.front_of.ensures.rests h1 in
    let r3 = c.front_of-2.ensures.rests h2 in
    let settled = still_settled m2 m3 (still_settled m1 m2 (c.in_ok-settle.ensures.settled h) r2) r3 in
    let is_a : FrontIs c.in_ok-a.a m3.reads.a = subst (λ (i : Images). FrontIs c.in_ok-a.a i.a) (sym (r3.same ∙ r2.same)) (c.in_ok-a.ensures.front h1) in
    let is_b : FrontIs c.in_ok-b.b m3.reads.b = subst (λ (i : Images). FrontIs c.in_ok-b.b i.b) (sym r3.same) (c.in_ok-b.ensures.front h2) in
    let nothing : c.in-Ok.found ≡ None = cc e in
    live_front_nothing c.in_ok-a.a c.in_ok-b.b m3 settled is_a is_b (sym c.choose.ensures ∙ c.in-Ok.is ∙ ap Ok nothing)

pub returns-in-Ok-clause-stored : goal.returns-in-Ok-clause-stored
returns-in-Ok-clause-stored g c =
    live_front_so (g.D.Disk.honest c.args.disk.now) c.in_ok-a.a c.in_ok-b.b (g.D.Disk.view c.front_of-2.new.disk) c.in-Ok.found (λ h.
    let v = g.D.Disk.view c.args.disk.now in
    let m1 = g.D.Disk.view c.settle.new.disk in
    let m2 = g.D.Disk.view c.front_of.new.disk in
    let m3 = g.D.Disk.view c.front_of-2.new.disk in
    let h1 = c.settle.ensures.honesty.0 h in
    let h2 = c.front_of.ensures.honesty.0 h1 in
    let r2 = c.front_of.ensures.rests h1 in
    let r3 = c.front_of-2.ensures.rests h2 in
    let settled = still_settled m2 m3 (still_settled m1 m2 (c.in_ok-settle.ensures.settled h) r2) r3 in
    let is_a : FrontIs c.in_ok-a.a m3.reads.a = subst (λ (i : Images). FrontIs c.in_ok-a.a i.a) (sym (r3.same ∙ r2.same)) (c.in_ok-a.ensures.front h1) in
    let is_b : FrontIs c.in_ok-b.b m3.reads.b = subst (λ (i : Images). FrontIs c.in_ok-b.b i.b) (sym r3.same) (c.in_ok-b.ensures.front h2) in
    (settled, is_a, is_b)) (sym c.choose.ensures ∙ c.in-Ok.is)

pub returns-in-Err-clause-fault : goal.returns-in-Err-clause-fault
returns-in-Err-clause-fault g c f e h =
    let v = g.D.Disk.view c.args.disk.now in
    let m1 = g.D.Disk.view c.settle.new.disk in
    let m2 = g.D.Disk.view c.front_of.new.disk in
    let m3 = g.D.Disk.view c.front_of-2.new.disk in
    let h1 = c.settle.ensures.honesty.0 h in
    let h2 = c.front_of.ensures.honesty.0 h1 in
    let r2 = c.front_of.ensures.rests h1 in
    let r3 = c.front_of-2.ensures.rests h2 in
    let u = c.settle.ensures.unwritten h in
    let is_a : FrontIs c.in_ok-a.a v.reads.a = subst (λ (i : Images). FrontIs c.in_ok-a.a i.a) u.same (c.in_ok-a.ensures.front h1) in
    let is_b : FrontIs c.in_ok-b.b v.reads.b = subst (λ (i : Images). FrontIs c.in_ok-b.b i.b) (r2.same ∙ u.same) (c.in_ok-b.ensures.front h2) in
    let this : c.in-Err.fault ≡ f = cc e in
    live_front_fault c.in_ok-a.a c.in_ok-b.b v.reads f is_a is_b (sym c.choose.ensures ∙ c.in-Err.is ∙ ap Err this)
