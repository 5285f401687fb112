use Rattle.std.proofs.Common.{◌∷◌, [], inl, refl, sym, ap, ◌∙◌, subst}
use Rattle.tks_durable.specs.Calls.{Makes, well}
use Rattle.tks_durable.specs.Durable.{CheckpointFails, checkpointed, committed}
use Rattle.tks_durable.specs.declared.calls.Call.{Call}
use Rattle.tks_durable.specs.declared.calls.Call.TheVariants.{Commit, Checkpoint}
use Rattle.tks_durable.proofs.OfCalls.{drained, drained_same, not_made, posted, stored}
use Rattle.tks_durable.proofs.calls.make_call.Goals as goal

pub returns-in-Post-clause-makes : goal.returns-in-Post-clause-makes
returns-in-Post-clause-makes g c = λ works h.
    let old = c.args.durable.now in
    let new = c.post.new.self in
    let m = g.M.Machine.meaning old.machine in
    subst (λ (call : Call). Makes m g.D.Disk.failures g.D.Disk.view (call ∷ []) old new well) (sym c.in-Post.is)
    (posted m g.D.Disk.failures g.D.Disk.view old new (c.stands.ensures.images works h) (λ i left. g.met.D.Disk.only_now old.journal.disk i h left)
    _ _ c.in-Post.input c.post.result c.post.ensures.accepted c.post.ensures.ok c.post.ensures.refused c.post.ensures.unchanged)

pub returns-in-Drain-clause-machine : goal.returns-in-Drain-clause-machine
returns-in-Drain-clause-machine g c =
    let old = c.args.durable.now in
    (drained_same (g.M.Machine.meaning old.machine) g.D.Disk.failures g.D.Disk.view _ old c.drain.new.self _ _ _ _ _ c.drain.ensures.drained).1

pub returns-in-Drain-clause-working : goal.returns-in-Drain-clause-working
returns-in-Drain-clause-working g c =
    let old = c.args.durable.now in
    ap (λ j. j.failed) (drained_same (g.M.Machine.meaning old.machine) g.D.Disk.failures g.D.Disk.view _ old c.drain.new.self _ _ _ _ _ c.drain.ensures.drained).0

pub returns-in-Drain-clause-honesty : goal.returns-in-Drain-clause-honesty
returns-in-Drain-clause-honesty g c =
    let old = c.args.durable.now in
    let same = (drained_same (g.M.Machine.meaning old.machine) g.D.Disk.failures g.D.Disk.view _ old c.drain.new.self _ _ _ _ _ c.drain.ensures.drained).0 in
    (λ h. subst (λ j. g.D.Disk.honest j.disk) (sym same) h, λ h. subst (λ j. g.D.Disk.honest j.disk) same h)

pub returns-in-Drain-clause-makes : goal.returns-in-Drain-clause-makes
returns-in-Drain-clause-makes g c = λ works h.
    let old = c.args.durable.now in
    let new = c.drain.new.self in
    let m = g.M.Machine.meaning old.machine in
    subst (λ (call : Call). Makes m g.D.Disk.failures g.D.Disk.view (call ∷ []) old new well) (sym c.in-Drain.is)
    (drained m g.D.Disk.failures g.D.Disk.view old new (c.stands.ensures.images works h) (λ i left. g.met.D.Disk.only_now old.journal.disk i h left) _ _ _ _ _ _ c.drain.ensures.drained)

pub returns-in-Ok-clause-makes : goal.returns-in-Ok-clause-makes
returns-in-Ok-clause-makes g c = λ works h.
    let old = c.args.durable.now in
    let new = c.commit.new.self in
    let m = g.M.Machine.meaning old.machine in
    let ok = c.in-Ok.ensures.ok in
    let done = ok.2 ∙ ap (λ n. record old { journal = committed old.journal new.journal.disk old.waiting; waiting = []; acknowledged = n }) ok.1 in
    subst (λ (call : Call). Makes m g.D.Disk.failures g.D.Disk.view (call ∷ []) old new well) (sym c.in-Commit.is)
    (stored m g.D.Disk.failures g.D.Disk.view old new Commit (c.commit.ensures.any_moment works h) (done, refl) (ap (λ s. s.world) ok.2) (ap (λ s. s.waiting) ok.2) (c.stands.ensures.world works h)
    (c.in-Ok.ensures.acknowledged h (g.D.Disk.view new.journal.disk).reads (g.met.D.Disk.reads_may_stay new.journal.disk (c.commit.ensures.honesty.0 h))))

pub returns-in-Ok-checkpoint-clause-makes : goal.returns-in-Ok-checkpoint-clause-makes
returns-in-Ok-checkpoint-clause-makes g c = λ works h.
    let old = c.args.durable.now in
    let new = c.checkpoint.new.self in
    let m = g.M.Machine.meaning old.machine in
    let ok = c.in-Ok-checkpoint.ensures.ok in
    let done = ok.2 ∙ ap (λ n. record old { journal = checkpointed m old.journal new.journal.disk old.world; waiting = []; acknowledged = n }) ok.1 in
    subst (λ (call : Call). Makes m g.D.Disk.failures g.D.Disk.view (call ∷ []) old new well) (sym c.in-Checkpoint.is)
    (stored m g.D.Disk.failures g.D.Disk.view old new Checkpoint (c.checkpoint.ensures.any_moment works h) (inl done, refl) (ap (λ s. s.world) ok.2) (ap (λ s. s.waiting) ok.2) (c.stands.ensures.world works h)
    (c.in-Ok-checkpoint.ensures.acknowledged h (g.D.Disk.view new.journal.disk).reads (g.met.D.Disk.reads_may_stay new.journal.disk (c.checkpoint.ensures.honesty.0 h))))

pub returns-in-Err-TooLarge-clause-makes : goal.returns-in-Err-TooLarge-clause-makes
returns-in-Err-TooLarge-clause-makes g c = λ works h.
    let old = c.args.durable.now in
    let new = c.checkpoint.new.self in
    let m = g.M.Machine.meaning old.machine in
    let err = subst (λ why. CheckpointFails m old new (g.D.Disk.failures old.journal.disk) (g.D.Disk.failures new.journal.disk) why) c.in-Err-TooLarge.field-0-is c.in-Err-TooLarge.ensures.err in
    subst (λ (call : Call). Makes m g.D.Disk.failures g.D.Disk.view (call ∷ []) old new well) (sym c.in-Checkpoint.is)
    (not_made m g.D.Disk.failures g.D.Disk.view old new (c.stands.ensures.images works h) (λ i left. g.met.D.Disk.only_now old.journal.disk i h left) err.1)

pub returns-in-Err-NoMemory-clause-makes : goal.returns-in-Err-NoMemory-clause-makes
returns-in-Err-NoMemory-clause-makes g c = λ works h.
    let old = c.args.durable.now in
    let new = c.checkpoint.new.self in
    let m = g.M.Machine.meaning old.machine in
    let err = subst (λ why. CheckpointFails m old new (g.D.Disk.failures old.journal.disk) (g.D.Disk.failures new.journal.disk) why) c.in-Err-NoMemory.field-0-is c.in-Err-NoMemory.ensures.err in
    subst (λ (call : Call). Makes m g.D.Disk.failures g.D.Disk.view (call ∷ []) old new well) (sym c.in-Checkpoint.is)
    (not_made m g.D.Disk.failures g.D.Disk.view old new (c.stands.ensures.images works h) (λ i left. g.met.D.Disk.only_now old.journal.disk i h left) err)
