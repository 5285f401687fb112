use Rattle.std.proofs.Common.{◌≡◌, ◌+◌, false, List, [], Ok, inl, refl, sym, ◌∙◌, ap, subst}
use Rattle.tks_input.specs.declared.input.Input.{Input}
use Rattle.tks_journal.specs.Resting.{begun_as}
use Rattle.tks_journal.specs.Sides.{other_of}
use Rattle.tks_durable.specs.Crash.{AllOpenTo}
use Rattle.tks_durable.specs.Durable.{IsPending, checkpointed, or_none}
use Rattle.tks_durable.specs.Inputs.{inputs_in}
use Rattle.tks_durable.specs.Opening.{opens, run}
use Rattle.tks_durable.proofs.Checkpoints.{checkpointed_so}
use Rattle.tks_durable.proofs.Crashes.{begun_opens, begun_stands, begun_within, held_opens}
use Rattle.tks_durable.proofs.Pending.{cleared, none_wait}
use Rattle.tks_durable.proofs.durable.Durable.checkpoint.Goals as goal

pub invariant_of-self : goal.invariant_of-self
invariant_of-self g c =
    let s = c.self.inside in
    let m = g.M.Machine.meaning s.machine in
    let new = g.D.Disk.view c.checkpoint.new.self.disk in
    let side = c.in-Ok.side in
    let begun = begun_as (other_of s.journal.live) side.header c.deref-in-Ok.result.now in
    let opens_so = held_opens m (other_of s.journal.live) side.header s.world _ _ c.deref-in-Ok.ensures.value (c.in-Ok.ensures.opens c.self.invariant.4 (other_of s.journal.live)) in (
      subst (λ l. IsPending l 0) (sym c.clear.ensures.items) none_wait,
      inl refl,
      λ works h1. subst (λ w. run m (opens m new.reads) w ≡ Ok s.world) (sym (cleared c.clear.new.self.items c.clear.ensures.items))
          (begun_stands m begun s.world opens_so new (c.in-Ok-checkpoint.ensures.begun (c.checkpoint.ensures.honesty.1 h1))),
      λ works h1. record {
        world = s.world;
        opened = begun_stands m begun s.world opens_so new (c.in-Ok-checkpoint.ensures.begun (c.checkpoint.ensures.honesty.1 h1));
        counted = sym c.count-self-inside.ensures;
      },
      c.self.invariant.4,
    )

pub returns-in-Ok-checkpoint-clause-ok : goal.returns-in-Ok-checkpoint-clause-ok
returns-in-Ok-checkpoint-clause-ok g c =
    let s = c.self.inside in
    let m = g.M.Machine.meaning s.machine in
    let n = c.count-self-inside.result in
    let side = c.in-Ok.side in
    let working : s.journal.failed ≡ false = sym c.has_failed.ensures ∙ c.if-has_failed.false in
    let new = c.checkpoint.new.self in
    subst (λ t. (t.journal.failed ≡ false) × (n ≡ (g.M.Machine.meaning t.machine).count t.world)
    × (record { journal = new; machine = s.machine; world = s.world; waiting = or_none (inputs_in c.clear.new.self.items); acknowledged = n } ≡ record t { journal = checkpointed (g.M.Machine.meaning t.machine) t.journal new.disk t.world; waiting = []; acknowledged = n })) c.self.view_is (
      working,
      c.count-self-inside.ensures,
      ap (λ (w : List Input). record { journal = new; machine = s.machine; world = s.world; waiting = w; acknowledged = n }) (cleared c.clear.new.self.items c.clear.ensures.items)
          ∙ ap (λ j. record { journal = j; machine = s.machine; world = s.world; waiting = []; acknowledged = n })
          (checkpointed_so m s.journal new.disk s.world new side.header c.deref.result.now c.deref-in-Ok.result.now _ c.in-Ok-checkpoint.ensures.ok c.in-Ok.ensures.header
          (ap (λ k. k + 1) c.generation-generation.ensures) (c.deref.ensures.value ∙ c.in-Ok.ensures.head) (c.deref-in-Ok.ensures.value ∙ c.in-Ok.ensures.bytes)),
    )

pub returns-in-Ok-checkpoint-clause-acknowledged : goal.returns-in-Ok-checkpoint-clause-acknowledged
returns-in-Ok-checkpoint-clause-acknowledged g c =
    let s = c.self.inside in
    let m = g.M.Machine.meaning s.machine in
    let new = g.D.Disk.view c.checkpoint.new.self.disk in
    let side = c.in-Ok.side in
    let begun = begun_as (other_of s.journal.live) side.header c.deref-in-Ok.result.now in
    let opens_so = held_opens m (other_of s.journal.live) side.header s.world _ _ c.deref-in-Ok.ensures.value (c.in-Ok.ensures.opens c.self.invariant.4 (other_of s.journal.live)) in
    subst (λ t. g.D.Disk.honest t.journal.disk → AllOpenTo (g.M.Machine.meaning t.machine) new (Ok s.world)) c.self.view_is
    (λ h. begun_opens m begun s.world opens_so new (c.in-Ok-checkpoint.ensures.begun h))

pub returns-in-Ok-checkpoint-clause-any_moment : goal.returns-in-Ok-checkpoint-clause-any_moment
returns-in-Ok-checkpoint-clause-any_moment g c =
    let s = c.self.inside in
    let live = other_of s.journal.live in
    let opens_so = held_opens (g.M.Machine.meaning s.machine) live c.in-Ok.side.header s.world _ _ c.deref-in-Ok.ensures.value (c.in-Ok.ensures.opens c.self.invariant.4 live) in
    begun_within g.M.Machine.meaning g.D.Disk.honest g.D.Disk.view (begun_as live c.in-Ok.side.header c.deref-in-Ok.result.now) (g.D.Disk.view c.checkpoint.new.self.disk) c.self.view_is
    opens_so c.self.invariant.2 c.checkpoint.ensures.any_moment

pub returns-in-Ok-clause-any_moment : goal.returns-in-Ok-clause-any_moment
returns-in-Ok-clause-any_moment g c =
    let s = c.self.inside in
    let live = other_of s.journal.live in
    let opens_so = held_opens (g.M.Machine.meaning s.machine) live c.in-Ok.side.header s.world _ _ c.deref-in-Ok.ensures.value (c.in-Ok.ensures.opens c.self.invariant.4 live) in
    begun_within g.M.Machine.meaning g.D.Disk.honest g.D.Disk.view (begun_as live c.in-Ok.side.header c.deref-in-Ok.result.now) (g.D.Disk.view c.checkpoint.new.self.disk) c.self.view_is
    opens_so c.self.invariant.2 c.checkpoint.ensures.any_moment
