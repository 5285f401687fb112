use Rattle.std.proofs.Common.{◌≡◌, ◌≢◌, false, List, [], Ok, length, inl, refl, sym, ◌∙◌, ap, subst, arith}
use Rattle.tks_input.specs.declared.input.Input.{Input}
use Rattle.tks_journal.specs.Moments.{LeavesOnly}
use Rattle.tks_durable.specs.Crash.{AllOpenTo, OpensToPrefix, Stands}
use Rattle.tks_durable.specs.Inputs.{frame_of, inputs_in}
use Rattle.tks_durable.specs.Opening.{opens, run}
use Rattle.tks_durable.specs.Durable.{IsPending, committed, or_none}
use Rattle.tks_durable.proofs.Crashes.{any_moment, idle_opens, written_opens, written_stands}
use Rattle.tks_durable.proofs.Pending.{cleared, committed_so, few, how_many, none_there, none_wait, shorter, still_read}
use Rattle.tks_durable.proofs.durable.Durable.commit.Goals as goal

pub append_inputs-requires-clause-short : goal.append_inputs-requires-clause-short
append_inputs-requires-clause-short g c =
    let s = c.self.inside in
    omega (arith, few s.body.items s.waiting c.self.invariant.0, shorter s.journal s.waiting s.body.items c.self.invariant.1 c.if-self-eq0.false)

pub returns-then-self-eq0-clause-ok : goal.returns-then-self-eq0-clause-ok
returns-then-self-eq0-clause-ok g c =
    let s = c.self.inside in
    let n = c.count-self-inside.result in
    let working : s.journal.failed ≡ false = sym c.has_failed.ensures ∙ c.if-has_failed.false in
    let none = none_there s.body.items s.waiting c.self.invariant.0 c.if-self-eq0.true in
    subst (λ t. (t.journal.failed ≡ false) × (n ≡ (g.M.Machine.meaning t.machine).count t.world)
    × (record { journal = s.journal; machine = s.machine; world = s.world; waiting = or_none (inputs_in s.body.items); acknowledged = n } ≡ record t { journal = committed t.journal s.journal.disk t.waiting; waiting = []; acknowledged = n })) c.self.view_is (
      working,
      c.count-self-inside.ensures,
      ap (λ (w : List Input). record { journal = s.journal; machine = s.machine; world = s.world; waiting = w; acknowledged = n }) none
          ∙ ap (λ (w : List Input). record { journal = committed s.journal s.journal.disk w; machine = s.machine; world = s.world; waiting = []; acknowledged = n }) (sym none),
    )

pub returns-then-self-eq0-clause-acknowledged : goal.returns-then-self-eq0-clause-acknowledged
returns-then-self-eq0-clause-acknowledged g c =
    let s = c.self.inside in
    let v = g.D.Disk.view s.journal.disk in
    let m = g.M.Machine.meaning s.machine in
    let working : s.journal.failed ≡ false = sym c.has_failed.ensures ∙ c.if-has_failed.false in
    subst (λ t. g.D.Disk.honest t.journal.disk → AllOpenTo (g.M.Machine.meaning t.machine) v (Ok s.world)) c.self.view_is
    (λ h. idle_opens m v (c.stands.ensures working h).0 s.world
    (subst (λ w. Stands m v w s.world) (none_there s.body.items s.waiting c.self.invariant.0 c.if-self-eq0.true) (c.self.invariant.2 working h)))

pub invariant_of-self : goal.invariant_of-self
invariant_of-self g c =
    let s = c.self.inside in
    let v = g.D.Disk.view s.journal.disk in
    let m = g.M.Machine.meaning s.machine in (
      c.self.invariant.0,
      c.self.invariant.1,
      c.self.invariant.2,
      λ works h. record {
        world = s.world;
        opened = subst (λ w. run m (opens m v.reads) w ≡ Ok s.world) (none_there s.body.items s.waiting c.self.invariant.0 c.if-self-eq0.true) (c.self.invariant.2 works h);
        counted = sym c.count-self-inside.ensures;
      },
      c.self.invariant.4,
    )

pub invariant_of-self-in-Ok : goal.invariant_of-self-in-Ok
invariant_of-self-in-Ok g c =
    let s = c.self.inside in
    let v = g.D.Disk.view s.journal.disk in
    let new = g.D.Disk.view c.append_inputs.new.journal.disk in
    let m = g.M.Machine.meaning s.machine in
    let body = s.body.items in
    let working : s.journal.failed ≡ false = sym c.has_failed.ensures ∙ c.if-has_failed.false in (
      subst (λ l. IsPending l 0) (sym c.clear.ensures.items) none_wait,
      inl refl,
      λ works h1. let h = c.append_inputs.ensures.honesty.1 h1 in
          subst (λ w. run m (opens m new.reads) w ≡ Ok s.world) (sym (cleared c.clear.new.self.items c.clear.ensures.items))
          (written_stands m v new _ (frame_of s.journal.format s.waiting c.deref.result.now) (or_none (inputs_in body)) s.world (c.stands.ensures working h).1 (still_read s.journal.format c.deref.result.now body s.waiting c.deref.ensures.value c.self.invariant.0 (shorter s.journal s.waiting body c.self.invariant.1 c.if-self-eq0.false))
          (c.self.invariant.2 working h) (c.in-Ok.ensures.added h)),
      λ works h1. let h = c.append_inputs.ensures.honesty.1 h1 in
          record {
            world = s.world;
            opened = written_stands m v new _ (frame_of s.journal.format s.waiting c.deref.result.now) (or_none (inputs_in body)) s.world (c.stands.ensures working h).1 (still_read s.journal.format c.deref.result.now body s.waiting c.deref.ensures.value c.self.invariant.0 (shorter s.journal s.waiting body c.self.invariant.1 c.if-self-eq0.false))
                (c.self.invariant.2 working h) (c.in-Ok.ensures.added h);
            counted = sym c.count-self-inside-in-Ok.ensures;
          },
      c.self.invariant.4,
    )

pub returns-in-Ok-clause-ok : goal.returns-in-Ok-clause-ok
returns-in-Ok-clause-ok g c =
    let s = c.self.inside in
    let n = c.count-self-inside-in-Ok.result in
    let working : s.journal.failed ≡ false = sym c.has_failed.ensures ∙ c.if-has_failed.false in
    let some : s.waiting ≢ 0 = c.if-self-eq0.false in
    subst (λ t. (t.journal.failed ≡ false) × (n ≡ (g.M.Machine.meaning t.machine).count t.world)
    × (record { journal = c.append_inputs.new.journal; machine = s.machine; world = s.world; waiting = or_none (inputs_in c.clear.new.self.items); acknowledged = n } ≡ record t { journal = committed t.journal c.append_inputs.new.journal.disk t.waiting; waiting = []; acknowledged = n })) c.self.view_is (
      working,
      c.count-self-inside-in-Ok.ensures,
      ap (λ (w : List Input). record { journal = c.append_inputs.new.journal; machine = s.machine; world = s.world; waiting = w; acknowledged = n }) (cleared c.clear.new.self.items c.clear.ensures.items)
          ∙ ap (λ j. record { journal = j; machine = s.machine; world = s.world; waiting = []; acknowledged = n })
          (c.in-Ok.ensures.ok ∙ committed_so s.journal c.append_inputs.new.journal.disk c.deref.result.now s.body.items s.waiting c.deref.ensures.value c.self.invariant.0 some),
    )

pub returns-in-Ok-clause-idle : goal.returns-in-Ok-clause-idle
returns-in-Ok-clause-idle g c =
    let s = c.self.inside in
    subst (λ t. t.waiting ≡ [] → c.append_inputs.new.journal ≡ t.journal) c.self.view_is (λ e. absurd (c.if-self-eq0.false (sym (how_many s.body.items s.waiting c.self.invariant.0) ∙ ap length e)))

pub returns-in-Ok-clause-acknowledged : goal.returns-in-Ok-clause-acknowledged
returns-in-Ok-clause-acknowledged g c =
    let s = c.self.inside in
    let v = g.D.Disk.view s.journal.disk in
    let new = g.D.Disk.view c.append_inputs.new.journal.disk in
    let m = g.M.Machine.meaning s.machine in
    let body = s.body.items in
    let working : s.journal.failed ≡ false = sym c.has_failed.ensures ∙ c.if-has_failed.false in
    subst (λ t. g.D.Disk.honest t.journal.disk → AllOpenTo (g.M.Machine.meaning t.machine) new (Ok s.world)) c.self.view_is
    (λ h. written_opens m v new _ (frame_of s.journal.format s.waiting c.deref.result.now) (or_none (inputs_in body)) s.world (c.stands.ensures working h).1 (still_read s.journal.format c.deref.result.now body s.waiting c.deref.ensures.value c.self.invariant.0 (shorter s.journal s.waiting body c.self.invariant.1 c.if-self-eq0.false))
    (c.self.invariant.2 working h) (c.in-Ok.ensures.added h))

pub returns-in-Ok-clause-any_moment : goal.returns-in-Ok-clause-any_moment
returns-in-Ok-clause-any_moment g c =
    let s = c.self.inside in
    let v = g.D.Disk.view s.journal.disk in
    let new = g.D.Disk.view c.append_inputs.new.journal.disk in
    let m = g.M.Machine.meaning s.machine in
    let body = s.body.items in
    subst (λ t. t.journal.failed ≡ false → g.D.Disk.honest t.journal.disk → LeavesOnly (g.D.Disk.view t.journal.disk) new (OpensToPrefix (g.M.Machine.meaning t.machine) (opens (g.M.Machine.meaning t.machine) (g.D.Disk.view t.journal.disk).reads) t.waiting)) c.self.view_is
    (λ works h. any_moment m v.reads _ (frame_of s.journal.format s.waiting c.deref.result.now) (or_none (inputs_in body)) (c.stands.ensures works h).1 (still_read s.journal.format c.deref.result.now body s.waiting c.deref.ensures.value c.self.invariant.0 (shorter s.journal s.waiting body c.self.invariant.1 c.if-self-eq0.false))
    v new (c.append_inputs.ensures.any_moment h))

pub returns-in-Err-clause-idle : goal.returns-in-Err-clause-idle
returns-in-Err-clause-idle g c =
    let s = c.self.inside in
    subst (λ t. t.waiting ≡ [] → c.append_inputs.new.journal ≡ t.journal) c.self.view_is (λ e. absurd (c.if-self-eq0.false (sym (how_many s.body.items s.waiting c.self.invariant.0) ∙ ap length e)))

pub returns-in-Err-clause-any_moment : goal.returns-in-Err-clause-any_moment
returns-in-Err-clause-any_moment g c =
    let s = c.self.inside in
    let v = g.D.Disk.view s.journal.disk in
    let new = g.D.Disk.view c.append_inputs.new.journal.disk in
    let m = g.M.Machine.meaning s.machine in
    let body = s.body.items in
    subst (λ t. t.journal.failed ≡ false → g.D.Disk.honest t.journal.disk → LeavesOnly (g.D.Disk.view t.journal.disk) new (OpensToPrefix (g.M.Machine.meaning t.machine) (opens (g.M.Machine.meaning t.machine) (g.D.Disk.view t.journal.disk).reads) t.waiting)) c.self.view_is
    (λ works h. any_moment m v.reads _ (frame_of s.journal.format s.waiting c.deref.result.now) (or_none (inputs_in body)) (c.stands.ensures works h).1 (still_read s.journal.format c.deref.result.now body s.waiting c.deref.ensures.value c.self.invariant.0 (shorter s.journal s.waiting body c.self.invariant.1 c.if-self-eq0.false))
    v new (c.append_inputs.ensures.any_moment h))

pub returns-then-self-eq0-clause-steady : goal.returns-then-self-eq0-clause-steady
returns-then-self-eq0-clause-steady g c =
    subst (λ t. g.D.Disk.failures c.self.inside.journal.disk ≡ g.D.Disk.failures t.journal.disk) c.self.view_is refl

pub returns-in-Ok-clause-steady : goal.returns-in-Ok-clause-steady
returns-in-Ok-clause-steady g c =
    subst (λ t. g.D.Disk.failures c.append_inputs.new.journal.disk ≡ g.D.Disk.failures t.journal.disk) c.self.view_is c.in-Ok.ensures.counts
