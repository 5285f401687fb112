use Rattle.std.proofs.Common.{◌≡◌, ◌<◌, ◌≤◌, ◌++◌, ◌+◌, ◌∷◌, [], List, ℕ, false, true, inr, refl, rules, sym, ◌∙◌, ap, subst, arith}
use Rattle.std.specs.Prelude.{length}
use Rattle.tks_input.specs.declared.input.Input.{Input}
use Rattle.tks_journal.specs.Moments.{LeavesOnly}
use Rattle.tks_durable.specs.Crash.{OpensToPrefix}
use Rattle.tks_durable.specs.Inputs.{inputs_in}
use Rattle.tks_durable.specs.Opening.{opens}
use Rattle.tks_durable.specs.Refusing.{PostRefused}
use Rattle.tks_durable.specs.Durable.{IsPending, has_room_at, is_full, or_none}
use Rattle.tks_durable.proofs.Crashes.{idle_moments}
use Rattle.tks_durable.proofs.Pending.{one_more, waiting_more}
use Rattle.tks_durable.proofs.Rooms.{full_by_count, full_by_room, post_refused, stands_on}
use Rattle.tks_durable.proofs.durable.Durable.post.Goals as goal

pub invariant_of-self-in-Ok : goal.invariant_of-self-in-Ok
invariant_of-self-in-Ok g c =
    let s = c.self.inside in
    let m = g.M.Machine.meaning s.machine in
    let written = c.in_ok-write_input.ensures.ok in
    let legal = c.in_ok-write_input.ensures.legal in
    let p = c.self.invariant.0 in
    let size : c.len.result ≡ length c.write_input.new.out.items = search rules in (
      subst (λ l. IsPending l (s.waiting + 1)) (sym written) (one_more s.body.items s.waiting c.args.input.now p legal),
      inr (ap (has_room_at s.journal.format s.journal.gate) (sym size) ∙ c.in-Ok.ensures.accepted.0),
      λ works h. stands_on m (opens m (g.D.Disk.view s.journal.disk).reads) (or_none (inputs_in s.body.items)) (or_none (inputs_in c.write_input.new.out.items)) c.args.input.now s.world c.step_in_room-stepped.new.world c.in-Ok.reply
          (ap (λ (l : List ℕ). or_none (inputs_in l)) written ∙ waiting_more s.body.items s.waiting c.args.input.now p legal) (c.self.invariant.2 works h) c.in-Ok.ensures.accepted.1,
      c.self.invariant.3,
      c.in-Ok.ensures.own c.self.invariant.4,
    )

pub returns-then-pending-self-clause-refused : goal.returns-then-pending-self-clause-refused
returns-then-pending-self-clause-refused g c =
    let s = c.self.inside in
    let m = g.M.Machine.meaning s.machine in
    let working : s.journal.failed ≡ false = sym c.has_failed.ensures ∙ c.if-has_failed.false in
    let many : m.pending ≤ s.waiting = omega (arith, c.pending.ensures, c.if-pending-self.true) in
    subst (λ t. (t.journal.failed ≡ false) × (is_full (g.M.Machine.meaning t.machine).pending t.journal t.waiting c.args.input.now ≡ true)) c.self.view_is
    (working, full_by_count m.pending s.journal s.body.items s.waiting c.self.invariant.0 c.args.input.now many)

pub returns-in-Ok-clause-ok : goal.returns-in-Ok-clause-ok
returns-in-Ok-clause-ok g c =
    let s = c.self.inside in
    let m = g.M.Machine.meaning s.machine in
    let next = c.step_in_room-stepped.new.world in
    let p = c.self.invariant.0 in
    let written = c.in_ok-write_input.ensures.ok in
    let working : s.journal.failed ≡ false = sym c.has_failed.ensures ∙ c.if-has_failed.false in
    let few : s.waiting < m.pending = omega (arith, c.pending.ensures, c.if-pending-self.false) in
    let size : c.len.result ≡ length c.write_input.new.out.items = search rules in
    let more = ap (λ (l : List ℕ). or_none (inputs_in l)) written ∙ waiting_more s.body.items s.waiting c.args.input.now p c.in_ok-write_input.ensures.legal in
    subst (λ t. (t.journal.failed ≡ false) × (is_full (g.M.Machine.meaning t.machine).pending t.journal t.waiting c.args.input.now ≡ false)
    × (record { journal = s.journal; machine = s.machine; world = next; waiting = or_none (inputs_in c.write_input.new.out.items); acknowledged = s.acknowledged } ≡ record t { world = next; waiting = t.waiting ++ c.args.input.now ∷ [] })) c.self.view_is (
      working,
      full_by_room m.pending s.journal s.body.items s.waiting p c.args.input.now few c.write_input.new.out.items c.len.result true written size c.in-Ok.ensures.accepted.0,
      ap (λ (w : List Input). record { journal = s.journal; machine = s.machine; world = next; waiting = w; acknowledged = s.acknowledged }) more,
    )

pub returns-in-Err-clause-refused : goal.returns-in-Err-clause-refused
returns-in-Err-clause-refused g c =
    let s = c.self.inside in
    let m = g.M.Machine.meaning s.machine in
    let working : s.journal.failed ≡ false = sym c.has_failed.ensures ∙ c.if-has_failed.false in
    let few : s.waiting < m.pending = omega (arith, c.pending.ensures, c.if-pending-self.false) in
    let size : c.len.result ≡ length c.write_input.new.out.items = search rules in
    let full = full_by_room m.pending s.journal s.body.items s.waiting c.self.invariant.0 c.args.input.now few c.write_input.new.out.items c.len.result (has_room_at s.journal.format s.journal.gate c.len.result) c.in_ok-write_input.ensures.ok size refl in
    subst (λ t. PostRefused (g.M.Machine.meaning t.machine) t c.args.input.now c.in-Err.refused) c.self.view_is
    (post_refused m (record { journal = s.journal; machine = s.machine; world = s.world; waiting = or_none (inputs_in s.body.items); acknowledged = s.acknowledged }) c.args.input.now c.in-Err.refused (has_room_at s.journal.format s.journal.gate c.len.result) working full c.in-Err.ensures.refused)

pub returns-in-Ok-clause-any_moment : goal.returns-in-Ok-clause-any_moment
returns-in-Ok-clause-any_moment g c =
    let s = c.self.inside in
    let m = g.M.Machine.meaning s.machine in
    let v = g.D.Disk.view s.journal.disk in
    subst (λ t. t.journal.failed ≡ false → g.D.Disk.honest t.journal.disk → LeavesOnly (g.D.Disk.view t.journal.disk) v (OpensToPrefix (g.M.Machine.meaning t.machine) (opens (g.M.Machine.meaning t.machine) (g.D.Disk.view t.journal.disk).reads) t.waiting)) c.self.view_is
    (λ works h. idle_moments m v (c.stands.ensures works h).0 (λ i left. g.met.D.Disk.only_now s.journal.disk i h left) (or_none (inputs_in s.body.items)))

pub returns-in-Err-clause-any_moment : goal.returns-in-Err-clause-any_moment
returns-in-Err-clause-any_moment g c =
    let s = c.self.inside in
    let m = g.M.Machine.meaning s.machine in
    let v = g.D.Disk.view s.journal.disk in
    subst (λ t. t.journal.failed ≡ false → g.D.Disk.honest t.journal.disk → LeavesOnly (g.D.Disk.view t.journal.disk) v (OpensToPrefix (g.M.Machine.meaning t.machine) (opens (g.M.Machine.meaning t.machine) (g.D.Disk.view t.journal.disk).reads) t.waiting)) c.self.view_is
    (λ works h. idle_moments m v (c.stands.ensures works h).0 (λ i left. g.met.D.Disk.only_now s.journal.disk i h left) (or_none (inputs_in s.body.items)))
