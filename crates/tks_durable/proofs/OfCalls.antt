-- Calls of a durable machine, one behind the other.
use Rattle.std.proofs.Common.{◌≡◌, ℕ, inl, inr, List, [], ◌∷◌, ◌++◌, length, Option, Result, Ok, Err, refl, sym, ap, ◌∙◌, subst, append_assoc, append-nil}
use Rattle.std.specs.Prelude.{IfErr, IfOk, OnErr, OnOk}
use Rattle.tks_disk.specs.DiskModel.{View, Images}
use Rattle.tks_input.specs.declared.input.Input.{Input}
use Rattle.tks_input.specs.declared.input.Input.TheVariants.{Turn}
use Rattle.tks_input.specs.declared.reply.Refused.{Refused}
use Rattle.tks_input.specs.declared.reply.Reply.{Reply}
use Rattle.tks_journal.specs.Moments.{LeavesOnly}
use Rattle.tks_durable.specs.Calls.{Called, CalledAll, Makes, behind_input, turns, well}
use Rattle.tks_durable.specs.Crash.{AllOpenTo, OpensToPrefix, Stands}
use Rattle.tks_durable.specs.Draining.{DrainsSo, StopsSo, TurnsTo, turned}
use Rattle.tks_durable.specs.Durable.{DurableState}
use Rattle.tks_durable.specs.Lives.{LeavesPrefixes, Lives}
use Rattle.tks_durable.specs.Machine.{Meaning, accepts}
use Rattle.tks_durable.specs.Opening.{opens}
use Rattle.tks_durable.specs.Refusing.{PostRefused}
use Rattle.tks_durable.specs.declared.calls.Call.{Call}
use Rattle.tks_durable.specs.declared.calls.Call.TheVariants.{Post, Drain, Checkpoint}
use Rattle.tks_durable.specs.declared.fault.SessionFault.{SessionFault}
use Rattle.tks_durable.proofs.Lives.{leaves_idle, leaves_then, lives_committed, lives_idle, lives_then}

module _ {D M W : Type 0} (m : Meaning W) (failures : D → ℕ) (view : D → View) where
  -- ---- turns

  turns_wait : (replies : List Reply) (old new : DurableState D M W) → TurnsTo m old replies new → new.waiting ≡ old.waiting ++ turns (length replies)
  turns_wait [] old new is = ap (λ s. s.waiting) is ∙ sym (append-nil old.waiting)
  turns_wait (reply ∷ replies) old new is = turns_wait replies (turned old is.0) new is.2 ∙ append_assoc old.waiting (Turn ∷ []) (turns (length replies))

  turns_same : (replies : List Reply) (old new : DurableState D M W) → TurnsTo m old replies new → (new.journal ≡ old.journal) × (new.machine ≡ old.machine)
  turns_same [] old new is = (ap (λ s. s.journal) is, ap (λ s. s.machine) is)
  turns_same (reply ∷ replies) old new is = turns_same replies (turned old is.0) new is.2

  -- ---- one call

  one_called : (call : Call) (old new : DurableState D M W) (accepted : List Input) → Called m failures call old new accepted well → CalledAll m failures (call ∷ []) old new accepted well
  one_called call old new accepted is = inl (new, accepted, [], is, (refl, refl), sym (append-nil accepted))

  -- one that calls no disk
  module _ (old new : DurableState D M W) (all : AllOpenTo m (view old.journal.disk) (opens m (view old.journal.disk).reads))
      (only_now : (i : Images) → (view old.journal.disk).left_since (view old.journal.disk).clock i → (view old.journal.disk).may_leave i) where
    idle : (call : Call) (accepted : List Input) → Called m failures call old new accepted well → new.journal ≡ old.journal → new.waiting ≡ old.waiting ++ accepted
        → Makes m failures view (call ∷ []) old new well
    idle call accepted called same waits = record {
      accepted = accepted;
      called = one_called call old new accepted called;
      moments = leaves_idle m view old new same all only_now accepted;
      lives = lives_idle m view old new same all only_now accepted waits;
    }

    unchanged : (call : Call) → Called m failures call old new [] well → new ≡ old → Makes m failures view (call ∷ []) old new well
    unchanged call called same = idle call [] called (ap (λ s. s.journal) same) (ap (λ s. s.waiting) same ∙ sym (append-nil old.waiting))

    -- an input
    pub posted : (P Q : Type 0) (input : Input) (result : Result Reply Refused) → IfOk result (λ reply. m.step old.world input ≡ accepts new.world reply)
        → OnOk result (P × Q × (new ≡ behind_input m failures old input new.world)) → IfErr result (λ why. PostRefused m old input why) → OnErr result (new ≡ old)
        → Makes m failures view (Post input ∷ []) old new well
    posted P Q input (Ok reply) accepted so refused same = idle (Post input) (input ∷ []) (inl (reply, accepted, so.2, refl)) (ap (λ s. s.journal) so.2) (ap (λ s. s.waiting) so.2)
    posted P Q input (Err why) accepted so refused same = unchanged (Post input) (inr (why, refused, same, refl)) same

    -- turns
    pub drained : {F : Type 0} (tells : F → Reply → F → Type 0) (told told' : F) (n done : ℕ) (ended : Option Refused) → DrainsSo tells m old new told told' n done ended
        → Makes m failures view (Drain n ∷ []) old new well
    drained tells told told' n done ended is =
        let stops : StopsSo m new n (length is.replies) ended = subst (λ k. StopsSo m new n k ended) (sym is.count) is.stops in
        idle (Drain n) (turns (length is.replies)) (is.replies, ended, is.leads, stops, refl) (turns_same is.replies old new is.leads).0 (turns_wait is.replies old new is.leads)

    -- a checkpoint that isn't made
    pub not_made : new ≡ old → Makes m failures view (Checkpoint ∷ []) old new well
    not_made same = unchanged Checkpoint (inr same, refl) same

  pub drained_same : {F : Type 0} (tells : F → Reply → F → Type 0) (old new : DurableState D M W) (told told' : F) (n done : ℕ) (ended : Option Refused) → DrainsSo tells m old new told told' n done ended
      → (new.journal ≡ old.journal) × (new.machine ≡ old.machine)
  drained_same tells old new told told' n done ended is = turns_same is.replies old new is.leads

  -- one that calls the disk
  module _ (old new : DurableState D M W) (call : Call)
      (moments : LeavesOnly (view old.journal.disk) (view new.journal.disk) (OpensToPrefix m (opens m (view old.journal.disk).reads) old.waiting)) where
    leaves : LeavesPrefixes m view old new []
    leaves = subst (λ l. LeavesOnly (view old.journal.disk) (view new.journal.disk) (OpensToPrefix m (opens m (view old.journal.disk).reads) l)) (sym (append-nil old.waiting)) moments

    -- all that waited was put on the disk
    pub stored : Called m failures call old new [] well → new.world ≡ old.world → new.waiting ≡ [] → Stands m (view old.journal.disk) old.waiting old.world
        → opens m (view new.journal.disk).reads ≡ Ok new.world → Makes m failures view (call ∷ []) old new well
    stored called world none stands opens_so = record {
      accepted = [];
      called = one_called call old new [] called;
      moments = leaves;
      lives = lives_committed m view old new leaves none world stands opens_so;
    }

  -- ---- calls, one behind the other

  pub none_made : (old : DurableState D M W) (all : AllOpenTo m (view old.journal.disk) (opens m (view old.journal.disk).reads))
      (only_now : (i : Images) → (view old.journal.disk).left_since (view old.journal.disk).clock i → (view old.journal.disk).may_leave i) → Makes m failures view [] old old well
  none_made old all only_now = record {
    accepted = [];
    called = (refl, refl);
    moments = leaves_idle m view old old refl all only_now [];
    lives = lives_idle m view old old refl all only_now [] (sym (append-nil old.waiting));
  }

  -- the one call of a list
  only_called : (call : Call) (old new : DurableState D M W) (accepted : List Input) → CalledAll m failures (call ∷ []) old new accepted well → Called m failures call old new accepted well
  only_called call old new accepted (inl is) =
      let first = is.1 in
      let same : new ≡ is.0 = is.4.0 in
      let all : first ≡ accepted = sym (append-nil first) ∙ ap (λ l. first ++ l) (sym is.4.1) ∙ sym is.5 in
      subst (λ s. Called m failures call old s accepted well) (sym same) (subst (λ l. Called m failures call old is.0 l well) all is.3)
  only_called call old new accepted (inr is) = absurd is

  module _ (call : Call) (calls : List Call) (old : DurableState D M W) where
    pub one_then : (mid new : DurableState D M W) (result : Result (Unit {0}) SessionFault) → Makes m failures view (call ∷ []) old mid well → Makes m failures view calls mid new result
        → Makes m failures view (call ∷ calls) old new result
    one_then mid new result first others = record {
      accepted = first.accepted ++ others.accepted;
      called = inl (mid, first.accepted, others.accepted, only_called call old mid first.accepted first.called, others.called, refl);
      moments = leaves_then m view old mid first.accepted first.lives new others.accepted others.moments;
      lives = by result others.lives;
    }
      where
        by : (r : Result (Unit {0}) SessionFault) → OnOk r (Lives m view mid new others.accepted) → OnOk r (Lives m view old new (first.accepted ++ others.accepted))
        by (Ok done) lives = lives_then m view old mid first.accepted first.lives new others.accepted lives
        by (Err why) lives = tt
