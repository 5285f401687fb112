-- What any calls of a session leave.
use Rattle.std.proofs.Common.{◌≡◌, ◌+◌, ◌⊎◌, ℕ, inl, inr, List, [], ◌∷◌, ◌++◌, length, Option, Some, None, Result, Ok, Err, sym, ◌∙◌, ap, append_assoc, length-append, arith}
use Rattle.std.specs.Prelude.{OnOk}
use Rattle.tks_text.specs.declared.limits.Limits.{Limits}
use Rattle.tks_disk.specs.DiskModel.{Images, View}
use Rattle.tks_input.specs.declared.input.Input.{Input}
use Rattle.tks_input.specs.declared.reply.Reply.{Reply}
use Rattle.tks_input.specs.declared.reply.Refused.{Refused}
use Rattle.tks_input.specs.declared.reply.Refused.TheVariants.{BadInput, ClockBack, PendingFull, Budget, Depth, TooLarge, NoMemory, Quiet, Failed}
use Rattle.tks_app.specs.Applications.{Application}
use Rattle.tks_durable.specs.Calls.{Called, CalledAll, Makes}
use Rattle.tks_durable.specs.Draining.{StopsSo, TurnsTo, turned}
use Rattle.tks_durable.specs.Durable.{CheckpointFails, CommitFails, DurableState}
use Rattle.tks_durable.specs.Lives as life
use Rattle.tks_durable.specs.Machine.{Meaning}
use Rattle.tks_durable.specs.Opening.{run}
use Rattle.tks_durable.specs.Refusing.{PostRefused, Tried}
use Rattle.tks_durable.specs.declared.calls.Call.{Call}
use Rattle.tks_durable.specs.declared.calls.Call.TheVariants.{Post, Drain, Commit, Checkpoint}
use Rattle.tks_durable.specs.declared.fault.SessionFault.{SessionFault}
use Rattle.tks_durable.specs.declared.fault.SessionFault.TheVariants as fault
use Rattle.tks_durable.proofs.Runs.{run_on}
use Rattle.tks_state.specs.World.{World}
use Rattle.tks_session.specs.Crash.{KeepsAcknowledged, Leads, LeavesPrefixes, Lives, OpensToCount, opens}
use Rattle.tks_session.specs.Sessions.{Made, SessionState, Setting, seen_as, terminal_in}
use Rattle.tks_session.proofs.Leads.{runs_lead}
use Rattle.tks_session.proofs.Steps.{counted}

-- ---- behind a crash

-- an input more is counted
leads_count : (app : Application) (limits : Limits) (old : World) (inputs : List Input) (new : World) → Leads app limits old inputs new → new.accepted ≡ old.accepted + length inputs
leads_count app limits old [] new is = omega (arith, ap (λ (w : World). w.accepted) is)
leads_count app limits old (input ∷ inputs) new is =
    omega (arith, counted app limits old is.0 input is.1 is.2, leads_count app limits is.0 inputs new is.3)

module _ {D : Type 0} (setting : Setting) (view : D → View) (start mid new : SessionState D) (first second : List Input) (images : Images) (world : World)
    (opened : opens setting (view start.journal.disk).reads ≡ Ok start.world) (none : start.waiting ≡ []) (lives : Lives setting view start mid first)
    (at : OpensToCount setting (view mid.journal.disk).reads mid.acknowledged) (leaves : LeavesPrefixes setting view mid new second)
    (left : (view new.journal.disk).left_since (view mid.journal.disk).clock images) (opens_so : opens setting images ≡ Ok world) where
  pub holds : KeepsAcknowledged setting start.world (first ++ second) mid.acknowledged world
  holds =
      let m = terminal_in setting in
      let some = leaves.each images left in
      let stored = lives.stored in
      let reads : opens setting (view mid.journal.disk).reads ≡ run m (Ok start.world) stored = lives.reads ∙ ap (λ s. run m s stored) opened in
      let to_mid : Leads setting.app setting.limits start.world stored at.world = runs_lead setting.app setting.limits setting.grid stored start.world at.world (sym reads ∙ at.opened) in
      let firsts : first ≡ stored ++ mid.waiting = ap (λ l. l ++ first) (sym none) ∙ lives.parts in
      let all = stored ++ some.prefix in
      let to_world : run m (Ok start.world) all ≡ Ok world = run_on m (Ok start.world) stored some.prefix ∙ ap (λ s. run m s some.prefix) (sym reads) ∙ sym some.leaves ∙ opens_so in
      record {
        prefix = all;
        others = some.others;
        parts = ap (λ l. l ++ second) firsts ∙ append_assoc stored mid.waiting second ∙ ap (λ l. stored ++ l) some.parts ∙ sym (append_assoc stored some.prefix some.others);
        leads = runs_lead setting.app setting.limits setting.grid all start.world world to_world;
        holds = omega (arith, at.counted, leads_count setting.app setting.limits start.world stored at.world to_mid, length-append stored some.prefix);
      }

-- ---- calls of the machine are calls of the session

module _ {D M : Type 0} (m : Meaning World) (failures : D → ℕ) (made : Made) where
  -- what is seen of it
  abbrev seen : DurableState D M World → SessionState D
  seen = seen_as made

  tried_seen : (s : DurableState D M World) (input : Input) (why : Refused) → Tried m s input why → Tried m (seen s) input why
  tried_seen s input why is = record { working = is.working; room = is.room; refused = is.refused }

  refused_seen : (s : DurableState D M World) (input : Input) (why : Refused) → PostRefused m s input why → PostRefused m (seen s) input why
  refused_seen s input Failed is = is
  refused_seen s input PendingFull is = is
  refused_seen s input NoMemory is = is
  refused_seen s input BadInput is = tried_seen s input BadInput is
  refused_seen s input ClockBack is = tried_seen s input ClockBack is
  refused_seen s input Budget is = tried_seen s input Budget is
  refused_seen s input Depth is = tried_seen s input Depth is
  refused_seen s input TooLarge is = tried_seen s input TooLarge is
  refused_seen s input Quiet is = tried_seen s input Quiet is

  turns_seen : (replies : List Reply) (old new : DurableState D M World) → TurnsTo m old replies new → TurnsTo m (seen old) replies (seen new)
  turns_seen [] old new is = ap seen is
  turns_seen (reply ∷ replies) old new is = (is.0, record { working = is.1.working; room = is.1.room; accepted = is.1.accepted }, turns_seen replies (turned old is.0) new is.2)

  stops_seen : (s : DurableState D M World) (turns done : ℕ) (ended : Option Refused) → StopsSo m s turns done ended → StopsSo m (seen s) turns done ended
  stops_seen s turns done None is = is
  stops_seen s turns done (Some why) is = (is.0, is.1, refused_seen s _ why is.2)

  commit_fails_seen : (old new : DurableState D M World) (before after : ℕ) (why : SessionFault) → CommitFails old new before after why → CommitFails (seen old) (seen new) before after why
  commit_fails_seen old new before after fault.Failed is = (is.0, ap seen is.1)
  commit_fails_seen old new before after fault.Disk is = (is.0, ap seen is.1)
  commit_fails_seen old new before after fault.TooLarge is = is
  commit_fails_seen old new before after fault.NoMemory is = is
  commit_fails_seen old new before after fault.Damaged is = is
  commit_fails_seen old new before after fault.OtherCommands is = is
  commit_fails_seen old new before after fault.OtherGrid is = is
  commit_fails_seen old new before after fault.SmallerLimits is = is
  commit_fails_seen old new before after fault.Version is = is

  checkpoint_fails_seen : (old new : DurableState D M World) (before after : ℕ) (why : SessionFault) → CheckpointFails m old new before after why → CheckpointFails m (seen old) (seen new) before after why
  checkpoint_fails_seen old new before after fault.Failed is = (is.0, ap seen is.1)
  checkpoint_fails_seen old new before after fault.Disk is = (is.0, ap seen is.1)
  checkpoint_fails_seen old new before after fault.TooLarge is = (is.0, ap seen is.1)
  checkpoint_fails_seen old new before after fault.NoMemory is = ap seen is
  checkpoint_fails_seen old new before after fault.Damaged is = is
  checkpoint_fails_seen old new before after fault.OtherCommands is = is
  checkpoint_fails_seen old new before after fault.OtherGrid is = is
  checkpoint_fails_seen old new before after fault.SmallerLimits is = is
  checkpoint_fails_seen old new before after fault.Version is = is

  called_seen : (call : Call) (old new : DurableState D M World) (accepted : List Input) (r : Result (Unit {0}) SessionFault) → Called m failures call old new accepted r
      → Called m failures call (seen old) (seen new) accepted r
  called_seen (Post input) old new accepted (Ok done) (inl is) = inl (is.0, is.1, ap seen is.2, is.3)
  called_seen (Post input) old new accepted (Ok done) (inr is) = inr (is.0, refused_seen old input is.0 is.1, ap seen is.2, is.3)
  called_seen (Drain n) old new accepted (Ok done) is = (is.0, is.1, turns_seen is.0 old new is.2, stops_seen new n (length is.0) is.1 is.3, is.4)
  called_seen Commit old new accepted (Ok done) is = (ap seen is.0, is.1)
  called_seen Checkpoint old new accepted (Ok done) is = (by is.0, is.1)
    where
      by : {B : DurableState D M World} → (new ≡ B) ⊎ (new ≡ old) → (seen new ≡ seen B) ⊎ (seen new ≡ seen old)
      by (inl so) = inl (ap seen so)
      by (inr so) = inr (ap seen so)
  called_seen (Post input) old new accepted (Err why) is = is
  called_seen (Drain n) old new accepted (Err why) is = is
  called_seen Commit old new accepted (Err why) is = (commit_fails_seen old new _ _ why is.0, is.1)
  called_seen Checkpoint old new accepted (Err why) is = (checkpoint_fails_seen old new _ _ why is.0, is.1)

  all_called_seen : (calls : List Call) (old new : DurableState D M World) (accepted : List Input) (r : Result (Unit {0}) SessionFault) → CalledAll m failures calls old new accepted r
      → CalledAll m failures calls (seen old) (seen new) accepted r
  all_called_seen [] old new accepted (Ok done) is = (ap seen is.0, is.1)
  all_called_seen [] old new accepted (Err why) is = is
  all_called_seen (call ∷ calls) old new accepted r (inl is) = inl (seen is.0, is.1, is.2, called_seen call old is.0 is.1 _ is.3, all_called_seen calls is.0 new is.2 r is.4, is.5)
  all_called_seen (call ∷ calls) old new accepted (Ok done) (inr is) = absurd is
  all_called_seen (call ∷ calls) old new accepted (Err why) (inr is) = inr (called_seen call old new accepted _ is)

  pub makes_seen : (view : D → View) (calls : List Call) (old new : DurableState D M World) (r : Result (Unit {0}) SessionFault) → Makes m failures view calls old new r
      → Makes m failures view calls (seen old) (seen new) r
  makes_seen view calls old new r is = record {
    accepted = is.accepted;
    called = all_called_seen calls old new is.accepted r is.called;
    moments = is.moments;
    lives = by r is.lives;
  }
    where
      by : (r : Result (Unit {0}) SessionFault) → OnOk r (life.Lives m view old new is.accepted) → OnOk r (life.Lives m view (seen old) (seen new) is.accepted)
      by (Ok done) l = record { moments = l.moments; stored = l.stored; parts = l.parts; reads = l.reads }
      by (Err why) l = tt
