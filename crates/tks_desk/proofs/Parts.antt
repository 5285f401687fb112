-- Parts of a run, one behind the other: what they leave of the session.
use Rattle.std.proofs.Common.{◌≡◌, ◌↔◌, ◌<◌, ℕ, List, [], ◌++◌, true, false, Option, Result, Ok, Err, refl, sym, ap, ◌∙◌, subst, append-nil, true≢false}
use Rattle.tks_disk.specs.DiskModel.{View, Images}
use Rattle.tks_input.specs.declared.input.Input.{Input}
use Rattle.tks_journal.specs.Moments.{LeavesOnly}
use Rattle.tks_app.specs.Applications.{Meaning}
use Rattle.tks_durable.specs.Durable.{CheckpointFails, CommitFails, failed_with}
use Rattle.tks_durable.specs.declared.fault.SessionFault.{SessionFault}
use Rattle.tks_durable.specs.declared.fault.SessionFault.TheVariants as session
use Rattle.tks_durable.proofs.Lives.{lives_idle, lives_then, lives_committed}
use Rattle.tks_session.specs.Crash.{AllOpenTo, LeavesPrefixes, Lives, OpensToPrefix, Stands, opens}
use Rattle.tks_session.specs.Refusing.{PostRefused}
use Rattle.tks_session.specs.Sessions.{SessionState, Setting, setting_of, terminal_in}
use Rattle.tks_input.specs.declared.reply.Refused.{Refused}
use Rattle.tks_input.specs.declared.reply.Refused.TheVariants.{BadInput, ClockBack, PendingFull, Budget, Depth, TooLarge, NoMemory, Quiet, Failed}
use Rattle.tks_desk.specs.Answers.{CheckpointFaultSo, RefusalSo, large_line, memory_line, refusal_line}
use Rattle.tks_desk.specs.Reading.{InReading}
use Rattle.tks_desk.specs.Writing.{WritesSo}
use Rattle.tks_desk.specs.Running.{Dies, FailsSo, Fares, Runs, Survives, Works}
use Rattle.tks_desk.specs.declared.ending.RunFault.{RunFault}
use Rattle.tks_desk.specs.declared.ending.RunFault.TheVariants as fault

-- an end well, and a fault
abbrev pub done_as : (A : Type 0) → A → Result A RunFault
done_as A a = Ok a

abbrev pub failed_as : (A : Type 0) → RunFault → Result A RunFault
failed_as A why = Err why

module _ {D : Type 0} (meaning : Meaning) (honest : D → Type 0) (view : D → View) (failures : D → ℕ) where
  -- all that a crash now may leave opens to what is read
  abbrev pub OpensNow : SessionState D → Type 0
  OpensNow s = s.journal.failed ≡ false → honest s.journal.disk → AllOpenTo (setting_of meaning s.machine) (view s.journal.disk) (opens (setting_of meaning s.machine) (view s.journal.disk).reads)

  -- since this moment there is no other
  abbrev pub OnlyNow : Type 0
  OnlyNow = (d : D) (i : Images) → honest d → (view d).left_since (view d).clock i → (view d).may_leave i

  -- the same part of a run, of which something else is said
  module _ {A B : Type 0} (old new : SessionState D) (says says' : List Input → Type 0) (so : (accepted : List Input) → says accepted → says' accepted) where
    pub ok_again : (a : A) (b : B) → Runs meaning honest view failures (done_as A a) old new says → Runs meaning honest view failures (done_as B b) old new says'
    ok_again a b r = record { accepted = r.accepted; told = so r.accepted r.told; machine = r.machine; fares = r.fares; honesty = r.honesty; survives = r.survives }

    pub err_again : (why : RunFault) → Runs meaning honest view failures (failed_as A why) old new says → Runs meaning honest view failures (failed_as B why) old new says'
    err_again fault.Read r = record { accepted = r.accepted; told = so r.accepted r.told; machine = r.machine; fares = r.fares; honesty = r.honesty; survives = r.survives }
    err_again fault.Write r = record { accepted = r.accepted; told = so r.accepted r.told; machine = r.machine; fares = r.fares; honesty = r.honesty; survives = r.survives }
    err_again fault.Memory r = record { accepted = r.accepted; told = so r.accepted r.told; machine = r.machine; fares = r.fares; honesty = r.honesty; survives = r.survives }
    err_again (fault.Session why) r = record { accepted = r.accepted; told = so r.accepted r.told; machine = r.machine; fares = r.fares; honesty = r.honesty; survives = r.survives }

  -- ---- a part in which the disk isn't called

  module _ (old new : SessionState D) (accepted : List Input) (same : new.journal ≡ old.journal) (machine : new.machine ≡ old.machine) (waits : new.waiting ≡ old.waiting ++ accepted)
      (all : OpensNow old) (only_now : OnlyNow) where
    works : Works failures old new
    works = record { as_before = ap (λ j. j.failed) same; steady = ap (λ j. failures j.disk) same }

    honesty : honest old.journal.disk ↔ honest new.journal.disk
    honesty = (λ h. subst (λ j. honest j.disk) (sym same) h, λ h. subst (λ j. honest j.disk) same h)

    lives : old.journal.failed ≡ false → honest old.journal.disk → Lives (setting_of meaning old.machine) view old new accepted
    lives working h = lives_idle (terminal_in (setting_of meaning old.machine)) view old new same (all working h) (λ i left. only_now old.journal.disk i h left) accepted waits

    module _ {A : Type 0} (says : List Input → Type 0) (told : says accepted) where
      pub ok_idle : (a : A) → Runs meaning honest view failures (done_as A a) old new says
      ok_idle a = record { accepted = accepted; told = told; machine = machine; fares = works; honesty = honesty; survives = lives }

      pub read_idle : (why : RunFault) → InReading why → Runs meaning honest view failures (failed_as A why) old new says
      read_idle fault.Read is = record { accepted = accepted; told = told; machine = machine; fares = works; honesty = honesty; survives = lives }
      read_idle fault.Memory is = record { accepted = accepted; told = told; machine = machine; fares = works; honesty = honesty; survives = lives }
      read_idle fault.Write is = absurd is
      read_idle (fault.Session why) is = absurd is

    write_failed : (says : List Input → Type 0) → says accepted → Runs meaning honest view failures (failed_as (Unit {0}) fault.Write) old new says
    write_failed says told = record { accepted = accepted; told = told; machine = machine; fares = works; honesty = honesty; survives = lives }

    -- something was written
    pub written : (result : Result (Unit {0}) RunFault) (before after : Option (List ℕ)) (bytes : List ℕ) (says : List Input → Type 0)
        → WritesSo result before after bytes → says accepted → Runs meaning honest view failures result old new says
    written (Ok done) before after bytes says writes told = ok_idle says told done
    written (Err why) before after bytes says writes told =
        subst (λ w. Runs meaning honest view failures (failed_as (Unit {0}) w) old new says) (sym writes.0) (write_failed says told)

  -- a call that found the session failed
  pub had_failed : (old new : SessionState D) (says : List Input → Type 0) → new ≡ old → old.journal.failed ≡ true → says []
      → Runs meaning honest view failures (failed_as (Unit {0}) (fault.Session session.Failed)) old new says
  had_failed old new says same failed told = record {
    accepted = [];
    told = told;
    machine = ap (λ s. s.machine) same;
    fares = (failed, ap (λ s. failures s.journal.disk) same);
    honesty = (λ h. subst (λ s. honest s.journal.disk) (sym same) h, λ h. subst (λ s. honest s.journal.disk) same h);
    survives = λ working h. absurd (true≢false (sym failed ∙ working));
  }

  -- a refusal
  module _ (old new : SessionState D) (input : Input) (same : new ≡ old) (all : OpensNow old) (only_now : OnlyNow)
      (result : Result (Unit {0}) RunFault) (before after : Option (List ℕ)) (says : List Input → Type 0) (told : says []) where
    told_so : (why : Refused) → WritesSo result before after (refusal_line why) → Runs meaning honest view failures result old new says
    told_so why writes =
        written old new [] (ap (λ s. s.journal) same) (ap (λ s. s.machine) same) (ap (λ s. s.waiting) same ∙ sym (append-nil old.waiting)) all only_now result before after (refusal_line why) says writes told

    pub refused_part : (why : Refused) → PostRefused (setting_of meaning old.machine) old input why → RefusalSo why result before after → Runs meaning honest view failures result old new says
    refused_part Failed is writes = subst (λ r. Runs meaning honest view failures r old new says) (sym writes.0) (had_failed old new says same is told)
    refused_part BadInput is writes = told_so BadInput writes
    refused_part ClockBack is writes = told_so ClockBack writes
    refused_part PendingFull is writes = told_so PendingFull writes
    refused_part Budget is writes = told_so Budget writes
    refused_part Depth is writes = told_so Depth writes
    refused_part TooLarge is writes = told_so TooLarge writes
    refused_part NoMemory is writes = told_so NoMemory writes
    refused_part Quiet is writes = told_so Quiet writes

  -- ---- a commit

  -- no commit changes the machine
  pub same_machine : (old new : SessionState D) (m n : ℕ) (why : SessionFault) → CommitFails old new m n why → new.machine ≡ old.machine
  same_machine old new m n session.Failed is = ap (λ s. s.machine) is.1
  same_machine old new m n session.Disk is = ap (λ s. s.machine) is.1
  same_machine old new m n session.TooLarge is = absurd is
  same_machine old new m n session.NoMemory is = absurd is
  same_machine old new m n session.Damaged is = absurd is
  same_machine old new m n session.OtherCommands is = absurd is
  same_machine old new m n session.OtherGrid is = absurd is
  same_machine old new m n session.SmallerLimits is = absurd is
  same_machine old new m n session.Version is = absurd is

  module _ (old new : SessionState D) (machine : new.machine ≡ old.machine) (honesty : honest old.journal.disk ↔ honest new.journal.disk)
      (moments : old.journal.failed ≡ false → honest old.journal.disk
      → LeavesOnly (view old.journal.disk) (view new.journal.disk) (OpensToPrefix (setting_of meaning old.machine) (opens (setting_of meaning old.machine) (view old.journal.disk).reads) old.waiting)) where
    leaves : old.journal.failed ≡ false → honest old.journal.disk → LeavesPrefixes (setting_of meaning old.machine) view old new []
    leaves working h = subst (λ l. LeavesOnly (view old.journal.disk) (view new.journal.disk) (OpensToPrefix (setting_of meaning old.machine) (opens (setting_of meaning old.machine) (view old.journal.disk).reads) l)) (sym (append-nil old.waiting)) (moments working h)

    module _ (world : new.world ≡ old.world) (none : new.waiting ≡ []) (works : Works failures old new)
        (stands : old.journal.failed ≡ false → honest old.journal.disk → Stands (setting_of meaning old.machine) (view old.journal.disk) old.waiting old.world)
        (opens_so : honest old.journal.disk → AllOpenTo (setting_of meaning old.machine) (view new.journal.disk) (Ok new.world))
        (stays : (d : D) → honest d → (view d).may_leave (view d).reads) where
      lives_on : old.journal.failed ≡ false → honest old.journal.disk → Lives (setting_of meaning old.machine) view old new []
      lives_on working h =
          lives_committed (terminal_in (setting_of meaning old.machine)) view old new (leaves working h) none world (stands working h)
          (opens_so h (view new.journal.disk).reads (stays new.journal.disk (honesty.0 h)))

      committed_failed : (says : List Input → Type 0) → says [] → Runs meaning honest view failures (failed_as (Unit {0}) fault.Write) old new says
      committed_failed says told = record { accepted = []; told = told; machine = machine; fares = works; honesty = honesty; survives = lives_on }

      pub committed_written : (result : Result (Unit {0}) RunFault) (before after : Option (List ℕ)) (bytes : List ℕ) (says : List Input → Type 0)
          → WritesSo result before after bytes → says [] → Runs meaning honest view failures result old new says
      committed_written (Ok done) before after bytes says writes told = record { accepted = []; told = told; machine = machine; fares = works; honesty = honesty; survives = lives_on }
      committed_written (Err why) before after bytes says writes told =
          subst (λ w. Runs meaning honest view failures (failed_as (Unit {0}) w) old new says) (sym writes.0) (committed_failed says told)

    pub commit_failed : (why : SessionFault) (says : List Input → Type 0) → CommitFails old new (failures old.journal.disk) (failures new.journal.disk) why → says [] → OpensNow old → OnlyNow
        → Runs meaning honest view failures (failed_as (Unit {0}) (fault.Session why)) old new says
    commit_failed session.Failed says is told all only_now = had_failed old new says is.1 is.0 told
    commit_failed session.Disk says is told all only_now = record {
      accepted = [];
      told = told;
      machine = machine;
      fares = (ap (λ s. s.journal.failed) is.1, is.0);
      honesty = honesty;
      survives = λ working h. record {
        last = old;
        lives = lives_idle (terminal_in (setting_of meaning old.machine)) view old old refl (all working h) (λ i left. only_now old.journal.disk i h left) [] (sym (append-nil old.waiting));
        leaves = leaves working h;
        waits = ap (λ s. s.waiting) is.1;
      };
    }
    commit_failed session.TooLarge says is told all only_now = absurd is
    commit_failed session.NoMemory says is told all only_now = absurd is
    commit_failed session.Damaged says is told all only_now = absurd is
    commit_failed session.OtherCommands says is told all only_now = absurd is
    commit_failed session.OtherGrid says is told all only_now = absurd is
    commit_failed session.SmallerLimits says is told all only_now = absurd is
    commit_failed session.Version says is told all only_now = absurd is

  -- ---- a checkpoint

  -- no checkpoint changes the machine
  pub made_same : (old new : SessionState D) (m n : ℕ) (why : SessionFault) → CheckpointFails (terminal_in (setting_of meaning old.machine)) old new m n why → new.machine ≡ old.machine
  made_same old new m n session.Failed is = ap (λ s. s.machine) is.1
  made_same old new m n session.Disk is = ap (λ s. s.machine) is.1
  made_same old new m n session.TooLarge is = ap (λ s. s.machine) is.1
  made_same old new m n session.NoMemory is = ap (λ s. s.machine) is
  made_same old new m n session.Damaged is = absurd is
  made_same old new m n session.OtherCommands is = absurd is
  made_same old new m n session.OtherGrid is = absurd is
  made_same old new m n session.SmallerLimits is = absurd is
  made_same old new m n session.Version is = absurd is

  module _ (old new : SessionState D) (honesty : honest old.journal.disk ↔ honest new.journal.disk)
      (moments : old.journal.failed ≡ false → honest old.journal.disk
      → LeavesOnly (view old.journal.disk) (view new.journal.disk) (OpensToPrefix (setting_of meaning old.machine) (opens (setting_of meaning old.machine) (view old.journal.disk).reads) old.waiting))
      (all : OpensNow old) (only_now : OnlyNow) (result : Result (Unit {0}) RunFault) (before after : Option (List ℕ)) (says : List Input → Type 0) (told : says []) where
    same_told : (line : List ℕ) → new ≡ old → WritesSo result before after line → Runs meaning honest view failures result old new says
    same_told line same writes =
        written old new [] (ap (λ s. s.journal) same) (ap (λ s. s.machine) same) (ap (λ s. s.waiting) same ∙ sym (append-nil old.waiting)) all only_now result before after line says writes told

    device_failed : (failures old.journal.disk < failures new.journal.disk) × (new ≡ record old { journal = failed_with old.journal new.journal.disk }) → Runs meaning honest view failures (failed_as (Unit {0}) (fault.Session session.Disk)) old new says
    device_failed is = record {
      accepted = [];
      told = told;
      machine = ap (λ s. s.machine) is.1;
      fares = (ap (λ s. s.journal.failed) is.1, is.0);
      honesty = honesty;
      survives = λ working h. record {
        last = old;
        lives = lives_idle (terminal_in (setting_of meaning old.machine)) view old old refl (all working h) (λ i left. only_now old.journal.disk i h left) [] (sym (append-nil old.waiting));
        leaves = leaves old new (ap (λ s. s.machine) is.1) honesty moments working h;
        waits = ap (λ s. s.waiting) is.1;
      };
    }

    pub checkpoint_part : (why : SessionFault) → CheckpointFails (terminal_in (setting_of meaning old.machine)) old new (failures old.journal.disk) (failures new.journal.disk) why
        → CheckpointFaultSo why result before after → Runs meaning honest view failures result old new says
    checkpoint_part session.TooLarge is so = same_told large_line is.1 so
    checkpoint_part session.NoMemory is so = same_told memory_line is so
    checkpoint_part session.Failed is so = subst (λ r. Runs meaning honest view failures r old new says) (sym so.0) (had_failed old new says is.1 is.0 told)
    checkpoint_part session.Disk is so = subst (λ r. Runs meaning honest view failures r old new says) (sym so.0) (device_failed is)
    checkpoint_part session.Damaged is so = absurd is
    checkpoint_part session.OtherCommands is so = absurd is
    checkpoint_part session.OtherGrid is so = absurd is
    checkpoint_part session.SmallerLimits is so = absurd is
    checkpoint_part session.Version is so = absurd is

  -- ---- one part behind another

  module _ {A : Type 0} (a : A) (old mid new : SessionState D) (says : List Input → Type 0) (first : Runs meaning honest view failures (done_as A a) old mid says) where
    works_then : Works failures mid new → Works failures old new
    works_then next = record { as_before = next.as_before ∙ first.fares.as_before; steady = next.steady ∙ first.fares.steady }

    fails_then : (why : SessionFault) → FailsSo failures why mid new → FailsSo failures why old new
    fails_then session.Failed next = (sym first.fares.as_before ∙ next.0, next.1 ∙ first.fares.steady)
    fails_then session.Disk next = (next.0, subst (λ n. n < failures new.journal.disk) first.fares.steady next.1)
    fails_then session.TooLarge next = absurd next
    fails_then session.NoMemory next = absurd next
    fails_then session.Damaged next = absurd next
    fails_then session.OtherCommands next = absurd next
    fails_then session.OtherGrid next = absurd next
    fails_then session.SmallerLimits next = absurd next
    fails_then session.Version next = absurd next

    fares_then : {B : Type 0} (result : Result B RunFault) → Fares failures result mid new → Fares failures result old new
    fares_then (Ok b) next = works_then next
    fares_then (Err fault.Read) next = works_then next
    fares_then (Err fault.Write) next = works_then next
    fares_then (Err fault.Memory) next = works_then next
    fares_then (Err (fault.Session why)) next = fails_then why next

    module _ (setting : Setting) (life : Lives setting view old mid first.accepted) (second : List Input) where
      lives_longer : Lives setting view mid new second → Lives setting view old new (first.accepted ++ second)
      lives_longer next = lives_then (terminal_in setting) view old mid first.accepted life new second next

      dies_then : Dies setting view mid new second → Dies setting view old new (first.accepted ++ second)
      dies_then next = record {
        last = next.last;
        lives = lives_then (terminal_in setting) view old mid first.accepted life next.last second next.lives;
        leaves = next.leaves;
        waits = next.waits;
      }

      survives_then : {B : Type 0} (result : Result B RunFault) → Survives setting view result mid new second → Survives setting view result old new (first.accepted ++ second)
      survives_then (Ok b) next = lives_longer next
      survives_then (Err fault.Read) next = lives_longer next
      survives_then (Err fault.Write) next = lives_longer next
      survives_then (Err fault.Memory) next = lives_longer next
      survives_then (Err (fault.Session why)) next = dies_then next

    pub runs_then : {B : Type 0} (result : Result B RunFault) (second third : List Input → Type 0) → Runs meaning honest view failures result mid new second
        → ((y : List Input) → second y → third (first.accepted ++ y)) → Runs meaning honest view failures result old new third
    runs_then result second third next both = record {
      accepted = first.accepted ++ next.accepted;
      told = both next.accepted next.told;
      machine = next.machine ∙ first.machine;
      fares = fares_then result next.fares;
      honesty = (λ h. next.honesty.0 (first.honesty.0 h), λ h. first.honesty.1 (next.honesty.1 h));
      survives = λ working h. survives_then (setting_of meaning old.machine) (first.survives working h) next.accepted result
          (subst (λ t. Survives (setting_of meaning t) view result mid new next.accepted) first.machine (next.survives (first.fares.as_before ∙ working) (first.honesty.0 h)));
    }
