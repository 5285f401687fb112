-- Turns of a run, one after another.
use Rattle.std.proofs.Common.{◌≡◌, ◌⊎◌, ⊎_elim, ◌<◌, ◌≤◌, ◌^◌, ◌||◌, ℕ, Bool, true, false, cond, length, arith, lt-ltb, le-leb, List, [], ◌∷◌, ◌++◌, Option, Some, None, IfSome, Result, Ok, Err, refl, sym, ap, ◌∙◌, subst, append_assoc, append-nil}
use Rattle.std.specs.Prelude.{nat_le, nat_lt}
use Rattle.std.specs.Io.KnownBytes.{Appends}
use Rattle.std.proofs.lemmas.Bool.Decides.{nat_tests}
use Rattle.tks_state.specs.World.{World}
use Rattle.tks_durable.specs.Durable.{CheckpointFails, CommitFails, checkpointed, committed, is_full_at}
use Rattle.tks_durable.specs.declared.fault.SessionFault.{SessionFault}
use Rattle.tks_durable.specs.declared.fault.SessionFault.TheVariants as session
use Rattle.tks_session.specs.Refusing.{PostRefused, Tried}
use Rattle.tks_session.specs.Sessions.{SessionState, Setting, terminal_in}
use Rattle.tks_session.specs.Terminals.{spelled}
use Rattle.tks_world.specs.Step.{Accepts, Refuses, step}
use Rattle.tks_input.specs.declared.input.Input.{Input}
use Rattle.tks_input.specs.declared.reply.Reply.{Reply}
use Rattle.tks_input.specs.declared.reply.Refused.{Refused}
use Rattle.tks_input.specs.declared.reply.Refused.TheVariants.{BadInput, ClockBack, PendingFull, Budget, Depth, TooLarge, NoMemory, Quiet, Failed}
use Rattle.tks_desk.specs.Reading.{InReading}
use Rattle.tks_desk.specs.Writing.{WritesSo, AppendsFront}
use Rattle.tks_desk.specs.Requests.{requests_of, ReadsRequest}
use Rattle.tks_desk.specs.Answers.{Granted, Withheld, Standing, standing, posted, stored, Talk, said, tried, answered, talk, bad_line, bye, reply_line, refusal_line, begun, checkpointed_line, is_too_large, large_line, committed_line, quits, end_by, answers_of, SoFar, Answers, CutOff, WrittenUpTo, resumed, behind, screen_lines, faults_lines, memory_line, Memory, Answered, AnswersSo, CheckpointFaultSo, RefusalSo, TurnsSo}
use Rattle.tks_desk.specs.declared.request.Request.{Request}
use Rattle.tks_desk.specs.declared.request.Request.TheVariants.{Post, Unfit, Drain, Screen, Faults, Commit, Checkpoint, Quit, Bad}
use Rattle.tks_desk.specs.declared.ending.RunEnd.{RunEnd}
use Rattle.tks_desk.specs.declared.ending.RunEnd.TheVariants as end
use Rattle.tks_desk.specs.declared.ending.RunFault.{RunFault}
use Rattle.tks_desk.specs.declared.ending.RunFault.TheVariants as fault
use Rattle.tks_desk.proofs.Writes.{then}

-- ---- answers one after the other

abbrev a_talk : List ℕ → List Input → Standing → Bool → Talk
a_talk written accepted left has_quit = record { written = written; accepted = accepted; left = left; has_quit = has_quit }

pub said-said : (a b : List ℕ) (x y : List Input) (t : Talk) → said a x (said b y t) ≡ said (a ++ b) (x ++ y) t
said-said a b x y t =
    ap (λ w. a_talk w (x ++ (y ++ t.accepted)) t.left t.has_quit) (sym (append_assoc a b t.written))
    ∙ ap (λ i. a_talk ((a ++ b) ++ t.written) i t.left t.has_quit) (sym (append_assoc x y t.accepted))

pub appends_nothing : (a : Option (List ℕ)) → Appends a a []
appends_nothing None = tt
appends_nothing (Some xs) = sym (append-nil xs)

appends_then : (a b c : Option (List ℕ)) (xs ys : List ℕ) → Appends a b xs → Appends b c ys → Appends a c (xs ++ ys)
appends_then a b c xs ys p q = then (Ok tt) a b c xs ys p q

front_then : (a b c : Option (List ℕ)) (xs ys : List ℕ) → Appends a b xs → AppendsFront b c ys → AppendsFront a c (xs ++ ys)
front_then a b c xs ys p q = (xs ++ q.0, q.1, ap (λ zs. xs ++ zs) q.2 ∙ sym (append_assoc xs q.0 q.1), appends_then a b c xs q.0 p q.3)

up_to_then : (why : RunFault) (a b c : Option (List ℕ)) (xs ys : List ℕ) → Appends a b xs → WrittenUpTo why b c ys → WrittenUpTo why a c (xs ++ ys)
up_to_then fault.Write a b c xs ys p q = front_then a b c xs ys p q
up_to_then fault.Read a b c xs ys p q = appends_then a b c xs ys p q
up_to_then fault.Memory a b c xs ys p q = appends_then a b c xs ys p q
up_to_then (fault.Session why) a b c xs ys p q = appends_then a b c xs ys p q

-- ---- one answer

module _ (setting : Setting) where
  -- what was written is an answer
  pub answers_so : (result : Result (Unit {0}) RunFault) (request : Request) (accepted : List Input) (old new : Standing) (before after : Option (List ℕ))
      → Answered setting result request accepted old new before after → AnswersSo setting result request accepted old new before after
  answers_so (Ok done) request accepted old new before after is = is
  answers_so (Err fault.Write) request accepted old new before after is = is
  answers_so (Err fault.Read) request accepted old new before after is = absurd (not_write is.writes.0)
    where
      not_write : fault.Read ≡ fault.Write → ⊥
      not_write e = absurd cc
  answers_so (Err fault.Memory) request accepted old new before after is = absurd (not_write is.writes.0)
    where
      not_write : fault.Memory ≡ fault.Write → ⊥
      not_write e = absurd cc
  answers_so (Err (fault.Session why)) request accepted old new before after is = absurd (not_write is.writes.0)
    where
      not_write : fault.Session why ≡ fault.Write → ⊥
      not_write e = absurd cc

  module _ (result : Result (Unit {0}) RunFault) (old : Standing) (before after : Option (List ℕ)) where
    pub quit_answered : WritesSo result before after bye → AnswersSo setting result Quit [] old old before after
    quit_answered writes = answers_so result Quit [] old old before after (record { memory = []; answer = bye; goes = λ rest later. refl; writes = writes })

    pub bad_answered : WritesSo result before after bad_line → AnswersSo setting result Bad [] old old before after
    bad_answered writes = answers_so result Bad [] old old before after (record { memory = []; answer = bad_line; goes = λ rest later. refl; writes = writes })

    pub unfit_answered : WritesSo result before after (refusal_line BadInput) → AnswersSo setting result Unfit [] old old before after
    unfit_answered writes = answers_so result Unfit [] old old before after (record { memory = []; answer = refusal_line BadInput; goes = λ rest later. refl; writes = writes })

    pub faults_answered : WritesSo result before after (faults_lines old.world.faults) → AnswersSo setting result Faults [] old old before after
    faults_answered writes = answers_so result Faults [] old old before after (record { memory = []; answer = faults_lines old.world.faults; goes = λ rest later. refl; writes = writes })

    pub screen_shown : WritesSo result before after (screen_lines old.world) → Answered setting result Screen [] old old before after
    screen_shown writes = record { memory = Granted ∷ []; answer = screen_lines old.world; goes = λ rest later. refl; writes = writes }

    pub screen_not_shown : WritesSo result before after memory_line → Answered setting result Screen [] old old before after
    screen_not_shown writes = record { memory = Withheld ∷ []; answer = memory_line; goes = λ rest later. refl; writes = writes }

    committed_answered : WritesSo result before after (committed_line old.world.accepted) → AnswersSo setting result Commit [] old (stored old) before after
    committed_answered writes = answers_so result Commit [] old (stored old) before after (record { memory = []; answer = committed_line old.world.accepted; goes = λ rest later. refl; writes = writes })

    -- a checkpoint was made, there was too much for one, or memory was withheld
    begun_answered : is_too_large setting old ≡ false → WritesSo result before after (checkpointed_line old.world.accepted) → AnswersSo setting result Checkpoint [] old (begun setting old) before after
    begun_answered fits writes = answers_so result Checkpoint [] old (begun setting old) before after (record {
      memory = Granted ∷ [];
      answer = checkpointed_line old.world.accepted;
      goes = λ rest later. ap (λ b. cond b (said large_line [] (talk setting rest later old)) (said (checkpointed_line old.world.accepted) [] (talk setting rest later (begun setting old)))) fits;
      writes = writes;
    })

    large_answered : is_too_large setting old ≡ true → WritesSo result before after large_line → AnswersSo setting result Checkpoint [] old old before after
    large_answered large writes = answers_so result Checkpoint [] old old before after (record {
      memory = Granted ∷ [];
      answer = large_line;
      goes = λ rest later. ap (λ b. cond b (said large_line [] (talk setting rest later old)) (said (checkpointed_line old.world.accepted) [] (talk setting rest later (begun setting old)))) large;
      writes = writes;
    })

    unmade_answered : WritesSo result before after memory_line → AnswersSo setting result Checkpoint [] old old before after
    unmade_answered writes = answers_so result Checkpoint [] old old before after (record { memory = Withheld ∷ []; answer = memory_line; goes = λ rest later. refl; writes = writes })

    accepted_answered : (input : Input) (new : World) (reply : Reply) → tried setting old input ≡ Accepts new reply → WritesSo result before after (reply_line reply)
        → AnswersSo setting result (Post input) (input ∷ []) old (posted old input new) before after
    accepted_answered input new reply is writes = answers_so result (Post input) (input ∷ []) old (posted old input new) before after (record {
      memory = Granted ∷ [];
      answer = reply_line reply;
      goes = λ rest later. ap (λ s. answered setting input s old (talk setting rest later)) is;
      writes = writes;
    })

    refused_answered : (input : Input) (why : Refused) → tried setting old input ≡ Refuses why → WritesSo result before after (refusal_line why)
        → AnswersSo setting result (Post input) [] old old before after
    refused_answered input why is writes = answers_so result (Post input) [] old old before after (record {
      memory = Granted ∷ [];
      answer = refusal_line why;
      goes = λ rest later. ap (λ s. answered setting input s old (talk setting rest later)) is;
      writes = writes;
    })

    withheld_answered : (input : Input) → WritesSo result before after (refusal_line NoMemory) → AnswersSo setting result (Post input) [] old old before after
    withheld_answered input writes = answers_so result (Post input) [] old old before after (record {
      memory = Withheld ∷ [];
      answer = refusal_line NoMemory;
      goes = λ rest later. refl;
      writes = writes;
    })

  -- no answer, since the session failed
  not_answered : (why : SessionFault) (request : Request) (st : Standing) (before after : Option (List ℕ)) → after ≡ before
      → AnswersSo setting (Err (fault.Session why)) request [] st st before after
  not_answered why request st before after same = record { none = refl; same = refl; nothing = subst (λ a. Appends before a []) (sym same) (appends_nothing before) }

module _ {D : Type 0} (own : Setting) (old new : SessionState D) (input : Input) where
  room_tried : is_full_at own.limits.pending old.journal.format old.journal.gate old.waiting input ≡ false → tried own (standing old) input ≡ step own.app old.world input own.limits
  room_tried room = ap (λ b. cond b (Refuses PendingFull) (step own.app old.world input own.limits)) room

  pub accepted_tried : (reply : Reply) → step own.app old.world input own.limits ≡ Accepts new.world reply
      → is_full_at own.limits.pending old.journal.format old.journal.gate old.waiting input ≡ false → tried own (standing old) input ≡ Accepts new.world reply
  accepted_tried reply is room = room_tried room ∙ is

  pub refused_tried : (why : Refused) → Tried own old input why → tried own (standing old) input ≡ Refuses why
  refused_tried why is = room_tried is.room ∙ is.refused

  pub full_tried : is_full_at own.limits.pending old.journal.format old.journal.gate old.waiting input ≡ true → tried own (standing old) input ≡ Refuses PendingFull
  full_tried full = ap (λ b. cond b (Refuses PendingFull) (step own.app old.world input own.limits)) full

  module _ (result : Result (Unit {0}) RunFault) (before after : Option (List ℕ)) where
    pub input_accepted : (reply : Reply) → step own.app old.world input own.limits ≡ Accepts new.world reply
        → is_full_at own.limits.pending old.journal.format old.journal.gate old.waiting input ≡ false → new ≡ record old { world = new.world; waiting = old.waiting ++ input ∷ [] }
        → WritesSo result before after (reply_line reply) → AnswersSo own result (Post input) (input ∷ []) (standing old) (standing new) before after
    input_accepted reply is room so writes =
        subst (λ st. AnswersSo own result (Post input) (input ∷ []) (standing old) st before after) (sym (ap standing so))
        (accepted_answered own result (standing old) before after input new.world reply (accepted_tried reply is room) writes)

    stepped_refused : (why : Refused) → Tried own old input why → WritesSo result before after (refusal_line why)
        → AnswersSo own result (Post input) [] (standing old) (standing old) before after
    stepped_refused why is writes = refused_answered own result (standing old) before after input why (refused_tried why is) writes

    refused_so : (why : Refused) → PostRefused own old input why → RefusalSo why result before after
        → AnswersSo own result (Post input) [] (standing old) (standing old) before after
    refused_so Failed is writes = subst (λ r. AnswersSo own r (Post input) [] (standing old) (standing old) before after) (sym writes.0) (not_answered own session.Failed (Post input) (standing old) before after writes.1)
    refused_so PendingFull is writes = refused_answered own result (standing old) before after input PendingFull (full_tried is.1) writes
    refused_so NoMemory is writes = withheld_answered own result (standing old) before after input writes
    refused_so BadInput is writes = stepped_refused BadInput is writes
    refused_so ClockBack is writes = stepped_refused ClockBack is writes
    refused_so Budget is writes = stepped_refused Budget is writes
    refused_so Depth is writes = stepped_refused Depth is writes
    refused_so TooLarge is writes = stepped_refused TooLarge is writes
    refused_so Quiet is writes = stepped_refused Quiet is writes

    pub input_refused : (why : Refused) → PostRefused own old input why → new ≡ old → RefusalSo why result before after
        → AnswersSo own result (Post input) [] (standing old) (standing new) before after
    input_refused why is same writes =
        subst (λ s. AnswersSo own result (Post input) [] (standing old) (standing s) before after) (sym same) (refused_so why is writes)

module _ {D : Type 0} (own : Setting) (old new : SessionState D) (before after : Option (List ℕ)) where
  pub commit_answered : (result : Result (Unit {0}) RunFault) (count : ℕ) → count ≡ old.world.accepted
      → new ≡ record old { journal = committed old.journal new.journal.disk old.waiting; waiting = []; acknowledged = count }
      → WritesSo result before after (committed_line count) → AnswersSo own result Commit [] (standing old) (standing new) before after
  commit_answered result count is so writes =
      subst (λ st. AnswersSo own result Commit [] (standing old) st before after) (sym (ap standing so))
      (committed_answered own result (standing old) before after (subst (λ n. WritesSo result before after (committed_line n)) is writes))

  pub commit_unanswered : (why : SessionFault) (m n : ℕ) → CommitFails old new m n why → after ≡ before
      → AnswersSo own (Err (fault.Session why)) Commit [] (standing old) (standing new) before after
  commit_unanswered session.Failed m n is same =
      subst (λ s. AnswersSo own (Err (fault.Session session.Failed)) Commit [] (standing old) (standing s) before after) (sym is.1)
      (not_answered own session.Failed Commit (standing old) before after same)
  commit_unanswered session.Disk m n is same =
      subst (λ st. AnswersSo own (Err (fault.Session session.Disk)) Commit [] (standing old) st before after) (sym (ap standing is.1))
      (not_answered own session.Disk Commit (standing old) before after same)
  commit_unanswered session.TooLarge m n is same = absurd is
  commit_unanswered session.NoMemory m n is same = absurd is
  commit_unanswered session.Damaged m n is same = absurd is
  commit_unanswered session.OtherCommands m n is same = absurd is
  commit_unanswered session.OtherGrid m n is same = absurd is
  commit_unanswered session.SmallerLimits m n is same = absurd is
  commit_unanswered session.Version m n is same = absurd is

-- ---- checkpoints

-- what fits a side is told so, and what doesn't
fits_so : (setting : Setting) (st : Standing) → length (spelled st.world) ≤ 2 ^ 40 → st.generation < 2 ^ 62 → is_too_large setting st ≡ false
unfolding is_too_large
fits_so setting st short few =
    let a : nat_lt (2 ^ 40) (length (spelled st.world)) ≡ false = grind (arith, nat_tests) in
    let b : nat_le (2 ^ 62) st.generation ≡ false = grind (arith, nat_tests) in
    ap (λ x. x || nat_le (2 ^ 62) st.generation) a ∙ b

large_so : (setting : Setting) (st : Standing) → (2 ^ 40 < length (spelled st.world)) ⊎ (2 ^ 62 ≤ st.generation) → is_too_large setting st ≡ true
unfolding is_too_large
large_so setting st = ⊎_elim (λ long. ap (λ x. x || nat_le (2 ^ 62) st.generation) (lt-ltb (2 ^ 40) (length (spelled st.world)) long)) (λ many. or_true (nat_lt (2 ^ 40) (length (spelled st.world))) (le-leb (2 ^ 62) st.generation many))
  where
    or_true : (a : Bool) {b : Bool} → b ≡ true → (a || b) ≡ true
    or_true true h = refl
    or_true false h = h

module _ {D : Type 0} (own : Setting) (old new : SessionState D) (before after : Option (List ℕ)) where
  pub checkpoint_answered : (result : Result (Unit {0}) RunFault) (count : ℕ) → count ≡ old.world.accepted
      → new ≡ record old { journal = checkpointed (terminal_in own) old.journal new.journal.disk old.world; waiting = []; acknowledged = count }
      → (length (spelled old.world) ≤ 2 ^ 40) × (old.journal.generation < 2 ^ 62)
      → WritesSo result before after (checkpointed_line count) → AnswersSo own result Checkpoint [] (standing old) (standing new) before after
  checkpoint_answered result count is so fits writes =
      subst (λ st. AnswersSo own result Checkpoint [] (standing old) st before after) (sym (ap standing so))
      (begun_answered own result (standing old) before after (fits_so own (standing old) fits.0 fits.1) (subst (λ n. WritesSo result before after (checkpointed_line n)) is writes))

  pub checkpoint_refused : (why : SessionFault) (result : Result (Unit {0}) RunFault) (m n : ℕ) → CheckpointFails (terminal_in own) old new m n why → CheckpointFaultSo why result before after
      → AnswersSo own result Checkpoint [] (standing old) (standing new) before after
  checkpoint_refused session.TooLarge result m n is so =
      subst (λ s. AnswersSo own result Checkpoint [] (standing old) (standing s) before after) (sym is.1) (large_answered own result (standing old) before after (large_so own (standing old) is.0) so)
  checkpoint_refused session.NoMemory result m n is so =
      subst (λ s. AnswersSo own result Checkpoint [] (standing old) (standing s) before after) (sym is) (unmade_answered own result (standing old) before after so)
  checkpoint_refused session.Failed result m n is so =
      subst (λ r. AnswersSo own r Checkpoint [] (standing old) (standing new) before after) (sym so.0)
      (subst (λ s. AnswersSo own (Err (fault.Session session.Failed)) Checkpoint [] (standing old) (standing s) before after) (sym is.1)
      (not_answered own session.Failed Checkpoint (standing old) before after so.1))
  checkpoint_refused session.Disk result m n is so =
      subst (λ r. AnswersSo own r Checkpoint [] (standing old) (standing new) before after) (sym so.0)
      (subst (λ st. AnswersSo own (Err (fault.Session session.Disk)) Checkpoint [] (standing old) st before after) (sym (ap standing is.1))
      (not_answered own session.Disk Checkpoint (standing old) before after so.1))
  checkpoint_refused session.Damaged result m n is so = absurd is
  checkpoint_refused session.OtherCommands result m n is so = absurd is
  checkpoint_refused session.OtherGrid result m n is so = absurd is
  checkpoint_refused session.SmallerLimits result m n is so = absurd is
  checkpoint_refused session.Version result m n is so = absurd is

-- ---- one line

module _ (setting : Setting) (input : List ℕ) (left : Option (List ℕ)) (old : Standing) (before : Option (List ℕ)) where
  -- reading failed
  pub not_read : (why : RunFault) → InReading why → CutOff setting input [] old old before before why
  not_read fault.Read h = record { rest = Some (requests_of input); memory = []; answers = []; goes = λ later. refl; written = appends_nothing before }
  not_read fault.Memory h = record { rest = Some (requests_of input); memory = []; answers = []; goes = λ later. refl; written = appends_nothing before }
  not_read fault.Write h = absurd h
  not_read (fault.Session why) h = absurd h

  -- nothing was left to read
  pub nothing_left : requests_of input ≡ [] → Answers setting input [] old old before before end.EndOfInput
  nothing_left none = record {
    memory = [];
    goes = ap (λ rs. talk setting rs [] old) none ∙ ap (λ w. a_talk w [] old false) (ap (λ rs. (talk setting rs [] old).written) (sym none));
    written = subst (λ w. Appends before before w) (ap (λ rs. (talk setting rs [] old).written) (sym none)) (appends_nothing before);
  }

  module _ (new : Standing) (after : Option (List ℕ)) (accepted : List Input) where
    -- a request that doesn't end the run
    goes_on : (request : Request) → ((rest : List Request) (later : List Memory) (st : Standing) → behind setting request rest later st ≡ talk setting rest later st)
        → ReadsRequest input (Some request) left → Answered setting (Ok tt) request accepted old new before after → SoFar setting input left accepted old new before after
    goes_on request on reads is = record {
      rest = reads.0;
      is = reads.1;
      memory = is.memory;
      answers = is.answer;
      goes = λ later. ap (λ rs. talk setting rs (is.memory ++ later) old) reads.2 ∙ is.goes (requests_of reads.0) later ∙ ap (said is.answer accepted) (on (requests_of reads.0) later new);
      written = is.writes;
    }

    -- `quit`
    quits_so : ReadsRequest input (Some Quit) left → Answered setting (Ok tt) Quit accepted old new before after → Answers setting input accepted old new before after end.Quit
    quits_so reads is =
        let whole : talk setting (requests_of input) (is.memory ++ []) old ≡ a_talk (is.answer ++ []) (accepted ++ []) new true =
        ap (λ rs. talk setting rs (is.memory ++ []) old) reads.2 ∙ is.goes (requests_of reads.0) [] in
        let text : answers_of setting input (is.memory ++ []) old ≡ is.answer = ap (λ (t : Talk). t.written) whole ∙ append-nil is.answer in
        record {
          memory = is.memory ++ [];
          goes = whole ∙ ap (λ w. a_talk w (accepted ++ []) new true) (sym (ap (λ (t : Talk). t.written) whole)) ∙ ap (λ i. a_talk (answers_of setting input (is.memory ++ []) old) i new true) (append-nil accepted);
          written = subst (λ w. Appends before after w) (sym text) is.writes;
        }

    -- a request is answered
    pub turned_so : (request : Request) → ReadsRequest input (Some request) left → AnswersSo setting (Ok tt) request accepted old new before after
        → TurnsSo setting (Ok (end_by request)) input left accepted old new before after
    turned_so Quit reads is = quits_so reads is
    turned_so Bad reads is = goes_on Bad (λ rest later st. refl) reads is
    turned_so Unfit reads is = goes_on Unfit (λ rest later st. refl) reads is
    turned_so (Drain turns) reads is = goes_on (Drain turns) (λ rest later st. refl) reads is
    turned_so Screen reads is = goes_on Screen (λ rest later st. refl) reads is
    turned_so Faults reads is = goes_on Faults (λ rest later st. refl) reads is
    turned_so Commit reads is = goes_on Commit (λ rest later st. refl) reads is
    turned_so Checkpoint reads is = goes_on Checkpoint (λ rest later st. refl) reads is
    turned_so (Post given) reads is = goes_on (Post given) (λ rest later st. refl) reads is

    -- what stands behind a request, where the run is cut off in its answer
    abbrev rest_behind : Request → List ℕ → Option (List Request)
    rest_behind Quit bytes = None
    rest_behind Bad bytes = Some (requests_of bytes)
    rest_behind Unfit bytes = Some (requests_of bytes)
    rest_behind (Drain turns) bytes = Some (requests_of bytes)
    rest_behind Screen bytes = Some (requests_of bytes)
    rest_behind Faults bytes = Some (requests_of bytes)
    rest_behind Commit bytes = Some (requests_of bytes)
    rest_behind Checkpoint bytes = Some (requests_of bytes)
    rest_behind (Post given) bytes = Some (requests_of bytes)

    behind_so : (request : Request) (bytes : List ℕ) (later : List Memory) (st : Standing) → behind setting request (requests_of bytes) later st ≡ resumed setting (rest_behind request bytes) later st
    behind_so Quit bytes later st = refl
    behind_so Bad bytes later st = refl
    behind_so Unfit bytes later st = refl
    behind_so (Drain turns) bytes later st = refl
    behind_so Screen bytes later st = refl
    behind_so Faults bytes later st = refl
    behind_so Commit bytes later st = refl
    behind_so Checkpoint bytes later st = refl
    behind_so (Post given) bytes later st = refl

    -- an answer is cut off
    pub cut_so : (request : Request) (why : RunFault) → ReadsRequest input (Some request) left → AnswersSo setting (Err why) request accepted old new before after
        → CutOff setting input accepted old new before after why
    cut_so request fault.Write reads is = record {
      rest = rest_behind request reads.0;
      memory = is.memory;
      answers = is.answer;
      goes = λ later. ap (λ rs. talk setting rs (is.memory ++ later) old) reads.2 ∙ is.goes (requests_of reads.0) later ∙ ap (said is.answer accepted) (behind_so request reads.0 later new);
      written = is.writes.1;
    }
    cut_so request fault.Read reads is = absurd is
    cut_so request fault.Memory reads is = absurd is
    cut_so request (fault.Session why) reads is = record {
      rest = Some (requests_of input);
      memory = [];
      answers = [];
      goes = λ later. ap (λ st. talk setting (requests_of input) later st) (sym is.same) ∙ ap (λ i. said [] i (talk setting (requests_of input) later new)) (sym is.none);
      written = is.nothing;
    }

-- ---- a turn after others

module _ (setting : Setting) (input : List ℕ) (left left' : Option (List ℕ)) (x y : List Input) (old mid new : Standing) (a b c : Option (List ℕ)) (first : SoFar setting input left x old mid a b) where
  after_line : SoFar setting first.rest left' y mid new b c → SoFar setting input left' (x ++ y) old new a c
  after_line second = record {
    rest = second.rest;
    is = second.is;
    memory = first.memory ++ second.memory;
    answers = first.answers ++ second.answers;
    goes = λ later.
        ap (λ m. talk setting (requests_of input) m old) (append_assoc first.memory second.memory later)
        ∙ first.goes (second.memory ++ later) ∙ ap (said first.answers x) (second.goes later)
        ∙ said-said first.answers second.answers x y (talk setting (requests_of second.rest) later new);
    written = appends_then a b c first.answers second.answers first.written second.written;
  }

  at_end : (by : RunEnd) → Answers setting first.rest y mid new b c by → Answers setting input (x ++ y) old new a c by
  at_end by last =
      let whole : talk setting (requests_of input) (first.memory ++ last.memory) old ≡ a_talk (first.answers ++ answers_of setting first.rest last.memory mid) (x ++ y) new (quits by) =
      first.goes last.memory ∙ ap (said first.answers x) last.goes in
      let text : answers_of setting input (first.memory ++ last.memory) old ≡ first.answers ++ answers_of setting first.rest last.memory mid = ap (λ (t : Talk). t.written) whole in
      record {
        memory = first.memory ++ last.memory;
        goes = whole ∙ ap (λ w. a_talk w (x ++ y) new (quits by)) (sym text);
        written = subst (λ w. Appends a c w) (sym text) (appends_then a b c first.answers (answers_of setting first.rest last.memory mid) first.written last.written);
      }

  at_cut : (why : RunFault) → CutOff setting first.rest y mid new b c why → CutOff setting input (x ++ y) old new a c why
  at_cut why last = record {
    rest = last.rest;
    memory = first.memory ++ last.memory;
    answers = first.answers ++ last.answers;
    goes = λ later.
        ap (λ m. talk setting (requests_of input) m old) (append_assoc first.memory last.memory later)
        ∙ first.goes (last.memory ++ later) ∙ ap (said first.answers x) (last.goes later)
        ∙ said-said first.answers last.answers x y (resumed setting last.rest later new);
    written = up_to_then why a b c first.answers last.answers first.written last.written;
  }

  turned_known : (r : Result (Option RunEnd) RunFault) → TurnsSo setting r first.rest left' y mid new b c → TurnsSo setting r input left' (x ++ y) old new a c
  turned_known (Ok None) h = after_line h
  turned_known (Ok (Some by)) h = at_end by h
  turned_known (Err why) h = at_cut why h

-- one turn more
pub turned : (setting : Setting) (o left left' : Option (List ℕ)) (x y : List Input) (old mid new : Standing) (a b c : Option (List ℕ)) (r : Result (Option RunEnd) RunFault)
    → IfSome o (λ input. SoFar setting input left x old mid a b) → IfSome left (λ rest. TurnsSo setting r rest left' y mid new b c)
    → IfSome o (λ input. TurnsSo setting r input left' (x ++ y) old new a c)
turned setting None left left' x y old mid new a b c r so_far turn = tt
turned setting (Some input) left left' x y old mid new a b c r so_far turn =
    turned_known setting input left left' x y old mid new a b c so_far r (subst (λ l. IfSome l (λ rest. TurnsSo setting r rest left' y mid new b c)) so_far.is turn)

-- ---- where the input is known

pub always : (o : Option (List ℕ)) (Q : List ℕ → Type 0) → ((xs : List ℕ) → Q xs) → IfSome o Q
always None Q f = tt
always (Some xs) Q f = f xs

pub where_known : (o : Option (List ℕ)) (P Q : List ℕ → Type 0) → ((xs : List ℕ) → P xs → Q xs) → IfSome o P → IfSome o Q
where_known None P Q f h = tt
where_known (Some xs) P Q f h = f xs h

-- before any line
pub so_far_known : (setting : Setting) (o : Option (List ℕ)) (st : Standing) (before : Option (List ℕ)) → IfSome o (λ input. SoFar setting input o [] st st before before)
so_far_known setting None st before = tt
so_far_known setting (Some input) st before = record { rest = input; is = refl; memory = []; answers = []; goes = λ later. refl; written = appends_nothing before }
