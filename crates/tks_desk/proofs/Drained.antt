-- Several turns of a run, one behind the other.
use Rattle.std.proofs.Common.{◌≡◌, ◌+◌, ◌-◌, ◌<◌, ℕ, suc, true, false, List, [], ◌∷◌, ◌++◌, length, Option, Some, None, Result, Ok, Err, refl, sym, ap, ◌∙◌, subst, append_assoc, append-nil, true≢false, arith}
use Rattle.std.specs.List.{FoldsTo}
use Rattle.tks_disk.specs.DiskModel.{View}
use Rattle.tks_input.specs.declared.input.Input.{Input}
use Rattle.tks_input.specs.declared.input.Input.TheVariants.{Turn}
use Rattle.tks_input.specs.declared.reply.Reply.{Reply}
use Rattle.tks_input.specs.declared.reply.Refused.{Refused}
use Rattle.tks_input.specs.declared.reply.Refused.TheVariants.{BadInput, ClockBack, PendingFull, Budget, Depth, TooLarge, NoMemory, Quiet, Failed}
use Rattle.tks_app.specs.Applications.{Meaning}
use Rattle.tks_durable.specs.declared.fault.SessionFault.TheVariants as session
use Rattle.tks_session.specs.Draining.{DrainsSo, StopsSo, TurnsTo, turned}
use Rattle.tks_session.specs.Refusing.{PostRefused, Tried}
use Rattle.tks_session.specs.Sessions.{SessionState, Setting, setting_of}
use Rattle.tks_state.specs.World.{World}
use Rattle.tks_world.specs.Step.{Accepts, Refuses}
use Rattle.tks_desk.specs.Answers.{Granted, Withheld, Memory, Standing, Talk, Answered, AnswersSo, drain_ended, drained, posted, reply_line, said, standing, talk, tried, turn_told}
use Rattle.tks_desk.specs.Draining.{Drains, WritesOn}
use Rattle.tks_desk.specs.Running.{Runs}
use Rattle.tks_desk.specs.Writing.{WritesSo}
use Rattle.tks_desk.specs.declared.ending.RunFault.{RunFault}
use Rattle.tks_desk.specs.declared.ending.RunFault.TheVariants as fault
use Rattle.tks_desk.specs.declared.request.Request.TheVariants.{Drain}
use Rattle.tks_desk.proofs.Parts.{OnlyNow, OpensNow, done_as, failed_as, had_failed, ok_idle}
use Rattle.tks_desk.proofs.Talks.{accepted_tried, appends_nothing, full_tried, refused_tried, said-said}
use Rattle.tks_desk.proofs.Writes.{longer, then}

-- ---- what is written

-- more behind more
pub on_then : (w w' w'' : Result (Unit {0}) RunFault) (a b c : Option (List ℕ)) (xs ys : List ℕ) → WritesOn w w' a b xs → WritesOn w' w'' b c ys → WritesOn w w'' a c (xs ++ ys)
on_then (Ok d) (Ok d') w'' a b c xs ys first next = then w'' a b c xs ys first next
on_then (Ok d) (Err why) w'' a b c xs ys first next =
    subst (λ w. WritesSo w a c (xs ++ ys)) (sym next.0) (subst (λ o. WritesSo (failed_as (Unit {0}) why) a o (xs ++ ys)) (sym next.1) (longer (failed_as (Unit {0}) why) a b xs ys refl first))
on_then (Err why) w' w'' a b c xs ys first next =
    let later = subst (λ w. WritesOn w w'' b c ys) first.0 next in
    (later.0, later.1 ∙ first.1)

on_nothing : (w : Result (Unit {0}) RunFault) (a : Option (List ℕ)) → WritesOn w w a a []
on_nothing (Ok d) a = appends_nothing a
on_nothing (Err why) a = (refl, refl)

-- what is written goes on from where it stands
pub on_from : {V : Type 0} (contents : V → Option (List ℕ)) (result : Result (Unit {0}) RunFault) (c : Option (List ℕ)) (bytes : List ℕ) {w w' : Result (Unit {0}) RunFault} {v v' : V}
    → w ≡ w' → v ≡ v' → WritesOn w result (contents v) c bytes → WritesOn w' result (contents v') c bytes
on_from contents result c bytes {w' = w'} {v = v} same_w same_v is =
    subst (λ x. WritesOn w' result (contents x) c bytes) same_v (subst (λ x. WritesOn x result (contents v) c bytes) same_w is)

-- how writing fares, and what is written
abbrev pub Writing : Type 0
Writing = Result (Unit {0}) RunFault × Option (List ℕ)

-- the line of a reply more
abbrev pub Tells : Writing → Reply → Writing → Type 0
Tells before reply after = WritesOn before.0 after.0 before.1 after.1 (reply_line reply)

-- what calls do to what is seen of a closure
folds_seen : {F P : Type 0} (seen : F → P) (tells : F → Reply → F → Type 0) (does : P → Reply → P → Type 0) → ((p : F) (reply : Reply) (q : F) → tells p reply q → does (seen p) reply (seen q))
    → (replies : List Reply) (p q : F) → FoldsTo tells p replies q → FoldsTo does (seen p) replies (seen q)
folds_seen seen tells does so [] p q is = ap seen is
folds_seen seen tells does so (reply ∷ replies) p q is = (seen is.0, so p reply is.0 is.1, folds_seen seen tells does so replies is.0 q is.2)

-- what each call keeps, all of them keep
folds_keep : {F N : Type 0} (seen : F → N) (tells : F → Reply → F → Type 0) → ((p : F) (reply : Reply) (q : F) → tells p reply q → seen q ≡ seen p)
    → (replies : List Reply) (p q : F) → FoldsTo tells p replies q → seen q ≡ seen p
folds_keep seen tells so [] p q is = sym (ap seen is)
folds_keep seen tells so (reply ∷ replies) p q is = folds_keep seen tells so replies is.0 q is.2 ∙ so p reply is.0 is.1

module _ (setting : Setting) where
  -- ---- what is answered

  -- one turn is run
  drains_one : (left done : ℕ) (w w' : Result (Unit {0}) RunFault) (old : Standing) (new : World) (reply : Reply) (a b : Option (List ℕ)) → tried setting old Turn ≡ Accepts new reply
      → WritesOn w w' a b (reply_line reply) → Drains setting (suc left) done left (suc done) w w' (Turn ∷ []) old (posted old Turn new) a b
  drains_one left done w w' old new reply a b is writes = record {
    memory = Granted ∷ [];
    answers = reply_line reply;
    goes = λ later next. ap (λ s. turn_told false s done old (λ st. drained setting left (suc done) later st next) (next later)) is;
    writes = writes;
  }

  -- and others behind them
  drains_then : (turns done left more left' more' : ℕ) (w w' w'' : Result (Unit {0}) RunFault) (x y : List Input) (old mid new : Standing) (a b c : Option (List ℕ))
      → Drains setting turns done left more w w' x old mid a b → Drains setting left more left' more' w' w'' y mid new b c → Drains setting turns done left' more' w w'' (x ++ y) old new a c
  drains_then turns done left more left' more' w w' w'' x y old mid new a b c first second = record {
    memory = first.memory ++ second.memory;
    answers = first.answers ++ second.answers;
    goes = λ later next.
        ap (λ m. drained setting turns done m old next) (append_assoc first.memory second.memory later)
        ∙ first.goes (second.memory ++ later) next ∙ ap (said first.answers x) (second.goes later next)
        ∙ said-said first.answers second.answers x y (drained setting left' more' later new next);
    writes = on_then w w' w'' a b c first.answers second.answers first.writes second.writes;
  }

  -- ---- the end of them

  module _ (turns left done : ℕ) (w result : Result (Unit {0}) RunFault) (x : List Input) (old new : Standing) (a b c : Option (List ℕ))
      (first : Drains setting turns 0 left done (done_as (Unit {0}) tt) w x old new a b) where
    ends : (why : Option Refused) (memory : List Memory)
        → ((later : List Memory) (next : List Memory → Standing → Talk) → drained setting left done (memory ++ later) new next ≡ said (drain_ended why done) [] (next later new))
        → WritesOn w result b c (drain_ended why done) → Answered setting result (Drain turns) x old new a c
    ends why memory end writes = record {
      memory = first.memory ++ memory;
      answer = first.answers ++ drain_ended why done;
      goes = λ rest later.
          ap (λ m. drained setting turns 0 m old (talk setting rest)) (append_assoc first.memory memory later)
          ∙ first.goes (memory ++ later) (talk setting rest) ∙ ap (said first.answers x) (end later (talk setting rest))
          ∙ said-said first.answers (drain_ended why done) x [] (talk setting rest later new)
          ∙ ap (λ i. said (first.answers ++ drain_ended why done) i (talk setting rest later new)) (append-nil x);
      writes = on_then (done_as (Unit {0}) tt) w result a b c first.answers (drain_ended why done) first.writes writes;
    }

    -- all were run
    pub all_drained : left ≡ 0 → WritesOn w result b c (drain_ended None done) → Answered setting result (Drain turns) x old new a c
    all_drained none = ends None [] (λ later next. ap (λ n. drained setting n done later new next) none)

    -- one was refused
    refusal_ends : (why : Refused) (n : ℕ) → left ≡ suc n → tried setting new Turn ≡ Refuses why → WritesOn w result b c (drain_ended (Some why) done) → Answered setting result (Drain turns) x old new a c
    refusal_ends why n some is =
        ends (Some why) (Granted ∷ []) (λ later next.
        ap (λ k. drained setting k done (Granted ∷ later) new next) some
        ∙ ap (λ s. turn_told false s done new (λ st. drained setting n (suc done) later st next) (next later)) is)

    -- memory was refused
    withheld_ends : (n : ℕ) → left ≡ suc n → WritesOn w result b c (drain_ended (Some NoMemory) done) → Answered setting result (Drain turns) x old new a c
    withheld_ends n some = ends (Some NoMemory) (Withheld ∷ []) (λ later next. ap (λ k. drained setting k done (Withheld ∷ later) new next) some)

-- ---- what turns leave of the session

-- as many turns as replies
abbrev pub turns_of : List Reply → List Input
turns_of [] = []
turns_of (reply ∷ replies) = Turn ∷ turns_of replies

module _ {D : Type 0} (own : Setting) where
  same_journal : (replies : List Reply) (old new : SessionState D) → TurnsTo own old replies new → new.journal ≡ old.journal
  same_journal [] old new is = ap (λ s. s.journal) is
  same_journal (reply ∷ replies) old new is = same_journal replies (turned old is.0) new is.2

  same_made : (replies : List Reply) (old new : SessionState D) → TurnsTo own old replies new → new.machine ≡ old.machine
  same_made [] old new is = ap (λ s. s.machine) is
  same_made (reply ∷ replies) old new is = same_made replies (turned old is.0) new is.2

  waits : (replies : List Reply) (old new : SessionState D) → TurnsTo own old replies new → new.waiting ≡ old.waiting ++ turns_of replies
  waits [] old new is = ap (λ s. s.waiting) is ∙ sym (append-nil old.waiting)
  waits (reply ∷ replies) old new is = waits replies (turned old is.0) new is.2 ∙ append_assoc old.waiting (Turn ∷ []) (turns_of replies)

  -- turns are run and told, and others are left
  drains_all : (replies : List Reply) (old new : SessionState D) (turns done left : ℕ) (p q : Writing) → TurnsTo own old replies new → turns ≡ length replies + left → FoldsTo Tells p replies q
      → Drains own turns done left (length replies + done) p.0 q.0 (turns_of replies) (standing old) (standing new) p.1 q.1
  drains_all [] old new turns done left p q same left_is told =
      let nothing : Drains own turns done turns done p.0 p.0 [] (standing old) (standing old) p.1 p.1 = record { memory = []; answers = []; goes = λ later next. refl; writes = on_nothing p.0 p.1 } in
      let turns_are : turns ≡ left = omega (arith, left_is) in
      let done_is : done ≡ 0 + done = omega arith in
      let on_left = subst (λ n. Drains own turns done n done p.0 p.0 [] (standing old) (standing old) p.1 p.1) turns_are nothing in
      let on_done = subst (λ n. Drains own turns done left n p.0 p.0 [] (standing old) (standing old) p.1 p.1) done_is on_left in
      let on_told = subst (λ (r : Writing). Drains own turns done left (0 + done) p.0 r.0 [] (standing old) (standing old) p.1 r.1) told on_done in
      subst (λ s. Drains own turns done left (0 + done) p.0 q.0 [] (standing old) (standing s) p.1 q.1) (sym same) on_told
  drains_all (reply ∷ replies) old new turns done left p q leads left_is told =
      let n = length replies + left in
      let mid = told.0 in
      let world = leads.0 in
      let one = drains_one own n done p.0 mid.0 (standing old) world reply p.1 mid.1 (accepted_tried own old (turned old world) Turn reply leads.1.accepted leads.1.room) told.1 in
      let others = drains_all replies (turned old world) new n (suc done) left mid q leads.2 refl told.2 in
      let both = drains_then own (suc n) done n (suc done) left (length replies + suc done) p.0 mid.0 q.0 (Turn ∷ []) (turns_of replies) (standing old) (posted (standing old) Turn world) (standing new) p.1 mid.1 q.1 one others in
      let turns_are : suc n ≡ turns = omega (arith, left_is) in
      let done_is : length replies + suc done ≡ suc (length replies) + done = omega arith in
      let on_turns = subst (λ k. Drains own k done left (length replies + suc done) p.0 q.0 (turns_of (reply ∷ replies)) (standing old) (standing new) p.1 q.1) turns_are both in
      subst (λ k. Drains own turns done left k p.0 q.0 (turns_of (reply ∷ replies)) (standing old) (standing new) p.1 q.1) done_is on_turns

  module _ (s0 s : SessionState D) (turns left done n : ℕ) (w result : Result (Unit {0}) RunFault) (x : List Input) (a b c : Option (List ℕ))
      (first : Drains own turns 0 left done (done_as (Unit {0}) tt) w x (standing s0) (standing s) a b) (some : left ≡ suc n) where
    stepped_ends : (why : Refused) → Tried own s Turn why → WritesOn w result b c (drain_ended (Some why) done) → Answered own result (Drain turns) x (standing s0) (standing s) a c
    stepped_ends why is = refusal_ends own turns left done w result x (standing s0) (standing s) a b c first why n some (refused_tried own s s Turn why is)

    -- a turn was refused, while the session worked
    refused_ends : (why : Refused) → s.journal.failed ≡ false → PostRefused own s Turn why → WritesOn w result b c (drain_ended (Some why) done)
        → Answered own result (Drain turns) x (standing s0) (standing s) a c
    refused_ends Failed working is writes = absurd (true≢false (sym is ∙ working))
    refused_ends PendingFull working is writes = refusal_ends own turns left done w result x (standing s0) (standing s) a b c first PendingFull n some (full_tried own s s Turn is.1) writes
    refused_ends NoMemory working is writes = withheld_ends own turns left done w result x (standing s0) (standing s) a b c first n some writes
    refused_ends BadInput working is writes = stepped_ends BadInput is writes
    refused_ends ClockBack working is writes = stepped_ends ClockBack is writes
    refused_ends Budget working is writes = stepped_ends Budget is writes
    refused_ends Depth working is writes = stepped_ends Depth is writes
    refused_ends TooLarge working is writes = stepped_ends TooLarge is writes
    refused_ends Quiet working is writes = stepped_ends Quiet is writes

  -- the end of all
  module _ (old new : SessionState D) (replies : List Reply) (turns done : ℕ) (w result : Result (Unit {0}) RunFault) (a b c : Option (List ℕ)) (working : old.journal.failed ≡ false)
      (count : length replies ≡ done) (leads : TurnsTo own old replies new) (told : FoldsTo Tells (done_as (Unit {0}) tt, a) replies (w, b)) where
    first : (left : ℕ) → turns ≡ done + left → Drains own turns 0 left done (done_as (Unit {0}) tt) w (turns_of replies) (standing old) (standing new) a b
    first left left_is =
        let count_is : length replies + 0 ≡ done = omega (arith, count) in
        let turns_are : turns ≡ length replies + left = omega (arith, count, left_is) in
        subst (λ n. Drains own turns 0 left n (done_as (Unit {0}) tt) w (turns_of replies) (standing old) (standing new) a b) count_is
        (drains_all replies old new turns 0 left (done_as (Unit {0}) tt, a) (w, b) leads turns_are told)

    works_still : new.journal.failed ≡ false
    works_still = ap (λ j. j.failed) (same_journal replies old new leads) ∙ working

    answered : (ended : Option Refused) → StopsSo own new turns done ended → WritesOn w result b c (drain_ended ended done) → Answered own result (Drain turns) (turns_of replies) (standing old) (standing new) a c
    answered None stops writes =
        let left_is : turns ≡ done + 0 = omega (arith, stops.0) in
        all_drained own turns 0 done w result (turns_of replies) (standing old) (standing new) a b c (first 0 left_is) refl writes
    answered (Some why) stops writes =
        let below : done < turns = stops.1 works_still in
        let left_is : turns ≡ done + (turns - done) = omega (arith, below) in
        let some : turns - done ≡ suc (turns - (done + 1)) = omega (arith, below) in
        refused_ends old new turns (turns - done) done (turns - (done + 1)) w result (turns_of replies) a b c (first (turns - done) left_is) some why works_still stops.2 writes

module _ {D : Type 0} (meaning : Meaning) (honest : D → Type 0) (view : D → View) (failures : D → ℕ) (turns : ℕ) where
  -- the session had failed before the first of them
  pub failed_part : (s : SessionState D) (a : Option (List ℕ)) → s.journal.failed ≡ true → Runs meaning honest view failures (failed_as (Unit {0}) (fault.Session session.Failed)) s s
      (λ accepted. AnswersSo (setting_of meaning s.machine) (failed_as (Unit {0}) (fault.Session session.Failed)) (Drain turns) accepted (standing s) (standing s) a a)
  failed_part s a failed =
      had_failed meaning honest view failures s s (λ accepted. AnswersSo (setting_of meaning s.machine) (failed_as (Unit {0}) (fault.Session session.Failed)) (Drain turns) accepted (standing s) (standing s) a a) refl failed
      (record { none = refl; same = refl; nothing = appends_nothing a })

  -- what each call of the closure keeps stands behind the turns
  pub kept : {F N : Type 0} {tells : F → Reply → F → Type 0} {setting : Setting} {old new : SessionState D} {told told' : F} {done : ℕ} {ended : Option Refused} (seen : F → N)
      → ((p : F) (reply : Reply) (q : F) → tells p reply q → seen q ≡ seen p) → DrainsSo tells setting old new told told' turns done ended → seen told' ≡ seen told
  kept {tells = tells} {told = told} {told' = told'} seen so is = folds_keep seen tells so is.replies told told' is.told_so

  module _ (old new : SessionState D) (a b c : Option (List ℕ)) where
    abbrev pub Told : Result (Unit {0}) RunFault → List Input → Type 0
    Told result accepted = AnswersSo (setting_of meaning old.machine) result (Drain turns) accepted (standing old) (standing new) a c

    module _ (says : List Input → Type 0) (r : Runs meaning honest view failures (done_as (Unit {0}) tt) old new says) where
      not_written : Answered (setting_of meaning old.machine) (failed_as (Unit {0}) fault.Write) (Drain turns) r.accepted (standing old) (standing new) a c
          → Runs meaning honest view failures (failed_as (Unit {0}) fault.Write) old new (Told (failed_as (Unit {0}) fault.Write))
      not_written is = record { accepted = r.accepted; told = is; machine = r.machine; fares = r.fares; honesty = r.honesty; survives = r.survives }

      -- all turns that were run are answered
      all_told : (result : Result (Unit {0}) RunFault) → Answered (setting_of meaning old.machine) result (Drain turns) r.accepted (standing old) (standing new) a c → Runs meaning honest view failures result old new (Told result)
      all_told (Ok d) is = record { accepted = r.accepted; told = is; machine = r.machine; fares = r.fares; honesty = r.honesty; survives = r.survives }
      all_told (Err why) is =
          subst (λ w. Runs meaning honest view failures (failed_as (Unit {0}) w) old new (Told (failed_as (Unit {0}) w))) (sym is.writes.0)
          (not_written (subst (λ w. Answered (setting_of meaning old.machine) (failed_as (Unit {0}) w) (Drain turns) r.accepted (standing old) (standing new) a c) is.writes.0 is))

    -- turns of a session that works, told by a closure of which this is seen
    pub drained_part : {F : Type 0} (tells : F → Reply → F → Type 0) (seen : F → Writing) (told told' : F) (done : ℕ) (ended : Option Refused) (w result : Result (Unit {0}) RunFault)
        → old.journal.failed ≡ false → OpensNow meaning honest view failures old → OnlyNow meaning honest view failures
        → ((p : F) (reply : Reply) (q : F) → tells p reply q → Tells (seen p) reply (seen q)) → seen told ≡ (done_as (Unit {0}) tt, a) → seen told' ≡ (w, b)
        → DrainsSo tells (setting_of meaning old.machine) old new told told' turns done ended → WritesOn w result b c (drain_ended ended done)
        → Runs meaning honest view failures result old new (Told result)
    drained_part tells seen told told' done ended w result working all only_now so begins ends_so is writes =
        let own = setting_of meaning old.machine in
        let folds = folds_seen seen tells Tells so is.replies told told' is.told_so in
        let from_start = subst (λ (p : Writing). FoldsTo Tells p is.replies (seen told')) begins folds in
        let to_end = subst (λ (p : Writing). FoldsTo Tells (done_as (Unit {0}) tt, a) is.replies p) ends_so from_start in
        let says : List Input → Type 0 = λ accepted. Answered own result (Drain turns) accepted (standing old) (standing new) a c in
        let part : Runs meaning honest view failures (done_as (Unit {0}) tt) old new says =
        ok_idle meaning honest view failures old new (turns_of is.replies) (same_journal own is.replies old new is.leads) (same_made own is.replies old new is.leads) (waits own is.replies old new is.leads) all only_now
        says (answered own old new is.replies turns done w result a b c working is.count is.leads to_end ended is.stops writes) tt in
        all_told says part result part.told
