-- The answers to lines (this project's own rule): what is written for what is read.
use Rattle.std.specs.Prelude.{◌≡◌, ℕ, zero, suc, ◌+◌, ◌^◌, ◌||◌, nat_le, nat_lt, drop, length, ◌==◌, if◌then◌else◌, List, [], ◌∷◌, ◌++◌, Option, Some, None, Result, Ok, Err, Bool, true, false, codes, decimal}
use Rattle.std.specs.Io.KnownBytes.{Appends}
use Rattle.tks_state.specs.World.{World}
use Rattle.tks_screen.specs.Screen.{shown}
use Rattle.tks_spelling.specs.declared.format.Format.{Format}
use Rattle.tks_spelling.specs.declared.format.Format.TheVariants.{Two}
use Rattle.tks_durable.specs.Durable.{gate_behind, gate_behind_world, is_full_at}
use Rattle.tks_input.specs.declared.input.Input.{Input}
use Rattle.tks_input.specs.declared.input.Input.TheVariants.{Turn}
use Rattle.tks_input.specs.declared.reply.Reply.{Reply}
use Rattle.tks_input.specs.declared.reply.Refused.{Refused}
use Rattle.tks_input.specs.declared.reply.Refused.TheVariants.{BadInput, ClockBack, PendingFull, Budget, Depth, TooLarge, NoMemory, Quiet, Failed}
use Rattle.tks_desk.specs.Writing.{flattened, escaped, WritesSo, AppendsFront}
use Rattle.tks_desk.specs.Requests.{requests_of}
use Rattle.tks_desk.specs.declared.request.Request.{Request}
use Rattle.tks_desk.specs.declared.request.Request.TheVariants.{Post, Unfit, Drain, Screen, Faults, Commit, Checkpoint, Quit, Bad}
use Rattle.tks_desk.specs.declared.ending.RunEnd.{RunEnd}
use Rattle.tks_desk.specs.declared.ending.RunEnd.TheVariants as end
use Rattle.tks_desk.specs.declared.ending.RunFault.{RunFault}
use Rattle.tks_desk.specs.declared.ending.RunFault.TheVariants as fault
use Rattle.tks_durable.specs.declared.fault.SessionFault.{SessionFault}
use Rattle.tks_durable.specs.declared.fault.SessionFault.TheVariants as session
use Rattle.tks_session.specs.Sessions.{SessionState, Setting, terminal_in}
use Rattle.tks_session.specs.Terminals.{spelled}
use Rattle.tks_world.specs.Step.{Stepped, Accepts, Refuses, step}

-- ---- one answer

abbrev pub refusal_name : Refused → List ℕ
refusal_name BadInput = codes "refused bad"
refusal_name ClockBack = codes "refused clock"
refusal_name PendingFull = codes "refused pending"
refusal_name Budget = codes "refused budget"
refusal_name Depth = codes "refused depth"
refusal_name TooLarge = codes "refused large"
refusal_name NoMemory = codes "refused memory"
refusal_name Quiet = codes "quiet"
refusal_name Failed = codes "refused failed"

abbrev pub verdict : ℕ → List ℕ
verdict code = if code == 0 then codes "ok " else codes "error "

-- a space and the text, or nothing where that is empty
abbrev pub after_space : List ℕ → List ℕ
after_space [] = []
after_space (b ∷ text) = flattened (codes " " ∷ escaped (b ∷ text) ∷ [])

abbrev pub reply_line : Reply → List ℕ
reply_line reply = flattened (verdict reply.code ∷ decimal reply.number ∷ after_space reply.text ∷ codes "\n" ∷ [])

abbrev pub refusal_line : Refused → List ℕ
refusal_line why = flattened (refusal_name why ∷ codes "\n" ∷ [])

-- a row of the screen between bars
abbrev pub row_line : List ℕ → List ℕ
row_line row = flattened (codes "|" ∷ row ∷ codes "|\n" ∷ [])

abbrev pub rows_lines : List (List ℕ) → List ℕ
rows_lines [] = []
rows_lines (row ∷ rows) = row_line row ++ rows_lines rows

-- what the screen shows, row by row
abbrev pub screen_lines : World → List ℕ
screen_lines world = rows_lines (shown world)

-- an error that no script was there to see, and the end of them
abbrev pub fault_told : List ℕ → List ℕ
fault_told text = flattened (codes "fault " ∷ escaped text ∷ codes "\n" ∷ [])

abbrev pub faults_told : List (List ℕ) → List ℕ
faults_told [] = []
faults_told (text ∷ texts) = fault_told text ++ faults_told texts

abbrev pub faults_lines : List (List ℕ) → List ℕ
faults_lines texts = flattened (faults_told texts ∷ codes "end\n" ∷ [])

-- a line with a number behind this front of it
abbrev pub count_line : List ℕ → ℕ → List ℕ
count_line front count = flattened (front ∷ decimal count ∷ codes "\n" ∷ [])

-- so many inputs are acknowledged
abbrev pub committed_line : ℕ → List ℕ
committed_line count = count_line (codes "committed ") count

-- so many inputs are acknowledged, by a checkpoint
abbrev pub checkpointed_line : ℕ → List ℕ
checkpointed_line count = count_line (codes "checkpointed ") count

-- so many turns were run
abbrev pub drained_line : ℕ → List ℕ
drained_line n = count_line (codes "drained ") n

-- what is told of the refusal that ended turns: nothing, where nothing was to be done
abbrev pub turn_refused : Refused → List ℕ
turn_refused Quiet = []
turn_refused BadInput = refusal_line BadInput
turn_refused ClockBack = refusal_line ClockBack
turn_refused PendingFull = refusal_line PendingFull
turn_refused Budget = refusal_line Budget
turn_refused Depth = refusal_line Depth
turn_refused TooLarge = refusal_line TooLarge
turn_refused NoMemory = refusal_line NoMemory
turn_refused Failed = refusal_line Failed

-- that refusal, if there was one, and how many turns were run
abbrev pub drain_ended : Option Refused → ℕ → List ℕ
drain_ended None done = drained_line done
drain_ended (Some why) done = turn_refused why ++ drained_line done

abbrev pub memory_line : List ℕ
memory_line = codes "fault memory\n"

abbrev pub large_line : List ℕ
large_line = codes "fault large\n"

abbrev pub bad_line : List ℕ
bad_line = codes "bad line\n"

abbrev pub bye : List ℕ
bye = codes "bye\n"

-- ---- the answers to a whole input

-- what answers depend on: the world, the inputs that wait for a commit, the format of the side on which they will stand and where
-- its next gate does, and how many sides were begun
pub record Standing : Type 0 where
  pub world : World
  pub waiting : List Input
  pub format : Format
  pub gate : ℕ
  pub generation : ℕ

-- that of a session
abbrev pub standing : {D : Type 0} → SessionState D → Standing
standing s = record { world = s.world; waiting = s.waiting; format = s.journal.format; gate = s.journal.gate; generation = s.journal.generation }

-- behind an input that was accepted
abbrev pub posted : Standing → Input → World → Standing
posted st input new = record st { world = new; waiting = st.waiting ++ input ∷ [] }

-- behind a commit
abbrev pub stored : Standing → Standing
stored st = record st { waiting = []; gate = gate_behind st.format st.gate st.waiting }

-- whether memory was there for an input, or refused
pub data Memory : Type 0 where
  Granted : Memory
  Withheld : Memory

-- what is written, the inputs that are accepted, what is left, and whether `quit` was met
pub record Talk : Type 0 where
  pub written : List ℕ
  pub accepted : List Input
  pub left : Standing
  pub has_quit : Bool

-- nothing more, once `quit` was met
abbrev pub over : Standing → Talk
over st = record { written = []; accepted = []; left = st; has_quit = true }

-- an answer, and inputs that were accepted, before others
abbrev pub said : List ℕ → List Input → Talk → Talk
said answer inputs talk = record { written = answer ++ talk.written; accepted = inputs ++ talk.accepted; left = talk.left; has_quit = talk.has_quit }

-- whether memory was withheld from the first of them
abbrev pub is_withheld : List Memory → Bool
is_withheld [] = false
is_withheld (Granted ∷ memory) = false
is_withheld (Withheld ∷ memory) = true

-- the answer to a turn of several, of which so many are done, and what follows behind it: the next of them, or what comes behind them
abbrev pub turn_told : Bool → Stepped → ℕ → Standing → (Standing → Talk) → (Standing → Talk) → Talk
turn_told true stepped done st again next = said (drain_ended (Some NoMemory) done) [] (next st)
turn_told false (Accepts new reply) done st again next = said (reply_line reply) (Turn ∷ []) (again (posted st Turn new))
turn_told false (Refuses why) done st again next = said (drain_ended (Some why) done) [] (next st)

module _ (setting : Setting) where
  -- behind a checkpoint
  abbrev pub begun : Standing → Standing
  begun st = record st { waiting = []; format = Two; gate = gate_behind_world (terminal_in setting) (st.generation + 1) st.world; generation = st.generation + 1 }

  -- the spelling of the world is too long for a side, or as many sides were begun as may be
  unfoldable pub is_too_large : Standing → Bool
  is_too_large st = nat_lt (2 ^ 40) (length (spelled st.world)) || nat_le (2 ^ 62) st.generation

  -- the answer to a checkpoint, and what follows behind it
  abbrev pub checkpoint_told : Standing → (Standing → Talk) → Talk
  checkpoint_told st next = if is_too_large st then said large_line [] (next st) else said (checkpointed_line st.world.accepted) [] (next (begun st))

  -- an input is refused where as many wait as may; else it is stepped
  abbrev pub tried : Standing → Input → Stepped
  tried st input = if is_full_at setting.limits.pending st.format st.gate st.waiting input then Refuses PendingFull else step setting.app st.world input setting.limits

  -- the answer to an input, and what follows behind it
  abbrev pub answered : Input → Stepped → Standing → (Standing → Talk) → Talk
  answered input (Accepts new reply) st next = said (reply_line reply) (input ∷ []) (next (posted st input new))
  answered input (Refuses why) st next = said (refusal_line why) [] (next st)

  -- the answers to so many turns, up to one that is refused
  abbrev pub drained : ℕ → ℕ → List Memory → Standing → (List Memory → Standing → Talk) → Talk
  drained zero done memory st next = said (drain_ended None done) [] (next memory st)
  drained (suc turns) done memory st next =
      turn_told (is_withheld memory) (tried st Turn) done st (λ new. drained turns (suc done) (drop 1 memory) new next) (next (drop 1 memory))

  -- the answers to requests, up to `quit`. Where memory was withheld from an input it is refused for that,
  -- and all stays, and where it was withheld from the screen this isn't shown, and from a checkpoint none is made; the list says so
  -- of inputs, turns, screens and checkpoints in order, and where it ends memory was there
  abbrev pub talk : List Request → List Memory → Standing → Talk
  talk [] memory st = record { written = []; accepted = []; left = st; has_quit = false }
  talk (Quit ∷ rest) memory st = said bye [] (over st)
  talk (Bad ∷ rest) memory st = said bad_line [] (talk rest memory st)
  talk (Unfit ∷ rest) memory st = said (refusal_line BadInput) [] (talk rest memory st)
  talk (Drain turns ∷ rest) memory st = drained turns 0 memory st (talk rest)
  talk (Commit ∷ rest) memory st = said (committed_line st.world.accepted) [] (talk rest memory (stored st))
  talk (Checkpoint ∷ rest) [] st = checkpoint_told st (talk rest [])
  talk (Checkpoint ∷ rest) (Granted ∷ memory) st = checkpoint_told st (talk rest memory)
  talk (Checkpoint ∷ rest) (Withheld ∷ memory) st = said memory_line [] (talk rest memory st)
  talk (Faults ∷ rest) memory st = said (faults_lines st.world.faults) [] (talk rest memory st)
  talk (Screen ∷ rest) [] st = said (screen_lines st.world) [] (talk rest [] st)
  talk (Screen ∷ rest) (Granted ∷ memory) st = said (screen_lines st.world) [] (talk rest memory st)
  talk (Screen ∷ rest) (Withheld ∷ memory) st = said memory_line [] (talk rest memory st)
  talk (Post input ∷ rest) [] st = answered input (tried st input) st (talk rest [])
  talk (Post input ∷ rest) (Granted ∷ memory) st = answered input (tried st input) st (talk rest memory)
  talk (Post input ∷ rest) (Withheld ∷ memory) st = said (refusal_line NoMemory) [] (talk rest memory st)

  -- what is written for the whole input
  abbrev pub answers_of : List ℕ → List Memory → Standing → List ℕ
  answers_of input memory st = (talk (requests_of input) memory st).written

-- ---- what a run did

-- a refusal is answered, but that of a session that had failed ends the run
abbrev pub RefusalSo : Refused → Result (Unit {0}) RunFault → Option (List ℕ) → Option (List ℕ) → Type 0
RefusalSo Failed result before after = (result ≡ Err (fault.Session session.Failed)) × (after ≡ before)
RefusalSo BadInput result before after = WritesSo result before after (refusal_line BadInput)
RefusalSo ClockBack result before after = WritesSo result before after (refusal_line ClockBack)
RefusalSo PendingFull result before after = WritesSo result before after (refusal_line PendingFull)
RefusalSo Budget result before after = WritesSo result before after (refusal_line Budget)
RefusalSo Depth result before after = WritesSo result before after (refusal_line Depth)
RefusalSo TooLarge result before after = WritesSo result before after (refusal_line TooLarge)
RefusalSo NoMemory result before after = WritesSo result before after (refusal_line NoMemory)
RefusalSo Quiet result before after = WritesSo result before after (refusal_line Quiet)

-- why no checkpoint was made is answered, but that the session had failed, or failed now, ends the run
abbrev pub CheckpointFaultSo : SessionFault → Result (Unit {0}) RunFault → Option (List ℕ) → Option (List ℕ) → Type 0
CheckpointFaultSo session.TooLarge result before after = WritesSo result before after large_line
CheckpointFaultSo session.NoMemory result before after = WritesSo result before after memory_line
CheckpointFaultSo session.Disk result before after = (result ≡ Err (fault.Session session.Disk)) × (after ≡ before)
CheckpointFaultSo session.Failed result before after = (result ≡ Err (fault.Session session.Failed)) × (after ≡ before)
CheckpointFaultSo session.Damaged result before after = (result ≡ Err (fault.Session session.Damaged)) × (after ≡ before)
CheckpointFaultSo session.OtherCommands result before after = (result ≡ Err (fault.Session session.OtherCommands)) × (after ≡ before)
CheckpointFaultSo session.OtherGrid result before after = (result ≡ Err (fault.Session session.OtherGrid)) × (after ≡ before)
CheckpointFaultSo session.SmallerLimits result before after = (result ≡ Err (fault.Session session.SmallerLimits)) × (after ≡ before)
CheckpointFaultSo session.Version result before after = (result ≡ Err (fault.Session session.Version)) × (after ≡ before)

-- whether a request ends the run
abbrev pub end_by : Request → Option RunEnd
end_by Quit = Some end.Quit
end_by Bad = None
end_by Unfit = None
end_by (Drain turns) = None
end_by Screen = None
end_by Faults = None
end_by Commit = None
end_by Checkpoint = None
end_by (Post input) = None

abbrev pub quits : RunEnd → Bool
quits end.Quit = true
quits end.EndOfInput = false

-- what a fault leaves of answers: all of them, or where writing failed a front of them
abbrev pub WrittenUpTo : RunFault → Option (List ℕ) → Option (List ℕ) → List ℕ → Type 0
WrittenUpTo fault.Write before after answers = AppendsFront before after answers
WrittenUpTo fault.Read before after answers = Appends before after answers
WrittenUpTo fault.Memory before after answers = Appends before after answers
WrittenUpTo (fault.Session why) before after answers = Appends before after answers

module _ (setting : Setting) where
  -- the input is answered up to `rest`, which is still to be read: with any answers to the rest from the new
  -- standing, these are the answers to the whole input
  pub record SoFar (input : List ℕ) (left : Option (List ℕ)) (accepted : List Input) (old new : Standing) (before after : Option (List ℕ)) : Type 0 where
    pub rest : List ℕ
    pub is : left ≡ Some rest
    pub memory : List Memory
    pub answers : List ℕ
    pub goes : (later : List Memory) → talk setting (requests_of input) (memory ++ later) old ≡ said answers accepted (talk setting (requests_of rest) later new)
    pub written : Appends before after answers

  -- a run to its end: for some choice of where memory was withheld, what was written is the answers to the
  -- whole input, up to `quit` where the run ended by it, and these inputs were accepted
  pub record Answers (input : List ℕ) (accepted : List Input) (old new : Standing) (before after : Option (List ℕ)) (by : RunEnd) : Type 0 where
    pub memory : List Memory
    pub goes : talk setting (requests_of input) memory old ≡ record { written = answers_of setting input memory old; accepted = accepted; left = new; has_quit = quits by }
    pub written : Appends before after (answers_of setting input memory old)

  -- what follows the answers of a run that was cut off: those to other requests, or nothing behind `quit`
  abbrev pub resumed : Option (List Request) → List Memory → Standing → Talk
  resumed (Some rest) memory st = talk setting rest memory st
  resumed None memory st = over st

  -- a run that was cut off: the answers are those to the requests before the rest, by which these inputs were accepted
  pub record CutOff (input : List ℕ) (accepted : List Input) (old new : Standing) (before after : Option (List ℕ)) (why : RunFault) : Type 0 where
    pub rest : Option (List Request)
    pub memory : List Memory
    pub answers : List ℕ
    pub goes : (later : List Memory) → talk setting (requests_of input) (memory ++ later) old ≡ said answers accepted (resumed rest later new)
    pub written : WrittenUpTo why before after answers

  -- what a whole run answers
  abbrev pub Told : Result RunEnd RunFault → List ℕ → List Input → Standing → Standing → Option (List ℕ) → Option (List ℕ) → Type 0
  Told (Ok by) input accepted old new before after = Answers input accepted old new before after by
  Told (Err why) input accepted old new before after = CutOff input accepted old new before after why

  -- ---- one turn of a run

  -- what follows a request
  abbrev pub behind : Request → List Request → List Memory → Standing → Talk
  behind Quit rest memory st = over st
  behind Bad rest memory st = talk setting rest memory st
  behind Unfit rest memory st = talk setting rest memory st
  behind (Drain turns) rest memory st = talk setting rest memory st
  behind Screen rest memory st = talk setting rest memory st
  behind Faults rest memory st = talk setting rest memory st
  behind Commit rest memory st = talk setting rest memory st
  behind Checkpoint rest memory st = talk setting rest memory st
  behind (Post input) rest memory st = talk setting rest memory st

  -- a request is answered: the text, and how the answers to it and to any requests behind it go on
  pub record Answered (result : Result (Unit {0}) RunFault) (request : Request) (accepted : List Input) (old new : Standing) (before after : Option (List ℕ)) : Type 0 where
    pub memory : List Memory
    pub answer : List ℕ
    pub goes : (rest : List Request) (later : List Memory) → talk setting (request ∷ rest) (memory ++ later) old ≡ said answer accepted (behind request rest later new)
    pub writes : WritesSo result before after answer

  -- a request isn't answered, since the session failed
  pub record Unanswered (accepted : List Input) (old new : Standing) (before after : Option (List ℕ)) : Type 0 where
    pub none : accepted ≡ []
    pub same : new ≡ old
    pub nothing : Appends before after []

  abbrev pub AnswersSo : Result (Unit {0}) RunFault → Request → List Input → Standing → Standing → Option (List ℕ) → Option (List ℕ) → Type 0
  AnswersSo (Ok done) request accepted old new before after = Answered (Ok done) request accepted old new before after
  AnswersSo (Err fault.Write) request accepted old new before after = Answered (Err fault.Write) request accepted old new before after
  AnswersSo (Err fault.Read) request accepted old new before after = ⊥
  AnswersSo (Err fault.Memory) request accepted old new before after = ⊥
  AnswersSo (Err (fault.Session why)) request accepted old new before after = Unanswered accepted old new before after

  -- a run goes on, came to its end, or is cut off
  abbrev pub TurnsSo : Result (Option RunEnd) RunFault → List ℕ → Option (List ℕ) → List Input → Standing → Standing → Option (List ℕ) → Option (List ℕ) → Type 0
  TurnsSo (Ok None) input left accepted old new before after = SoFar input left accepted old new before after
  TurnsSo (Ok (Some by)) input left accepted old new before after = Answers input accepted old new before after by
  TurnsSo (Err why) input left accepted old new before after = CutOff input accepted old new before after why
