-- When a durable machine is full, and what a refused input says of it.
use Rattle.std.proofs.Common.{◌≡◌, ◌<◌, ◌≤◌, ℕ, ◌+◌, ◌∷◌, [], ◌++◌, Bool, true, false, not, ◌||◌, List, length, nat_le, Result, Ok, refl, ◌∙◌, ap, arith}
use Rattle.std.proofs.lemmas.Bool.Decides.{nat_tests}
use Rattle.std.proofs.lemmas.List.{length-append}
use Rattle.tks_spelling.specs.Input as codec
use Rattle.tks_spelling.specs.Input.{text_of}
use Rattle.tks_input.specs.declared.input.Input.{Input}
use Rattle.tks_input.specs.declared.reply.Refused.{Refused}
use Rattle.tks_input.specs.declared.reply.Refused.TheVariants.{BadInput, ClockBack, PendingFull, Budget, Depth, TooLarge, NoMemory, Quiet, Failed}
use Rattle.tks_input.specs.declared.reply.Reply.{Reply}
use Rattle.tks_journal.specs.Journal.{JournalState}
use Rattle.tks_durable.specs.Inputs.{inputs_in, spelled}
use Rattle.tks_durable.specs.Machine.{Meaning, accepts}
use Rattle.tks_durable.specs.Opening.{reached, run}
use Rattle.tks_durable.specs.Refusing.{PostRefused, RoomRefused}
use Rattle.tks_durable.specs.Durable.{DurableState, IsPending, has_room_at, is_full, or_none}
use Rattle.tks_durable.specs.declared.fault.SessionFault.{SessionFault}
use Rattle.tks_durable.proofs.Pending.{how_long, how_many}
use Rattle.tks_durable.proofs.Runs.{run_on}

full_is : {D : Type 0} (pending : ℕ) (journal : JournalState D) (waiting : List Input) (input : Input) (many room : Bool) → nat_le pending (length waiting) ≡ many
    → has_room_at journal.format journal.gate (length (spelled waiting) + length (codec.input.write input)) ≡ room → is_full pending journal waiting input ≡ (many || not room)
full_is pending journal waiting input many room m r = ap (λ b. b || not (has_room_at journal.format journal.gate (length (spelled waiting) + length (codec.input.write input)))) m ∙ ap (λ b. many || not b) r

module _ {D : Type 0} (pending : ℕ) (journal : JournalState D) (body : List ℕ) (count : ℕ) (p : IsPending body count) (input : Input) where
  pub full_by_count : pending ≤ count → is_full pending journal (or_none (inputs_in body)) input ≡ true
  full_by_count le =
      let many : nat_le pending (length (or_none (inputs_in body))) ≡ true = ap (nat_le pending) (how_many body count p) ∙ grind (arith, nat_tests) in
      full_is pending journal (or_none (inputs_in body)) input true _ many refl

  -- how long the body is with it
  size_with : (longer : List ℕ) (size : ℕ) → longer ≡ body ++ codec.input.write input → size ≡ length longer → length (spelled (or_none (inputs_in body))) + length (codec.input.write input) ≡ size
  size_with longer size is e = omega (arith, how_long body count p, ap length is, length-append body (codec.input.write input))

  pub full_by_room : count < pending → (longer : List ℕ) (size : ℕ) (room : Bool) → longer ≡ body ++ codec.input.write input → size ≡ length longer → has_room_at journal.format journal.gate size ≡ room
      → is_full pending journal (or_none (inputs_in body)) input ≡ not room
  full_by_room lt longer size room is e r =
      let few : nat_le pending (length (or_none (inputs_in body))) ≡ false = ap (nat_le pending) (how_many body count p) ∙ grind (arith, nat_tests) in
      full_is pending journal (or_none (inputs_in body)) input false room few (ap (has_room_at journal.format journal.gate) (size_with longer size is e) ∙ r)

-- what a refused step says of a machine that works
pub post_refused : {D M W : Type 0} (m : Meaning W) (s : DurableState D M W) (input : Input) (why : Refused) (room : Bool) → s.journal.failed ≡ false
    → is_full m.pending s.journal s.waiting input ≡ not room → RoomRefused why room (m.step s.world input) → PostRefused m s input why
post_refused m s input PendingFull room works full says = (works, full ∙ ap not says)
post_refused m s input Failed room works full says = absurd says
post_refused m s input NoMemory room works full says = works
post_refused m s input BadInput room works full says = record { working = works; room = full ∙ ap not says.0; refused = says.1 }
post_refused m s input ClockBack room works full says = record { working = works; room = full ∙ ap not says.0; refused = says.1 }
post_refused m s input Budget room works full says = record { working = works; room = full ∙ ap not says.0; refused = says.1 }
post_refused m s input Depth room works full says = record { working = works; room = full ∙ ap not says.0; refused = says.1 }
post_refused m s input TooLarge room works full says = record { working = works; room = full ∙ ap not says.0; refused = says.1 }
post_refused m s input Quiet room works full says = record { working = works; room = full ∙ ap not says.0; refused = says.1 }

-- an input more was accepted
pub stands_on : {W : Type 0} (m : Meaning W) (start : Result W SessionFault) (waiting longer : List Input) (input : Input) (world next : W) (reply : Reply) → longer ≡ waiting ++ input ∷ []
    → run m start waiting ≡ Ok world → m.step world input ≡ accepts next reply → run m start longer ≡ Ok next
stands_on m start waiting longer input world next reply is so_far accepted =
    ap (run m start) is ∙ run_on m start waiting (input ∷ []) ∙ ap (λ o. run m o (input ∷ [])) so_far ∙ ap (reached input) accepted
