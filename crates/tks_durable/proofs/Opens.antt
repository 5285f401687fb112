-- Runs of calls that write nothing, and what opening finds.
use Rattle.std.proofs.Common.{◌≡◌, ◌∙◌, inl, List, [], ◌∷◌, ℕ, Some, None, Option, Ok, Err, Result, IfErr, refl, sym, ap, arith}
use Rattle.std.specs.Prelude.{MatchResult}
use Rattle.tks_spelling.specs.declared.format.Format.{Format}
use Rattle.tks_spelling.specs.declared.header.Header.{Header}
use Rattle.tks_disk.specs.DiskModel.{View, Images}
use Rattle.tks_disk.specs.declared.disk.Side.{Side}
use Rattle.tks_journal.specs.Moments.{LeavesOnly}
use Rattle.tks_journal.specs.Opening.{Unwritten}
use Rattle.tks_journal.specs.Sides.{holds, kept}
use Rattle.tks_journal.proofs.Phases.{then, weaker}
use Rattle.tks_input.specs.declared.input.Input.{Input}
use Rattle.tks_input.specs.declared.input.Input.TheVariants.{Script, KeyPress, KeyRelease, Press, Release, Clock, Turn, Rules}
use Rattle.tks_input.specs.declared.reply.Refused.{Refused}
use Rattle.tks_input.specs.declared.reply.Refused.TheVariants as refused
use Rattle.tks_durable.specs.Crash.{OfBytes, OpenFails, OpensAsOneOf, OpensSo}
use Rattle.tks_durable.specs.Machine.{Meaning, Stepped, accepts, refuses}
use Rattle.tks_durable.specs.Opening.{admitted, begun, fault_of, fault_of_bad, opened, opens, reached, restored, run, then_input, with_bodies, with_inputs}
use Rattle.tks_durable.specs.declared.fault.SessionFault.{SessionFault}
use Rattle.tks_durable.specs.declared.fault.SessionFault.TheVariants.{Damaged}
use Rattle.tks_durable.specs.declared.fault.SessionFault.TheVariants as fault

pub unwritten_on : (old mid new : View) → Unwritten old mid → Unwritten mid new → Unwritten old new
unwritten_on old mid new first second = record {
  same = second.same ∙ first.same;
  leaves = then old mid new old.may_leave first.leaves (weaker mid new mid.may_leave old.may_leave first.leaves.now second.leaves);
}

pub unwritten_yet : (v : View) → ((i : Images) → v.left_since v.clock i → v.may_leave i) → Unwritten v v
unwritten_yet v only_now = record {
  same = refl;
  leaves = record { later = omega arith; each = only_now; now = λ i left. left; before = λ t i le left. inl left };
}

module _ {W : Type 0} (m : Meaning W) (live : Side) (format : Format) (header : Header) (bytes : List ℕ) where
  -- a world that is stored, and the frames behind it
  pub stored_opens : (world : W) (others : Option (List (List ℕ))) → m.stored format header bytes ≡ Some world → opened m (kept live format header bytes others) ≡ with_bodies m format (admitted m header world) others
  stored_opens world None is = refl
  stored_opens world (Some bodies) is = ap (λ o. restored m format header o bodies) is

  pub none_opens : (others : Option (List (List ℕ))) → m.stored format header bytes ≡ None → opened m (kept live format header bytes others) ≡ Err Damaged
  none_opens None is = refl
  none_opens (Some bodies) is = ap (λ o. restored m format header o bodies) is

module _ {W : Type 0} where
  reached_fault : (input : Input) (stepped : Stepped W) → IfErr (reached input stepped) OfBytes
  reached_fault input (accepts world reply) = tt
  reached_fault input (refuses why) = why_fault input why
    where
      bad_fault : (input : Input) → OfBytes (fault_of_bad input)
      bad_fault (Script text) = tt
      bad_fault (KeyPress key) = tt
      bad_fault (KeyRelease key) = tt
      bad_fault (Press button x y) = tt
      bad_fault (Release button x y) = tt
      bad_fault (Clock time) = tt
      bad_fault Turn = tt
      bad_fault (Rules number) = tt

      why_fault : (input : Input) (why : Refused) → OfBytes (fault_of input why)
      why_fault input refused.BadInput = bad_fault input
      why_fault input refused.Budget = tt
      why_fault input refused.Depth = tt
      why_fault input refused.TooLarge = tt
      why_fault input refused.ClockBack = tt
      why_fault input refused.PendingFull = tt
      why_fault input refused.NoMemory = tt
      why_fault input refused.Quiet = tt
      why_fault input refused.Failed = tt

-- a run adds no other faults than bytes have
module _ {W : Type 0} (m : Meaning W) where
  next_fault : (start : Result W SessionFault) (input : Input) → IfErr start OfBytes → IfErr (then_input m start input) OfBytes
  next_fault (Err fault) input of = of
  next_fault (Ok world) input of = reached_fault input (m.step world input)

  run_fault : (start : Result W SessionFault) (inputs : List Input) → IfErr start OfBytes → IfErr (run m start inputs) OfBytes
  run_fault start [] of = of
  run_fault start (input ∷ inputs) of = run_fault (then_input m start input) inputs (next_fault start input of)

  pub bytes_fault : (start : Result W SessionFault) (found : Option (List Input)) → IfErr start OfBytes → IfErr (with_inputs m start found) OfBytes
  bytes_fault start None of = tt
  bytes_fault start (Some inputs) of = run_fault start inputs of

pub own_fault : {W : Type 0} (m : Meaning W) (honest : Type 0) (result : Result W SessionFault) (before after : ℕ) (why : SessionFault) → OfBytes why → after ≡ before → (honest → result ≡ Err why) → OpenFails m honest result before after why
own_fault m honest result before after fault.Disk of same own = absurd of
own_fault m honest result before after fault.NoMemory of same own = absurd of
own_fault m honest result before after fault.TooLarge of same own = absurd of
own_fault m honest result before after fault.Failed of same own = absurd of
own_fault m honest result before after fault.Damaged of same own = (same, own)
own_fault m honest result before after fault.OtherCommands of same own = (same, own)
own_fault m honest result before after fault.OtherGrid of same own = (same, own)
own_fault m honest result before after fault.SmallerLimits of same own = (same, own)
own_fault m honest result before after fault.Version of same own = (same, own)

-- what a crash leaves while a disk is opened
module _ {W : Type 0} (m : Meaning W) (v mid new : View) (first : Unwritten v mid) where
  kept_one : (i : Images) → v.may_leave i → OpensAsOneOf m v.may_leave i
  kept_one i left = record { one = i; is_one = left; same = refl }

  pub stored_moments : Unwritten mid new → LeavesOnly v new (OpensAsOneOf m v.may_leave)
  stored_moments second = weaker v new v.may_leave (OpensAsOneOf m v.may_leave) kept_one (unwritten_on v mid new first second).leaves

  pub first_moments : v.may_leave v.reads → holds v.reads ≡ Ok None → LeavesOnly mid new (OpensSo m (begun m)) → LeavesOnly v new (OpensAsOneOf m v.may_leave)
  first_moments reads nothing second =
      let begins : opens m v.reads ≡ begun m = ap (opened m) nothing in
      then v mid new (OpensAsOneOf m v.may_leave) (weaker v mid v.may_leave (OpensAsOneOf m v.may_leave) kept_one first.leaves)
      (weaker mid new (OpensSo m (begun m)) (OpensAsOneOf m v.may_leave) (λ i so. record { one = v.reads; is_one = reads; same = so ∙ sym begins }) second)

pub each_way : {A E : Type 0} {P R : A → Type 0} {Q S : E → Type 0} (r : Result A E) → ((a : A) → P a → R a) → ((e : E) → Q e → S e) → MatchResult r P Q → MatchResult r R S
each_way (Ok a) f g p = f a p
each_way (Err e) f g q = g e q
