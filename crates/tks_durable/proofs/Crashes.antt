-- What a crash leaves of a commit.
use Rattle.std.proofs.Common.{◌≡◌, inl, ⊎_elim, ℕ, List, [], ◌∷◌, Option, Some, Result, Ok, refl, sym, ◌∙◌, ap, arith, append-nil, false, subst}
use Rattle.tks_disk.specs.DiskModel.{View, Images}
use Rattle.tks_disk.specs.declared.disk.Side.{Side}
use Rattle.tks_input.specs.declared.input.Input.{Input}
use Rattle.tks_journal.specs.Moments.{LeavesOnly, IsSettled}
use Rattle.tks_journal.specs.Resting.{AllHold, OneOf, begun_as}
use Rattle.tks_journal.specs.Sides.{Kept, holds, with_frames, live_of}
use Rattle.tks_journal.specs.declared.fault.SideFault.{SideFault}
use Rattle.tks_journal.proofs.Phases.{weaker}
use Rattle.tks_spelling.specs.declared.format.Format.{Format}
use Rattle.tks_spelling.specs.declared.header.Header.{Header}
use Rattle.tks_durable.specs.Crash.{AllOpenTo, HoldsAcknowledged, OpensToCount, OpensToPrefix, Stands}
use Rattle.tks_durable.specs.Durable.{DurableState}
use Rattle.tks_durable.specs.Inputs.{frame_in}
use Rattle.tks_durable.specs.Machine.{Meaning}
use Rattle.tks_durable.specs.Opening.{opened, opens, run}
use Rattle.tks_durable.proofs.Runs.{frame_more}

module _ {W : Type 0} (m : Meaning W) (reads : Images) (live : Side × Format × ℕ) (body : List ℕ) (inputs : List Input) (is_live : live_of (holds reads) ≡ Some live) (are : frame_in live.1 body ≡ Some inputs) where
  -- with the frame or without it
  either : (i : Images) → OneOf (holds reads) (with_frames (body ∷ []) (holds reads)) i → OpensToPrefix m (opens m reads) inputs i
  either i = ⊎_elim
      (λ without. record { prefix = []; others = inputs; parts = refl; leaves = ap (opened m) without })
      (λ with_it. record { prefix = inputs; others = []; parts = sym (append-nil inputs); leaves = ap (opened m) with_it ∙ frame_more m (holds reads) live body inputs is_live are })

  pub any_moment : (old new : View) → LeavesOnly old new (OneOf (holds reads) (with_frames (body ∷ []) (holds reads))) → LeavesOnly old new (OpensToPrefix m (opens m reads) inputs)
  any_moment old new = weaker old new (OneOf (holds reads) (with_frames (body ∷ []) (holds reads))) (OpensToPrefix m (opens m reads) inputs) either

-- between two calls, where all is synced
module _ {W : Type 0} (m : Meaning W) (v : View) (settled : IsSettled v) where
  pub idle_opens : (world : W) → Stands m v [] world → AllOpenTo m v (Ok world)
  idle_opens world stands i left = ap (opens m) (settled i left) ∙ stands

  as_read : (inputs : List Input) (i : Images) → i ≡ v.reads → OpensToPrefix m (opens m v.reads) inputs i
  as_read inputs i same = record { prefix = []; others = inputs; parts = refl; leaves = ap (opens m) same }

  pub idle_moments : ((i : Images) → v.left_since v.clock i → v.may_leave i) → (inputs : List Input) → LeavesOnly v v (OpensToPrefix m (opens m v.reads) inputs)
  idle_moments only_now inputs = record {
    later = omega arith;
    each = λ i left. as_read inputs i (settled i (only_now i left));
    now = λ i left. as_read inputs i (settled i left);
    before = λ t i le left. inl left;
  }

-- behind a commit
module _ {W : Type 0} (m : Meaning W) (v new : View) (live : Side × Format × ℕ) (body : List ℕ) (inputs : List Input) (world : W) (is_live : live_of (holds v.reads) ≡ Some live) (are : frame_in live.1 body ≡ Some inputs)
    (stands : Stands m v inputs world) (all : AllHold new (with_frames (body ∷ []) (holds v.reads))) where
  opens_so : opened m (with_frames (body ∷ []) (holds v.reads)) ≡ Ok world
  opens_so = frame_more m (holds v.reads) live body inputs is_live are ∙ stands

  pub written_stands : Stands m new [] world
  written_stands = ap (opened m) all.reads ∙ opens_so

  pub written_opens : AllOpenTo m new (Ok world)
  written_opens i left = ap (opened m) (all.images i left) ∙ opens_so

-- a side that was begun opens to the world
module _ {W : Type 0} (m : Meaning W) (begun : Result (Option Kept) SideFault) (world : W) (opens_so : opened m begun ≡ Ok world) where
  module _ (v : View) (inputs : List Input) (stands : Stands m v inputs world) where
    -- what was held, or that side
    either_side : (i : Images) → OneOf (holds v.reads) begun i → OpensToPrefix m (opens m v.reads) inputs i
    either_side i = ⊎_elim
        (λ before. record { prefix = []; others = inputs; parts = refl; leaves = ap (opened m) before })
        (λ behind. record { prefix = inputs; others = []; parts = sym (append-nil inputs); leaves = ap (opened m) behind ∙ opens_so ∙ sym stands })

    pub begun_moments : (new : View) → LeavesOnly v new (OneOf (holds v.reads) begun) → LeavesOnly v new (OpensToPrefix m (opens m v.reads) inputs)
    begun_moments new = weaker v new (OneOf (holds v.reads) begun) (OpensToPrefix m (opens m v.reads) inputs) either_side

  module _ (new : View) (all : AllHold new begun) where
    pub begun_stands : Stands m new [] world
    begun_stands = ap (opened m) all.reads ∙ opens_so

    pub begun_opens : AllOpenTo m new (Ok world)
    begun_opens i left = ap (opened m) (all.images i left) ∙ opens_so

-- what begins a side opens to the same where its bytes are held by another
pub held_opens : {W : Type 0} (m : Meaning W) (live : Side) (header : Header) (world : W) (held bytes : List ℕ) → held ≡ bytes → opened m (begun_as live header bytes) ≡ Ok world
    → opened m (begun_as live header held) ≡ Ok world
held_opens m live header world held bytes same opens_so = subst (λ l. opened m (begun_as live header l) ≡ Ok world) (sym same) opens_so

-- a crash within a call that began the other side with the state, or failed in it
pub begun_within : {D M W : Type 0} (meaning : M → Meaning W) (honest : D → Type 0) (view : D → View) (begun : Result (Option Kept) SideFault) (new : View) {s t : DurableState D M W} → s ≡ t
    → opened (meaning s.machine) begun ≡ Ok s.world
    → (s.journal.failed ≡ false → honest s.journal.disk → Stands (meaning s.machine) (view s.journal.disk) s.waiting s.world)
    → (honest s.journal.disk → LeavesOnly (view s.journal.disk) new (OneOf (holds (view s.journal.disk).reads) begun))
    → t.journal.failed ≡ false → honest t.journal.disk → LeavesOnly (view t.journal.disk) new (OpensToPrefix (meaning t.machine) (opens (meaning t.machine) (view t.journal.disk).reads) t.waiting)
begun_within meaning honest view begun new {s = s} is opens_so stands any =
    subst (λ t. t.journal.failed ≡ false → honest t.journal.disk → LeavesOnly (view t.journal.disk) new (OpensToPrefix (meaning t.machine) (opens (meaning t.machine) (view t.journal.disk).reads) t.waiting)) is
    (λ works h. begun_moments (meaning s.machine) begun s.world opens_so (view s.journal.disk) s.waiting (stands works h) new (any h))

-- what is opened after a crash, behind what was acknowledged
pub keeps_acknowledged : {W : Type 0} (m : Meaning W) (reads : Images) (acknowledged : ℕ) (waiting : List Input) (images : Images) (world : W)
    → OpensToCount m reads acknowledged → OpensToPrefix m (opens m reads) waiting images → opens m images ≡ Ok world → HoldsAcknowledged m reads acknowledged waiting world
keeps_acknowledged m reads acknowledged waiting images world at some is = record {
  start = at.world;
  opened = at.opened;
  counted = at.counted;
  behind = record {
    prefix = some.prefix;
    others = some.others;
    parts = some.parts;
    leaves = ap (λ r. run m r some.prefix) (sym at.opened) ∙ sym some.leaves ∙ is;
  };
}
