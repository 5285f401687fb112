-- A run of calls in phases: what is read and each image now have Q, and each image since the start has P.
use Rattle.std.proofs.Common.{inl, inr, ⊎_elim, ℕ, List, length, Result, arith, sym, subst}
use Rattle.tks_disk.specs.DiskModel.{View, Images, Elapses, Writes, Syncs, TornOn}
use Rattle.tks_disk.specs.declared.disk.Side.{Side}
use Rattle.tks_journal.specs.Moments.{LeavesOnly}

pub record Phase (start now : View) (P Q : Images → Type 0) : Type 0 where
  pub reads : Q now.reads
  pub images : (i : Images) → now.may_leave i → Q i
  pub leaves : LeavesOnly start now P

pub goes_on : (old mid new : View) (P : Images → Type 0) → LeavesOnly old mid P → Elapses mid new → ((i : Images) → new.may_leave i → P i) → LeavesOnly old new P
goes_on old mid new P so_far time here = record {
  later = omega (arith, so_far.later, time.later);
  each = λ i left. ⊎_elim (so_far.each i) (here i) (time.nothing_else old.clock i so_far.later left);
  now = here;
  before = λ t i le left. ⊎_elim (so_far.before t i le) (λ now. inr (here i now)) (time.nothing_else t i (omega (arith, le, so_far.later)) left);
}

-- two runs, one after the other
pub then : (old mid new : View) (P : Images → Type 0) → LeavesOnly old mid P → LeavesOnly mid new P → LeavesOnly old new P
then old mid new P first second = record {
  later = omega (arith, first.later, second.later);
  each = λ i left. ⊎_elim (first.each i) (λ p. p) (second.before old.clock i first.later left);
  now = second.now;
  before = λ t i le left. ⊎_elim (first.before t i le) (λ p. inr p) (second.before t i (omega (arith, le, first.later)) left);
}

pub weaker : (old new : View) (P R : Images → Type 0) → ((i : Images) → P i → R i) → LeavesOnly old new P → LeavesOnly old new R
weaker old new P R f l = record {
  later = l.later;
  each = λ i left. f i (l.each i left);
  now = λ i left. f i (l.now i left);
  before = λ t i le left. ⊎_elim (λ b. inl b) (λ p. inr (f i p)) (l.before t i le left);
}

module _ (P Q : Images → Type 0) (enough : (i : Images) → Q i → P i) where
  pub begun : (v : View) → Q v.reads → ((i : Images) → v.may_leave i → Q i) → ((i : Images) → v.left_since v.clock i → v.may_leave i) → Phase v v P Q
  begun v reads images only_now = record {
    reads = reads;
    images = images;
    leaves = record {
      later = omega arith;
      each = λ i left. enough i (images i (only_now i left));
      now = λ i left. enough i (images i left);
      before = λ t i le left. inl left;
    };
  }

  pub wrote : {E : Type 0} (start mid new : View) (side : Side) (at : ℕ) (bytes : List ℕ) (r : Result (Unit {0}) E) → ((d i : Images) → Q d → TornOn side at (length bytes) d i → Q i)
      → Phase start mid P Q → Writes side at bytes r mid new → Phase start new P Q
  wrote start mid new side at bytes r stays so_far w =
      let images : (i : Images) → new.may_leave i → Q i = λ i left. let from = w.crash i left in stays from.0 i (so_far.images from.0 from.1) from.2 in
      record {
        reads = stays mid.reads new.reads so_far.reads w.torn;
        images = images;
        leaves = goes_on start mid new P so_far.leaves w.time (λ i left. enough i (images i left));
      }

  pub synced : {E : Type 0} (start mid new : View) (side : Side) (r : Result (Unit {0}) E) → Phase start mid P Q → Syncs side r mid new → Phase start new P Q
  synced start mid new side r so_far s = record {
    reads = subst Q (sym s.same) so_far.reads;
    images = λ i left. so_far.images i (s.crash i left);
    leaves = goes_on start mid new P so_far.leaves s.time (λ i left. enough i (so_far.images i (s.crash i left)));
  }

-- the same run, seen by another word for its images
pub turned : (start now : View) (P Q R : Images → Type 0) → Phase start now P Q → R now.reads → ((i : Images) → now.may_leave i → R i) → Phase start now P R
turned start now P Q R so_far reads images = record { reads = reads; images = images; leaves = so_far.leaves }
