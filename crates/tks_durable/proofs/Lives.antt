-- Parts of a durable machine's life, one behind the other.
use Rattle.std.proofs.Common.{◌≡◌, List, [], ◌++◌, Result, Ok, inl, refl, sym, ◌∙◌, ap, arith, subst, append_assoc}
use Rattle.tks_disk.specs.DiskModel.{View, Images}
use Rattle.tks_input.specs.declared.input.Input.{Input}
use Rattle.tks_journal.specs.Moments.{LeavesOnly}
use Rattle.tks_journal.proofs.Phases.{then, weaker}
use Rattle.tks_durable.specs.Crash.{AllOpenTo, OpensToPrefix, Stands}
use Rattle.tks_durable.specs.Lives.{Lives, LeavesPrefixes}
use Rattle.tks_durable.specs.Machine.{Meaning}
use Rattle.tks_durable.specs.Opening.{opens, run}
use Rattle.tks_durable.specs.Durable.{DurableState}
use Rattle.tks_durable.specs.declared.fault.SessionFault.{SessionFault}
use Rattle.tks_durable.proofs.Runs.{run_on}

module _ {W : Type 0} (m : Meaning W) where
  -- a prefix of inputs is one of more inputs
  more : (start : Result W SessionFault) (inputs others : List Input) (i : Images) → OpensToPrefix m start inputs i → OpensToPrefix m start (inputs ++ others) i
  more start inputs others i is = record {
    prefix = is.prefix;
    others = is.others ++ others;
    parts = ap (λ x. x ++ others) is.parts ∙ append_assoc is.prefix is.others others;
    leaves = is.leaves;
  }

module _ {D M W : Type 0} (m : Meaning W) (view : D → View) where
  pub leaves_more : (old new : DurableState D M W) (accepted others : List Input) → LeavesPrefixes m view old new accepted → LeavesPrefixes m view old new (accepted ++ others)
  leaves_more old new accepted others =
      let start = opens m (view old.journal.disk).reads in
      weaker (view old.journal.disk) (view new.journal.disk) (OpensToPrefix m start (old.waiting ++ accepted)) (OpensToPrefix m start (old.waiting ++ (accepted ++ others)))
      (λ i is. subst (λ x. OpensToPrefix m start x i) (append_assoc old.waiting accepted others) (more m start (old.waiting ++ accepted) others i is))

  module _ (old mid : DurableState D M W) (first : List Input) (life : Lives m view old mid first) where
    -- inputs behind those that were put on the disk
    behind : (others : List Input) → old.waiting ++ (first ++ others) ≡ life.stored ++ (mid.waiting ++ others)
    behind others = sym (append_assoc old.waiting first others) ∙ ap (λ x. x ++ others) life.parts ∙ append_assoc life.stored mid.waiting others

    -- what a crash leaves behind them
    from_old : (others : List Input) (i : Images) → OpensToPrefix m (opens m (view mid.journal.disk).reads) (mid.waiting ++ others) i
        → OpensToPrefix m (opens m (view old.journal.disk).reads) (old.waiting ++ (first ++ others)) i
    from_old others i is = record {
      prefix = life.stored ++ is.prefix;
      others = is.others;
      parts = behind others ∙ ap (λ x. life.stored ++ x) is.parts ∙ sym (append_assoc life.stored is.prefix is.others);
      leaves = is.leaves ∙ ap (λ s. run m s is.prefix) life.reads ∙ sym (run_on m (opens m (view old.journal.disk).reads) life.stored is.prefix);
    }

    -- one part behind another
    pub leaves_then : (new : DurableState D M W) (second : List Input) → LeavesPrefixes m view mid new second → LeavesPrefixes m view old new (first ++ second)
    leaves_then new second leaves =
        let v = view old.journal.disk in
        let w = view mid.journal.disk in
        let x = view new.journal.disk in
        let P : Images → Type 0 = OpensToPrefix m (opens m v.reads) (old.waiting ++ (first ++ second)) in
        then v w x P (leaves_more old mid first second life.moments) (weaker w x (OpensToPrefix m (opens m w.reads) (mid.waiting ++ second)) P (from_old second) leaves)

    pub lives_then : (new : DurableState D M W) (second : List Input) → Lives m view mid new second → Lives m view old new (first ++ second)
    lives_then new second next = record {
      moments = leaves_then new second next.moments;
      stored = life.stored ++ next.stored;
      parts = behind second ∙ ap (λ x. life.stored ++ x) next.parts ∙ sym (append_assoc life.stored next.stored new.waiting);
      reads = next.reads ∙ ap (λ s. run m s next.stored) life.reads ∙ sym (run_on m (opens m (view old.journal.disk).reads) life.stored next.stored);
    }

  -- where nothing is called, what is left is what was
  module _ (old new : DurableState D M W) (same : new.journal ≡ old.journal) (all : AllOpenTo m (view old.journal.disk) (opens m (view old.journal.disk).reads))
      (only_now : (i : Images) → (view old.journal.disk).left_since (view old.journal.disk).clock i → (view old.journal.disk).may_leave i) where
    nothing_yet : (inputs : List Input) (i : Images) → (view old.journal.disk).may_leave i → OpensToPrefix m (opens m (view old.journal.disk).reads) inputs i
    nothing_yet inputs i left = record { prefix = []; others = inputs; parts = refl; leaves = all i left }

    pub leaves_idle : (accepted : List Input) → LeavesPrefixes m view old new accepted
    leaves_idle accepted =
        let v = view old.journal.disk in
        let inputs = old.waiting ++ accepted in
        subst (λ j. LeavesOnly v (view j.disk) (OpensToPrefix m (opens m v.reads) inputs)) (sym same)
        (record {
          later = omega arith;
          each = λ i left. nothing_yet inputs i (only_now i left);
          now = λ i left. nothing_yet inputs i left;
          before = λ t i le left. inl left;
        })

    pub lives_idle : (accepted : List Input) → new.waiting ≡ old.waiting ++ accepted → Lives m view old new accepted
    lives_idle accepted waits = record {
      moments = leaves_idle accepted;
      stored = [];
      parts = sym waits;
      reads = ap (λ j. opens m (view j.disk).reads) same;
    }

  -- a commit
  pub lives_committed : (old new : DurableState D M W) → LeavesPrefixes m view old new [] → new.waiting ≡ [] → new.world ≡ old.world
      → Stands m (view old.journal.disk) old.waiting old.world → opens m (view new.journal.disk).reads ≡ Ok new.world → Lives m view old new []
  lives_committed old new moments none same stands opens_so = record {
    moments = moments;
    stored = old.waiting;
    parts = ap (λ x. old.waiting ++ x) (sym none);
    reads = opens_so ∙ ap Ok same ∙ sym stands;
  }
