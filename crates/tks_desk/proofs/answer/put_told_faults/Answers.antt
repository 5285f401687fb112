use Rattle.std.proofs.Common.{◌++◌, ◌∙◌, sym, ap, subst, append_assoc}
use Rattle.std.proofs.KnownBytes.{Appends-trans}
use Rattle.tks_desk.specs.Writing.{WritesSo}
use Rattle.tks_desk.specs.Answers.{faults_told}
use Rattle.tks_desk.proofs.Writes.{then, longer, exit}
use Rattle.tks_desk.proofs.answer.put_told_faults.Goals as goal

pub returns-in_err-put_told_fault : goal.returns-in_err-put_told_fault
returns-in_err-put_told_fault g c =
    let so_far = c.loop-fault.invariant in
    let next = ap faults_told c.in-Some.ensures.steps in
    let failed = c.from_residual.ensures in
    subst (WritesSo _ _ _) (ap (λ l. so_far.0 ++ l) (sym next) ∙ so_far.2)
    (then _ _ _ _ so_far.0 _ so_far.1 (longer _ _ _ _ _ failed.0 (exit _ _ _ _ _ failed.1 c.in_err-put_told_fault.ensures)))

pub loop-fault-preserved : goal.loop-fault-preserved
loop-fault-preserved g c =
    let so_far = c.loop-fault.invariant in
    let next = ap faults_told c.in-Some.ensures.steps in (
      so_far.0 ++ _,
      Appends-trans _ _ _ so_far.0 _ so_far.1 c.in_ok-put_told_fault.ensures,
      append_assoc so_far.0 _ _ ∙ ap (λ l. so_far.0 ++ l) (sym next) ∙ so_far.2,
    )
