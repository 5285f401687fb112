use Rattle.tks_desk.proofs.Lines.{pays_on}
use Rattle.tks_desk.proofs.Loads.{taken_more}
use Rattle.tks_desk.proofs.loading.read_bytes.Goals as goal

pub returns-in_err-take_bytes-clause-pays : goal.returns-in_err-take_bytes-clause-pays
returns-in_err-take_bytes-clause-pays g c = pays_on _ _ _ _ _ _ c.loop-held.invariant.1 c.in_err-take_bytes.ensures.pays

pub loop-held-preserved : goal.loop-held-preserved
loop-held-preserved g c =
    let takes = rw c.if-not-branch.false at c.in_ok-take_bytes.ensures.taken in
    (taken_more _ _ _ _ _ _ c.loop-held.invariant.0 takes c.in_ok-take_bytes.ensures.within, pays_on _ _ _ _ _ _ c.loop-held.invariant.1 c.in_ok-take_bytes.ensures.pays)
