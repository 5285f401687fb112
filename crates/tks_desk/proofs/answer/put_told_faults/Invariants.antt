-- What was written, and what is to follow, is the whole.
use Rattle.std.proofs.Common.{◌≡◌, List, ℕ, ◌++◌}
use Rattle.std.specs.Io.KnownBytes.{Appends}
use Rattle.tks_desk.specs.Answers.{faults_told}
use Rattle.tks_desk.proofs.answer.put_told_faults.Given as goal

abbrev pub invariant-loop-fault : goal.invariant-loop-fault
invariant-loop-fault g l =
    (done : List ℕ) × Appends (g.W.Write.contents l.fn.writer) (g.W.Write.contents l.writer) done × (done ++ faults_told l.fault-iterator ≡ faults_told l.fn.faults)
