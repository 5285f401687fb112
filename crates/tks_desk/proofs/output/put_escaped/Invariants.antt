-- What was written, and what is to follow, is the whole.
use Rattle.std.proofs.Common.{◌≡◌, List, ℕ, ◌++◌, drop}
use Rattle.std.specs.Io.KnownBytes.{Appends}
use Rattle.tks_desk.specs.Writing.{escaped}
use Rattle.tks_desk.proofs.output.put_escaped.Given as goal

abbrev pub invariant-loop-byte : goal.invariant-loop-byte
invariant-loop-byte g l =
    (done : List ℕ) × Appends (g.W.Write.contents l.fn.writer) (g.W.Write.contents l.writer) done × (done ++ escaped (drop l.byte-index l.text) ≡ escaped l.text)
