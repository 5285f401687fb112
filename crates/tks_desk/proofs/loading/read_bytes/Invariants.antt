-- The bytes that are held were taken, and each was paid for.
use Rattle.tks_desk.specs.Reading.{Pays}
use Rattle.tks_desk.proofs.Loads.{Taken}
use Rattle.tks_desk.proofs.loading.read_bytes.Given as goal

abbrev pub invariant-loop-held : goal.invariant-loop-held
invariant-loop-held g l =
    Taken (g.R.Read.remaining l.fn.reader) (g.R.Read.remaining l.reader) l.length l.held.items × Pays (g.R.Read.remaining l.fn.reader) (g.R.Read.remaining l.reader) l.fn.left l.left

abbrev pub decreases-loop-held : goal.decreases-loop-held
decreases-loop-held g l = l.left
