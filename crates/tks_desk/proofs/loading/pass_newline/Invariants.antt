-- Nothing was passed over, and what was tried was paid for.
use Rattle.std.specs.Io.KnownBytes.{Keeps}
use Rattle.tks_desk.specs.Reading.{Pays}
use Rattle.tks_desk.proofs.loading.pass_newline.Given as goal

abbrev pub invariant-loop-intake : goal.invariant-loop-intake
invariant-loop-intake g l =
    Keeps (g.R.Read.remaining l.fn.reader) (g.R.Read.remaining l.reader) × Pays (g.R.Read.remaining l.fn.reader) (g.R.Read.remaining l.reader) l.fn.intake.left l.intake.left

abbrev pub decreases-loop-intake : goal.decreases-loop-intake
decreases-loop-intake g l = l.intake.left
