use Rattle.tks_disk.proofs.Tearing.{left_leaves}
use Rattle.tks_disk.proofs.Written.{fresh_leaves}
use Rattle.tks_disk.proofs.memory.MemoryDisk.crash.Goals as goal

pub returns-clause-image : goal.returns-clause-image
returns-clause-image c =
    rw (← c.self.view_is, c.of.ensures, c.in_ok-holding.ensures, c.in_ok-holding-2.ensures, c.in_ok-a.ensures, c.in_ok-b.ensures)
    (left_leaves c.args.a c.self.inside.sides.a c.self.invariant.0, left_leaves c.args.b c.self.inside.sides.b c.self.invariant.1)

pub returns-clause-only : goal.returns-clause-only
returns-clause-only c = rw (c.of.ensures, c.in_ok-holding.ensures, c.in_ok-holding-2.ensures) (fresh_leaves c.in_ok-a.a.items c.in_ok-b.b.items)
