use Rattle.std.proofs.Common.{length}
use Rattle.tks_disk.proofs.Written.{written_consistent, writes}
use Rattle.tks_disk.proofs.memory.MemoryDiskDisk.write_at.Goals as goal

pub invariant_of-self : goal.invariant_of-self
invariant_of-self c = written_consistent c.args.side c.args.at c.args.bytes.now c.self.inside.sides c.write_at.new.self c.self.invariant c.in-Ok.ensures.written

pub returns-in-Ok-clause-honesty : goal.returns-in-Ok-clause-honesty
returns-in-Ok-clause-honesty c =
    rw (← c.self.view_is)
    ((λ h. written_consistent c.args.side c.args.at c.args.bytes.now c.self.inside.sides c.write_at.new.self c.self.invariant c.in-Ok.ensures.written), (λ h. c.self.invariant))

pub returns-in-Ok-clause-writes : goal.returns-in-Ok-clause-writes
returns-in-Ok-clause-writes c =
    rw (← c.self.view_is)
    (λ h. writes c.args.side c.args.at c.args.bytes.now
    (record { sides = c.self.inside.sides; past = c.self.inside.past; failures = length c.self.inside.failed })
    (record { sides = c.write_at.new.self; past = c.and.result; failures = length c.self.inside.failed }) h c.in-Ok.ensures.written c.and.ensures)
