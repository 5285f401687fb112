use Rattle.tks_queue.proofs.Filtering.{stays_legal}
use Rattle.tks_queue.proofs.queue.Queue.retain.Goals as goal

pub invariant_of-self : goal.invariant_of-self
invariant_of-self g c = stays_legal c.requires.decided c.retain.result c.self.inside.events c.retain.new.self c.self.invariant c.retain.ensures.ok c.retain.ensures.err
