use Rattle.std.proofs.Common.{sym, ◌∙◌}
use Rattle.tks_share.proofs.AtPlace.{from_item}
use Rattle.tks_bind.proofs.past.PastEventsIterator.next.Goals as goal

pub returns-clause-steps : goal.returns-clause-steps
returns-clause-steps c = sym c.self.view_is ∙ from_item c.self.inside.history.now c.self.inside.next c.at-event.result.now c.at-event.ensures
