use Rattle.std.proofs.Common.{ap, ◌∙◌}
use Rattle.tks_timer.specs.After.{is_sooner}
use Rattle.tks_timer.specs.Order.{place}
use Rattle.tks_timer.proofs.Ordering.{parted}
use Rattle.tks_timer.proofs.order.Order.place.Goals as goal

pub returns-clause-value : goal.returns-clause-value
returns-clause-value c =
    let turns = c.self.inside.turns in
    c.partition_point.ensures.place (λ t. is_sooner t c.args.turn) (λ x b h. h) (parted c.args.turn turns c.self.invariant)
    ∙ ap (place c.args.turn) c.self.view_is
