use Rattle.std.proofs.Common.{◌≡◌, sym, subst, ap, ◌∙◌}
use Rattle.std.specs.List.{insert}
use Rattle.tks_timer.specs.Order.{AreInTurn, put}
use Rattle.tks_timer.proofs.Ordering.{put_there, put_in_turn}
use Rattle.tks_timer.proofs.order.Order.put.Goals as goal

pub invariant_of-self-2 : goal.invariant_of-self-2
invariant_of-self-2 c =
    let turns = c.self.inside.turns in
    let at = c.place-place.ensures.value ∙ ap (Rattle.tks_timer.specs.Order.place c.args.turn) (sym c.self.view_is) in
    let there : c.insert.new.self ≡ put c.args.turn turns = c.in_ok-insert.ensures.ok ∙ ap (λ n. insert turns n c.args.turn) at ∙ put_there c.args.turn turns in
    subst AreInTurn (sym there) (put_in_turn c.args.turn turns c.self.invariant)

pub returns-clause-ok : goal.returns-clause-ok
returns-clause-ok c =
    let turns = c.self.inside.turns in
    let at = c.place-place.ensures.value ∙ ap (Rattle.tks_timer.specs.Order.place c.args.turn) (sym c.self.view_is) in
    let there : c.insert.new.self ≡ put c.args.turn turns = c.in_ok-insert.ensures.ok ∙ ap (λ n. insert turns n c.args.turn) at ∙ put_there c.args.turn turns in
    there ∙ ap (put c.args.turn) c.self.view_is
