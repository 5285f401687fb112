use Rattle.std.proofs.Common.{◌≡◌, [], ◌∷◌, Some, None, sym, ap, ◌∙◌, rules, arith, ◌+◌}
use Rattle.std.specs.Prelude.{slice_get, drop}
use Rattle.std.proofs.lemmas.Option.{slice_get_within}
use Rattle.tks_share.specs.Lines.{line_seen}
use Rattle.tks_share.proofs.AtPlace.{from_item, from_end}
use Rattle.tks_share.proofs.items.ItemsIterator.next.Goals as goal

pub returns-in_err-item-clause-steps : goal.returns-in_err-item-clause-steps
returns-in_err-item-clause-steps g c =
    let all = line_seen c.self.inside.line in
    let ended : slice_get all c.self.inside.next ≡ None = search rules in
    let none : c.args.self.now ≡ [] = sym c.self.view_is ∙ from_end all c.self.inside.next ended in
    search rules

pub overflow_add-self : goal.overflow_add-self
overflow_add-self g c =
    let all = line_seen c.self.inside.line in
    let there : slice_get all c.self.inside.next ≡ Some c.in_ok-item.item.now = search rules in
    omega (arith, slice_get_within all c.self.inside.next c.in_ok-item.item.now there, c.self.invariant.0)

pub returns-clause-steps : goal.returns-clause-steps
returns-clause-steps g c =
    let all = line_seen c.self.inside.line in
    let next = c.self.inside.next in
    let there : slice_get all next ≡ Some c.in_ok-item.field-0.item.now = search rules in
    sym c.self.view_is ∙ from_item all next c.in_ok-item.field-0.item.now there ∙ ap (λ x. x ∷ drop (next + 1) all) (sym c.get.ensures)

pub returns-clause-goes : goal.returns-clause-goes
returns-clause-goes g c = let s = returns-clause-steps g c in search rules
