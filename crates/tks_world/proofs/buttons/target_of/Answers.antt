use Rattle.std.proofs.Common.{rules, ◌≡◌, ◌≤◌, ◌==◌, IfSome, sym, subst}
use Rattle.std.specs.List.{find}
use Rattle.tks_world.proofs.Legal.{found_near}
use Rattle.tks_world.proofs.buttons.target_of.Goals as goal

pub target_placed-requires-clause-near : goal.target_placed-requires-clause-near
target_placed-requires-clause-near c =
    let shown = c.in_ok-shown.shown.items in
    let is : c.placed.result ≡ find (λ p. p.window == c.args.window) shown = search rules in
    subst (λ o. IfSome o (λ p. (p.area.x ≤ 200) × (p.area.y ≤ 100))) (sym is) (found_near c.args.world.now.grid c.args.window shown c.bounds.ensures.grid c.in_ok-shown.ensures.inside)
