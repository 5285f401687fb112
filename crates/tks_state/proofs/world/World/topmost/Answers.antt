use Rattle.std.proofs.Common.{rules, ◌≡◌, IfSome, sym, subst}
use Rattle.tks_state.specs.Layout.{last_over, IsShownOn, AllShownOn}
use Rattle.tks_state.proofs.Layouts.{last_inside}
use Rattle.tks_state.proofs.world.World.topmost.Goals as goal

pub returns-in-Some-clause-inside : goal.returns-in-Some-clause-inside
returns-in-Some-clause-inside c =
    let g = c.args.self.now.grid in
    let shown = c.in-Some.shown.now in
    let seen : c.last_over.result ≡ last_over shown c.args.column c.args.row = search rules in
    let inside : AllShownOn g shown = search rules in
    subst (λ o. IfSome o (IsShownOn g)) (sym seen) (last_inside g shown c.args.column c.args.row inside)

pub returns-clause-inside : goal.returns-clause-inside
returns-clause-inside c =
    let g = c.args.self.now.grid in
    let found = c.in_ok-found.found.shown in
    let seen : c.last_over-2.result ≡ last_over found c.args.column c.args.row = search rules in
    let inside : AllShownOn g found = search rules in
    subst (λ o. IfSome o (IsShownOn g)) (sym seen) (last_inside g found c.args.column c.args.row inside)
