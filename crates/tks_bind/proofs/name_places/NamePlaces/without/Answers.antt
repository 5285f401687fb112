use Rattle.std.proofs.Common.{rules, ◌≡◌}
use Rattle.std.specs.FinMap as map
use Rattle.tks_bind.proofs.Naming.{placed_removed}
use Rattle.tks_bind.proofs.name_places.NamePlaces.without.Goals as goal

pub remove-requires-2 : goal.remove-requires-2
remove-requires-2 c = rw c.in_ok-places.ensures c.requires

pub returns : goal.returns
returns c vs placed differ at =
    let p = c.args.self.now in
    let numbers : c.remove.new.self ≡ map.remove p.numbers c.args.name.now = search rules in
    rw (numbers, c.in_ok-remove-2.ensures.ok, c.in_ok-places.ensures) (placed_removed p vs placed differ c.args.name.now c.args.index at)
