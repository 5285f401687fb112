use Rattle.std.proofs.Common.{◌≡◌, Some, sym, ◌∙◌, rules}
use Rattle.std.specs.Prelude.{slice_get}
use Rattle.tks_share.proofs.AtPlace.{next_of, part_goes_on}
use Rattle.tks_share.proofs.line.step.Goals as goal

pub returns-clause-some : goal.returns-clause-some
returns-clause-some g c =
    let part = c.args.part.now in
    let all = c.args.line.now in
    let there : slice_get part.tree.now part.place ≡ Some c.in_ok-item.item.now = search rules in
    (sym (next_of part c.args.index all c.requires.follows c.requires.more) ∙ there, part_goes_on part c.args.index all c.requires.follows)
