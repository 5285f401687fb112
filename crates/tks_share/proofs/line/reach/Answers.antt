use Rattle.std.proofs.Common.{◌≡◌, ◌+◌, Some, rules}
use Rattle.std.specs.Prelude.{slice_get}
use Rattle.tks_share.proofs.line.reach.Goals as goal

pub returns-clause-some : goal.returns-clause-some
returns-clause-some g c =
    let there : slice_get c.args.line.now c.args.index ≡ Some c.in_ok-item.item.now = search rules in
    (there, tt)
