use Rattle.std.proofs.Common.{◌≡◌, length, drop, rules}
use Rattle.tks_pack.proofs.Areas.{ends}
use Rattle.tks_pack.proofs.packing.areas.Goals as goal

pub returns-in_default : goal.returns-in_default
returns-in_default c =
    let none : length c.loop-across.down.now ≡ 0 = search rules in
    ends c.loop-across.areas.items _ (drop c.loop-across.across-index c.args.horizontal.now) c.loop-across.down.now c.loop-across.invariant none
