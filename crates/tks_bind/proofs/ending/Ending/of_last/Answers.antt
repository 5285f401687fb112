use Rattle.std.proofs.Common.{rules, ◌≡◌, ◌-◌, length, slice_get, Some}
use Rattle.tks_bind.proofs.Turning.{ending_told}
use Rattle.tks_bind.proofs.ending.Ending.of_last.Goals as goal

pub returns-in-Some : goal.returns-in-Some
returns-in-Some c =
    let there : slice_get c.args.sequence.now (length c.args.sequence.now - 1) ≡ Some c.in-Some.pattern.now = search rules in
    let told = ending_told c.args.sequence.now c.in-Some.pattern.now there in
    search rules
