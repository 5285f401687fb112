use Rattle.std.proofs.Common.{rules, ◌≡◌, ◌-◌, ◌∙◌, sym, length, slice_get, Some}
use Rattle.tks_bind.proofs.Turning.{last_told}
use Rattle.tks_bind.proofs.way.last_has_detail.Goals as goal

pub returns-in-Some : goal.returns-in-Some
returns-in-Some c =
    let there : slice_get c.args.patterns.now (length c.args.patterns.now - 1) ≡ Some c.in-Some.pattern.now = search rules in
    c.has_detail.ensures ∙ sym (last_told c.args.patterns.now c.in-Some.pattern.now there)
