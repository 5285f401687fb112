use Rattle.std.proofs.Common.{rules, ◌≡◌, ◌-◌, false, true, length, slice_get, None}
use Rattle.tks_bind.proofs.Noting.{none_occurs}
use Rattle.tks_bind.proofs.search.occurs.Goals as goal

pub returns-in_default : goal.returns-in_default
returns-in_default c =
    let none : slice_get c.args.history.now (length c.args.history.now - 1) ≡ None = search rules in
    (λ e. absurd (let g : false ≡ true = e in cc), λ o. absurd (none_occurs c.args.sequence.now c.args.history.now none o))
