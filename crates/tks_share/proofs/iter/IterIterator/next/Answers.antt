use Rattle.std.proofs.Common.{◌∷◌, sym, ◌∙◌, ap, rules}
use Rattle.std.specs.Prelude.{option_copied}
use Rattle.tks_share.specs.Names.{behind}
use Rattle.tks_share.proofs.Going.{steps}
use Rattle.tks_share.proofs.iter.IterIterator.next.Goals as goal

pub returns-clause-steps : goal.returns-clause-steps
returns-clause-steps g c =
    let all = c.self.inside.tree.now in
    let bytes = c.as_bytes.ensures ∙ c.get-name.ensures in
    let sought = c.sought.ensures ∙ c.get-name.ensures in
    sym c.self.view_is
    ∙ steps all c.self.inside.ahead c.in-Some.entry.now c.self.invariant (sym (ap option_copied c.in-Some.is) ∙ c.next_of.ensures)
    ∙ (λ i. (sym bytes i, sym c.get.ensures i) ∷ behind (sym sought i) all)

pub returns-clause-goes : goal.returns-clause-goes
returns-clause-goes g c = let s = returns-clause-steps g c in search rules
