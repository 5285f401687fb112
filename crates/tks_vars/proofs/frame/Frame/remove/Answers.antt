use Rattle.std.proofs.Common.{◌≡◌, ◌-◌, true, false, sym, ap, ◌∙◌, rules}
use Rattle.std.specs.FinMap as fin
use Rattle.tks_vars.proofs.Firsts.{not_there, len_taken}
use Rattle.tks_vars.proofs.frame.Frame.remove.Goals as goal

pub returns-then-not-contains-clause-ok : goal.returns-then-not-contains-clause-ok
returns-then-not-contains-clause-ok c =
    let out : fin.contains_key c.args.self.now c.args.name.now ≡ false = search rules in
    not_there c.args.self.now c.args.name.now out

pub invariant_of-self-2 : goal.invariant_of-self-2
invariant_of-self-2 c =
    let there : fin.contains_key c.args.self.now c.args.name.now ≡ true = search rules in
    let all = c.self.view_is in
    c.saturating_sub-self-inside.ensures ∙ ap (λ n. n - 1) (c.self.invariant ∙ ap fin.len all) ∙ len_taken c.args.self.now c.args.name.now there
    ∙ ap (λ m. fin.len (fin.remove m c.args.name.now)) (sym all) ∙ ap fin.len (sym c.in_ok-take.ensures.ok)
