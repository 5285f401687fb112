use Rattle.std.proofs.Common.{◌≡◌, ap, sym, subst, ◌∙◌}
use Rattle.std.proofs.lemmas.List.{drop_all}
use Rattle.tks_opt.specs.Options.{Legal, first_options}
use Rattle.tks_opt.proofs.Values.{filled, filled_all, first_legal}
use Rattle.tks_opt.proofs.options.Options.new.Goals as goal

pub invariant_of-result : goal.invariant_of-result
invariant_of-result c =
    let all : c.loop-name.values.entries ≡ (first_options c.args.class c.args.path.now).values =
    sym (ap (filled c.args.class c.args.path.now c.loop-name.values.entries) (drop_all c.loop-name.name-index c.options_of-name-items.result.now c.loop-name-test.false))
    ∙ c.loop-name.invariant ∙ filled_all c.args.class c.args.path.now in
    subst (λ vs. Legal (record { class = c.args.class; values = vs })) (sym all) (first_legal c.args.class c.args.path.now)

pub returns : goal.returns
returns c =
    let all : c.loop-name.values.entries ≡ (first_options c.args.class c.args.path.now).values =
    sym (ap (filled c.args.class c.args.path.now c.loop-name.values.entries) (drop_all c.loop-name.name-index c.options_of-name-items.result.now c.loop-name-test.false))
    ∙ c.loop-name.invariant ∙ filled_all c.args.class c.args.path.now in
    ap (λ vs. record { class = c.args.class; values = vs }) all
