use Rattle.std.proofs.Common.{rules, ◌≡◌, [], true, Some, ap, sym, subst, ◌∙◌}
use Rattle.std.specs.List.{zip}
use Rattle.indexmap.specs.IndexMap.{insert_all}
use Rattle.tks_opt.specs.Table.{options_of}
use Rattle.tks_opt.specs.Options.{Legal, same_name, are_values}
use Rattle.tks_opt.proofs.Restored.{made_legal, made, kept_values}
use Rattle.tks_opt.proofs.options.Options.restore.Goals as goal

pub invariant_of-result : goal.invariant_of-result
invariant_of-result c =
    let tested : are_values c.args.class (options_of c.args.class) c.args.values ≡ true = search rules in
    let kept : c.in_ok-values.values.entries ≡ zip (options_of c.args.class) c.args.values =
    c.in_ok-values.ensures ∙ ap (λ os. insert_all same_name [] (zip os c.args.values)) c.options_of-2.ensures ∙ kept_values c.args.class c.args.values in
    subst (λ vs. Legal (record { class = c.args.class; values = vs })) (sym kept) (made_legal c.args.class c.args.values tested)

pub returns : goal.returns
returns c =
    let tested : are_values c.args.class (options_of c.args.class) c.args.values ≡ true = search rules in
    let kept : c.in_ok-values.values.entries ≡ zip (options_of c.args.class) c.args.values =
    c.in_ok-values.ensures ∙ ap (λ os. insert_all same_name [] (zip os c.args.values)) c.options_of-2.ensures ∙ kept_values c.args.class c.args.values in
    ap (λ vs. Some (record { class = c.args.class; values = vs })) kept ∙ sym (made c.args.class c.args.values tested)
