use Rattle.std.proofs.Common.{ap, sym, subst, ◌∙◌, refl}
use Rattle.tks_opt.specs.Options.{Options, Legal, replaced}
use Rattle.tks_opt.specs.declared.name.OptionName.TheVariants.{Text}
use Rattle.tks_opt.proofs.Values.{put_over, not_put, still_legal}
use Rattle.tks_opt.proofs.options.Options.with_text.Goals as goal

pub invariant_of-options : goal.invariant_of-options
invariant_of-options c =
    let t : Options = record { class = c.options.inside.class; values = c.options.inside.values.entries } in
    let values = put_over Text c.args.text.now c.in_ok-try_clone.field-0 t.values c.insert.new.self.entries c.contains_key.result c.if-not-contains_key.false c.contains_key.ensures c.in_ok-try_clone.ensures c.in_ok-insert.ensures.entries in
    subst (λ vs. Legal (record { class = t.class; values = vs })) (sym values) (still_legal t Text c.args.text.now c.options.invariant refl)

pub returns-then-not-contains_key : goal.returns-then-not-contains_key
returns-then-not-contains_key c =
    let t : Options = record { class = c.options.inside.class; values = c.options.inside.values.entries } in
    sym c.options.view_is
    ∙ ap (λ vs. record { class = t.class; values = vs }) (sym (not_put Text c.args.text.now t.values c.contains_key.result c.if-not-contains_key.true c.contains_key.ensures))
    ∙ ap (λ (u : Options). record u { values = replaced u.values Text c.args.text.now }) (c.options.view_is ∙ c.in_ok-options.ensures)

pub returns : goal.returns
returns c =
    let t : Options = record { class = c.options.inside.class; values = c.options.inside.values.entries } in
    let values = put_over Text c.args.text.now c.in_ok-try_clone.field-0 t.values c.insert.new.self.entries c.contains_key.result c.if-not-contains_key.false c.contains_key.ensures c.in_ok-try_clone.ensures c.in_ok-insert.ensures.entries in
    ap (λ vs. record { class = t.class; values = vs }) values
    ∙ ap (λ (u : Options). record u { values = replaced u.values Text c.args.text.now }) (c.options.view_is ∙ c.in_ok-options.ensures)
