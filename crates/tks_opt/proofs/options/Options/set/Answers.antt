use Rattle.std.proofs.Common.{◌≡◌, ap, sym, subst, ◌∙◌, refl, Some, Ok}
use Rattle.tks_opt.specs.Options.{Options, Legal, had, with_value}
use Rattle.tks_opt.specs.Table.{option_named}
use Rattle.tks_opt.proofs.Values.{put_as, set_to, still_legal}
use Rattle.tks_opt.proofs.options.Options.set.Goals as goal

pub invariant_of-self-2 : goal.invariant_of-self-2
invariant_of-self-2 c =
    let t : Options = record { class = c.self.inside.class; values = c.self.inside.values.entries } in
    let there : Some c.in-Some.option ≡ had t.values (option_named c.args.name.now) = c.in-Some.ensures ∙ ap (λ (t : Options). had t.values (option_named c.args.name.now)) (sym c.self.view_is) in
    let values = put_as t.values c.insert.new.self.entries t c.args.name.now c.args.value.now c.in_ok-try_clone.field-0 c.in-Some.option refl there c.in_ok-try_clone.ensures c.in_ok-insert.ensures.entries in
    subst (λ vs. Legal (record { class = c.self.inside.class; values = vs })) (sym values) (still_legal t c.in-Some.option c.args.value.now c.self.invariant (sym c.accepts.ensures ∙ c.if-not-accepts.false))

pub returns : goal.returns
returns c =
    let t : Options = record { class = c.self.inside.class; values = c.self.inside.values.entries } in
    let there : Some c.in-Some.option ≡ had t.values (option_named c.args.name.now) = c.in-Some.ensures ∙ ap (λ (t : Options). had t.values (option_named c.args.name.now)) (sym c.self.view_is) in
    let values = put_as t.values c.insert.new.self.entries t c.args.name.now c.args.value.now c.in_ok-try_clone.field-0 c.in-Some.option refl there c.in_ok-try_clone.ensures c.in_ok-insert.ensures.entries in
    ap (λ t. with_value t c.args.name.now c.args.value.now) (sym c.self.view_is)
    ∙ set_to t c.args.name.now c.args.value.now c.in-Some.option there (sym c.accepts.ensures ∙ c.if-not-accepts.false)
    ∙ ap (λ vs. Ok (record { class = c.self.inside.class; values = vs })) (sym values)
