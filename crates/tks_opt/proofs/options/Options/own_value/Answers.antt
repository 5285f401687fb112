use Rattle.std.proofs.Common.{true≢false, is_some, sym, ap, subst, ◌∙◌}
use Rattle.std.specs.Option.{option_copied}
use Rattle.tks_opt.specs.Options.{Options, Legal, value_in}
use Rattle.tks_opt.proofs.Values.{looked_up, own_there}
use Rattle.tks_opt.proofs.options.Options.own_value.Goals as goal

pub unreachable-requires : goal.unreachable-requires
unreachable-requires c =
    true≢false
    (sym (own_there c.args.self.now c.args.name (subst Legal c.self.view_is c.self.invariant) c.requires)
    ∙ sym (ap (λ (t : Options). is_some (value_in t.values c.args.name)) c.self.view_is)
    ∙ ap is_some (sym (looked_up c.args.name c.self.inside.values.entries))
    ∙ sym (ap is_some c.get.ensures.value)
    ∙ ap (λ o. is_some (option_copied o)) c.in-None.is)

pub returns : goal.returns
returns c =
    sym
    (ap option_copied (sym c.in-Some.is)
    ∙ c.get.ensures.value
    ∙ looked_up c.args.name c.self.inside.values.entries
    ∙ ap (λ (t : Options). value_in t.values c.args.name) c.self.view_is)
