use Rattle.std.proofs.Common.{ap, ◌∙◌}
use Rattle.tks_opt.specs.Options.{Options, value_in}
use Rattle.tks_opt.proofs.Values.{looked_up}
use Rattle.tks_opt.proofs.options.Options.value.Goals as goal

pub returns : goal.returns
returns c = c.get.ensures.value ∙ looked_up c.args.name c.self.inside.values.entries ∙ ap (λ (t : Options). value_in t.values c.args.name) c.self.view_is
