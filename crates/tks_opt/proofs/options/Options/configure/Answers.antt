use Rattle.std.proofs.Common.{ap, ◌∙◌}
use Rattle.tks_opt.specs.Options.{Options}
use Rattle.tks_opt.proofs.Values.{same_class}
use Rattle.tks_opt.proofs.options.Options.configure.Goals as goal

pub returns-clause-class : goal.returns-clause-class
returns-clause-class c =
    same_class c.in_ok-changed.changed c.set_all.new.self c.args.pairs.now c.in_ok-set_all.ensures
    ∙ ap (λ (t : Options). t.class) c.in_ok-changed.ensures
