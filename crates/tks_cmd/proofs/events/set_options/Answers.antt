use Rattle.std.proofs.Common.{◌∙◌}
use Rattle.tks_cmd.proofs.Generating.{option_first}
use Rattle.tks_cmd.proofs.events.set_options.Goals as goal

pub options-preserved : goal.options-preserved
options-preserved c =
    option_first c.args.pattern.now c.options.rest.now c.in-Some.behind.now c.in-Some-split_first.more.now c.in-Some.name.now c.in-Some-split_first.value.now (c.options.event, c.options.when)
    (c.set_option.new.event, c.set_option.new.when) c.in-Some.ensures.cases.0 c.in-Some-split_first.ensures.cases.0 c.in_ok-set_option.ensures ∙ c.options.invariant
