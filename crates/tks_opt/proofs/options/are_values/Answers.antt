use Rattle.std.proofs.Common.{◌∙◌}
use Rattle.std.proofs.lemmas.List.{nil_from_length}
use Rattle.std.proofs.Math.Seq.{drop-cons}
use Rattle.tks_opt.specs.declared.name.OptionName.TheVariants as name
use Rattle.tks_opt.proofs.Restored.{too_few}
use Rattle.tks_opt.proofs.options.are_values.Goals as goal

pub returns-in_default : goal.returns-in_default
returns-in_default c =
    too_few c.args.class c.loop-name.rest.now (drop-cons c.args.names.now c.loop-name.name-index name.Text c.loop-name-test.true) (nil_from_length _ c.in_default.ensures.cases) ∙ c.loop-name.invariant
