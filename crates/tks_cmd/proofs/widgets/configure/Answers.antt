use Rattle.std.proofs.Common.{◌∙◌}
use Rattle.tks_cmd.proofs.Pairs.{pair_first}
use Rattle.tks_cmd.proofs.widgets.configure.Goals as goal

pub loop-rest-preserved : goal.loop-rest-preserved
loop-rest-preserved c = record {
  rest =
      pair_first c.args.limits.now c.loop-rest.rest.now c.split_at.result.0.now c.split_at.result.1.now (c.loop-rest.widget, c.loop-rest.variables)
      (c.in_ok-widget.widget, c.configure_pair.new.variables) c.loop-rest-test.true c.split_at.ensures.front c.split_at.ensures.back
      c.in_ok-widget.ensures.value ∙ c.loop-rest.invariant.rest;
  class = c.in_ok-widget.ensures.class ∙ c.loop-rest.invariant.class;
}
