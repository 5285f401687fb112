use Rattle.std.proofs.Common.{rules, sym, ◌∙◌}
use Rattle.std.proofs.lemmas.List.{nil_from_length}
use Rattle.std.specs.Vec.Iter.{into_iter_items}
use Rattle.tks_opt.proofs.Restored.{one_put, one_fewer, no_names, no_values}
use Rattle.tks_opt.proofs.options.with_values.Goals as goal

pub loop-value-init : goal.loop-value-init
loop-value-init c = search rules

pub returns-in_default : goal.returns-in_default
returns-in_default c =
    no_names c.loop-value.rest.now (into_iter_items c.loop-value.value-iterator) c.loop-value.kept.entries (nil_from_length _ c.in_default.ensures.cases) ∙ c.loop-value.invariant.all

pub loop-value-preserved : goal.loop-value-preserved
loop-value-preserved c = record {
  left = one_fewer c.in-Some.ensures.steps.0 c.in-Some.ensures.steps.1 c.loop-value.invariant.left;
  all =
      one_put c.in-Some-split_first.name.now c.in-Some.value c.loop-value.rest.now c.in-Some-split_first.behind.now (into_iter_items c.loop-value.value-iterator) (into_iter_items c.next.new.self)
      c.loop-value.kept.entries c.insert.new.self.entries c.in-Some-split_first.ensures.cases.0 c.in-Some.ensures.steps.0 c.in_ok-insert.ensures.entries ∙ c.loop-value.invariant.all;
}

pub returns : goal.returns
returns c =
    no_values c.loop-value.rest.now (into_iter_items c.loop-value.value-iterator) c.loop-value.kept.entries
    (nil_from_length _ (sym c.loop-value.invariant.left ∙ c.in-None.ensures.steps.0)) ∙ c.loop-value.invariant.all
