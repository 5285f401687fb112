use Rattle.std.proofs.Common.{◌==◌, rules, tests, length, ◌∙◌}
use Rattle.std.proofs.lemmas.Iterator.{YieldsList-from_map}
use Rattle.std.proofs.lemmas.Iterator.Consumers.{max_from_yields_List, YieldsList-at}
use Rattle.std.proofs.lemmas.Iterator.Splits.{YieldsList-from_slice_split}
use Rattle.tks_button.specs.Block.{lines}
use Rattle.tks_button.proofs.Blocks.{longest_is}
use Rattle.tks_button.proofs.block.longest_line.Goals as goal

pub returns-clause-value : goal.returns-clause-value
returns-clause-value c =
    let most = max_from_yields_List {v = λ x. x} c.map.result c.max.result c.max.ensures.ran
    (YieldsList-from_map _ length (YieldsList-at c.map.ensures.source (YieldsList-from_slice_split _ (λ b. b == 10) c.args.text.now c.split.ensures.rest c.split.ensures.done c.split.ensures.closure (λ x b q k. search (rules, tests)))) c.map.ensures.closure (λ x r q k. search (rules, tests))) in
    c.unwrap_or.ensures ∙ longest_is (lines c.args.text.now) c.max.result most
