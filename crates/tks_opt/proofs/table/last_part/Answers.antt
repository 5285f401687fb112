use Rattle.std.proofs.Common.{rules, ◌==◌, ◌-◌, not, length, drop, ap, ◌∙◌}
use borrow.Author.Tests.{tests}
use Rattle.std.specs.Prelude.{reverse}
use Rattle.std.proofs.lemmas.Iterator.Adapters.{YieldsList-from_rev_slice}
use Rattle.std.proofs.lemmas.Iterator.Consumers.{YieldsList-at, count_from_yields_List}
use Rattle.std.proofs.lemmas.Iterator.Search.{YieldsList-from_take_while}
use Rattle.std.proofs.lemmas.List.Folds.{length-prefix_len}
use Rattle.tks_opt.proofs.table.last_part.Goals as goal

pub returns-clause-value : goal.returns-clause-value
returns-clause-value c =
    let count = count_from_yields_List _ c.count-len.result c.count-len.ensures.ran
    (YieldsList-from_take_while _ (λ b. not (b == 46)) (YieldsList-at c.take_while.ensures.source (YieldsList-from_rev_slice c.args.path.now cc))
    c.take_while.ensures.closure c.take_while.ensures.done (λ x b q k. search (rules, tests))) in
    c.split_at.ensures.back ∙ ap (λ n. drop (length c.args.path.now - n) c.args.path.now) (count ∙ length-prefix_len (λ b. not (b == 46)) (reverse c.args.path.now))
