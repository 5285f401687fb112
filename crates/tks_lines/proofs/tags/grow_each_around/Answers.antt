use Rattle.std.proofs.Common.{◌∙◌}
use Rattle.tks_lines.specs.Lines.{is_around}
use Rattle.tks_lines.proofs.Round.{same_first}
use Rattle.tks_lines.proofs.tags.grow_each_around.Goals as goal

pub returns-then-done-tags-clause-err : goal.returns-then-done-tags-clause-err
returns-then-done-tags-clause-err c =
    c.shrink_first.ensures
    ∙ same_first c.args.place c.args.count c.grow_first_around-done.result (is_around c.args.place) c.grow_first_around-done.new.tags c.args.tags.now c.requires.here c.grow_first_around-done.ensures.bound c.grow_first_around-done.ensures.made
