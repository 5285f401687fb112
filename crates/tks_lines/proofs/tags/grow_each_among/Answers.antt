use Rattle.std.proofs.Common.{◌∙◌}
use Rattle.tks_lines.specs.Lines.{is_among}
use Rattle.tks_lines.proofs.Round.{same_first}
use Rattle.tks_lines.proofs.tags.grow_each_among.Goals as goal

pub returns-then-done-tags-clause-err : goal.returns-then-done-tags-clause-err
returns-then-done-tags-clause-err c =
    c.shrink_first.ensures
    ∙ same_first c.args.place c.args.count c.grow_first_among-done.result (is_among c.args.names.now) c.grow_first_among-done.new.tags c.args.tags.now c.requires.here c.grow_first_among-done.ensures.bound c.grow_first_among-done.ensures.made
