use Rattle.std.proofs.Common.{◌∙◌}
use Rattle.tks_lines.proofs.Apart.{put_is}
use Rattle.tks_lines.proofs.range_list.put_over.Goals as goal

pub returns : goal.returns
returns c = c.remove_between.ensures ∙ put_is c.args.from c.args.to c.args.ranges.now.items c.args.more.now c.overwrite.new.ranges.items c.requires.fewer c.requires.inside c.overwrite.ensures
