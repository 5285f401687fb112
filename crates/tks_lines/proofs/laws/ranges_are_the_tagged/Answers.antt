use Rattle.tks_lines.proofs.Ranges.{those_tagged}
use Rattle.tks_lines.proofs.laws.ranges_are_the_tagged.Goals as goal

pub returns : goal.returns
returns c = those_tagged
