use Rattle.std.proofs.Common.{◌+◌, ◌*◌}
use Rattle.rows_parts.proofs.expressions.+show.Given as goal

abbrev pub decreases-show : goal.decreases-show
decreases-show l = 2 * l.depth

abbrev pub decreases-show_links : goal.decreases-show_links
decreases-show_links l = 2 * l.depth + 1
