use Rattle.std.proofs.Common.{◌+◌, ◌*◌}
use Rattle.rows_parts.proofs.scripts.+show.Given as goal

abbrev pub decreases-show_parts : goal.decreases-show_parts
decreases-show_parts l = 3 * l.depth

abbrev pub decreases-show_command : goal.decreases-show_command
decreases-show_command l = 3 * l.depth + 1

abbrev pub decreases-show_script : goal.decreases-show_script
decreases-show_script l = 3 * l.depth + 2
