use Rattle.std.proofs.Common.{◌≡◌, ◌≤◌, length, ◌+◌, ◌*◌}
use Rattle.tks_text.specs.Text.{IsText}
use Rattle.tks_expr.specs.Reading.{level_at, chain, within_level}
use Rattle.tks_expr.specs.View.{expr_of, chained}
use Rattle.tks_expr.proofs.Climbing.{tighter}
use Rattle.tks_expr.proofs.parse.+parse.Given as goal

abbrev pub decreases-read_inner : goal.decreases-read_inner
decreases-read_inner l = 17 * l.depth

abbrev pub decreases-read_parenthesis : goal.decreases-read_parenthesis
decreases-read_parenthesis l = 17 * l.depth + 1

abbrev pub decreases-read_operand : goal.decreases-read_operand
decreases-read_operand l = 17 * l.depth + 2

abbrev pub decreases-read_signed : goal.decreases-read_signed
decreases-read_signed l = 17 * l.depth + 3

abbrev pub decreases-read_level : goal.decreases-read_level
decreases-read_level l = 17 * l.depth + 4 + l.level

abbrev pub decreases-read_branches : goal.decreases-read_branches
decreases-read_branches l = 17 * l.depth + 1

abbrev pub decreases-read_conditional : goal.decreases-read_conditional
decreases-read_conditional l = 17 * l.depth + 16

abbrev pub invariant-read_level-joins : goal.invariant-read_level-joins
invariant-read_level-joins l = record {
  so_far : chain (within_level l.level) (tighter l.depth) (chained (expr_of l.first-inside.node.value) l.links.items) 0 l.rest ≡ level_at l.depth l.level l.text;
  len : length l.rest ≤ length l.text;
  is_text : IsText l.rest;
}

abbrev pub decreases-read_level-joins : goal.decreases-read_level-joins
decreases-read_level-joins l = length l.rest
