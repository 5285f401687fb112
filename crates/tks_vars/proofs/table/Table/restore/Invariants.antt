use Rattle.std.proofs.Common.{◌≡◌, length}
use Rattle.std.specs.FinMap as fin
use Rattle.tks_vars.specs.Few.{put_behind}
use Rattle.tks_vars.proofs.table.Table.restore.Given as goal

-- those that are left, put in behind those that are in already, are all
abbrev pub invariant-loop-name : goal.invariant-loop-name
invariant-loop-name g l = put_behind l.table l.entries.items ≡ fin.from_entries l.fn.entries.items

abbrev pub decreases-loop-name : goal.decreases-loop-name
decreases-loop-name g l = length l.entries.items
