use Rattle.std.proofs.Common.{◌≡◌, length}
use Rattle.std.specs.FinMap as map
use Rattle.tks_vars.specs.Few.{put_behind}
use Rattle.tks_vars.proofs.call.frame_one_by_one.Given as goal

-- those that are left, put in behind those that are in already, are all
abbrev pub invariant-loop-name : goal.invariant-loop-name
invariant-loop-name l = put_behind l.frame l.entries ≡ put_behind map.empty l.fn.entries

abbrev pub decreases-loop-name : goal.decreases-loop-name
decreases-loop-name l = length l.entries
