use Rattle.std.proofs.Common.{◌≡◌, take, drop, length}
use Rattle.std.specs.FinMap as map
use Rattle.tks_vars.specs.Few.{put_behind}
use Rattle.tks_vars.specs.Links.{IsLinked}
use Rattle.tks_vars.specs.Variables.{Frame}
use Rattle.tks_vars.proofs.links.add_each.Given as goal

-- what the names that are left lead to, all lead to
abbrev pub invariant-loop-name : goal.invariant-loop-name
invariant-loop-name l =
    ((new : Frame) → IsLinked l.most (drop l.name-index l.names) (put_behind l.rest l.first) new → IsLinked l.most l.names (put_behind l.rest l.fn.first) new)
    × (l.count ≡ map.len (put_behind l.rest l.first)) × (take (length l.fn.first) l.first ≡ l.fn.first)
