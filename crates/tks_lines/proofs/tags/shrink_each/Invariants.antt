use Rattle.std.proofs.Common.{◌≡◌, ◌++◌, take, drop, map}
use Rattle.tks_lines.specs.Lines.{shrunk}
use Rattle.tks_lines.proofs.tags.shrink_each.Given as goal

-- those so far are shrunk
abbrev pub invariant-loop-tag : goal.invariant-loop-tag
invariant-loop-tag l = l.tags ≡ map (shrunk l.first l.last) (take l.tag-index l.fn.tags) ++ drop l.tag-index l.fn.tags
