use Rattle.std.proofs.Common.{◌≡◌, ◌++◌, drop}
use Rattle.tks_lines.proofs.tags.copied.Given as goal

-- those so far, and those further on, are all
abbrev pub invariant-loop-tag : goal.invariant-loop-tag
invariant-loop-tag l = l.all ++ drop l.tag-index l.tags ≡ l.tags
