use Rattle.std.proofs.Common.{◌≡◌, ◌++◌, drop}
use Rattle.tks_lines.specs.Lines.{without_tags}
use Rattle.tks_lines.proofs.tags.without_tags.Given as goal

-- those so far, and those that are left further on, are all
abbrev pub invariant-loop-tag : goal.invariant-loop-tag
invariant-loop-tag l = l.all ++ without_tags l.names (drop l.tag-index l.tags) ≡ without_tags l.names l.tags
