use Rattle.std.proofs.Common.{◌≡◌, drop}
use Rattle.tks_lines.specs.Commands.{flags_of}
use Rattle.tks_lines.proofs.answers.ranges_named.Given as goal

-- it is further on
abbrev pub invariant-loop-tag : goal.invariant-loop-tag
invariant-loop-tag l = flags_of l.name (drop l.tag-index l.tags) ≡ flags_of l.name l.tags
