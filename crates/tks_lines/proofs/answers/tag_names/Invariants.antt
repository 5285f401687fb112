use Rattle.std.proofs.Common.{◌≡◌, ◌++◌, drop, map}
use Rattle.tks_lines.proofs.answers.tag_names.Given as goal

-- those so far, and those further on, are all
abbrev pub invariant-loop-tag : goal.invariant-loop-tag
invariant-loop-tag l = l.names ++ map (λ g. g.name) (drop l.tag-index l.tags) ≡ map (λ g. g.name) l.tags
