use Rattle.std.proofs.Common.{◌≡◌, ◌++◌, drop, map}
use Rattle.std.specs.List.{filter}
use Rattle.tks_lines.specs.Lines.{is_on}
use Rattle.tks_lines.proofs.answers.tags_on.Given as goal

-- those so far, and those further on, are all
abbrev pub invariant-loop-tag : goal.invariant-loop-tag
invariant-loop-tag l = l.names ++ map (λ g. g.name) (filter (λ g. is_on g l.place) (drop l.tag-index l.tags)) ≡ map (λ g. g.name) (filter (λ g. is_on g l.place) l.tags)
