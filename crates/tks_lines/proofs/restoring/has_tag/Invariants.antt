use Rattle.std.proofs.Common.{◌≡◌, drop}
use Rattle.std.specs.Prelude.{map}
use Rattle.tks_lines.specs.Lines.{is_listed}
use Rattle.tks_lines.proofs.restoring.has_tag.Given as goal

-- it is further on
abbrev pub invariant-loop-tag : goal.invariant-loop-tag
invariant-loop-tag l = is_listed l.name (map (λ g. g.name) (drop l.tag-index l.tags)) ≡ is_listed l.name (map (λ g. g.name) l.tags)
