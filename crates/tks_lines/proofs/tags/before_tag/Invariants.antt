use Rattle.std.proofs.Common.{◌≡◌, ◌+◌, not, drop}
use Rattle.std.specs.List.{prefix_len}
use Rattle.tks_lines.specs.Lines.{is_tag}
use Rattle.tks_lines.proofs.tags.before_tag.Given as goal

-- it is further on
abbrev pub invariant-loop-index : goal.invariant-loop-index
invariant-loop-index l = l.index + prefix_len (λ g. not (is_tag l.name g)) (drop l.index l.tags) ≡ prefix_len (λ g. not (is_tag l.name g)) l.tags
