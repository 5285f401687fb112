use Rattle.std.proofs.Common.{◌≡◌, drop}
use Rattle.std.specs.List.{list_any}
use Rattle.tks_text.specs.Text.{same_text}
use Rattle.tks_lines.proofs.marks.is_listed.Given as goal

-- it is further on
abbrev pub invariant-loop-other : goal.invariant-loop-other
invariant-loop-other l = list_any (same_text l.name) (drop l.other-index l.names) ≡ list_any (same_text l.name) l.names
