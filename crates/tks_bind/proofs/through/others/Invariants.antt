use Rattle.std.proofs.Common.{◌≡◌, ◌++◌, drop}
use Rattle.std.specs.List.{filter}
use Rattle.tks_bind.specs.Groups.{is_other}
use Rattle.tks_bind.proofs.through.others.Given as goal

-- those so far, and those further on, are all
abbrev pub invariant-loop-held : goal.invariant-loop-held
invariant-loop-held l = l.left ++ filter (is_other l.name l.sequence) (drop l.held-index l.list) ≡ filter (is_other l.name l.sequence) l.list
