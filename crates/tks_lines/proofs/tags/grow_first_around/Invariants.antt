use Rattle.std.proofs.Common.{◌≡◌, ◌++◌, take, drop, map}
use Rattle.tks_lines.proofs.Round.{around_grown}
use Rattle.tks_lines.proofs.tags.grow_first_around.Given as goal

-- those so far are grown
abbrev pub invariant-loop-tag : goal.invariant-loop-tag
invariant-loop-tag l = record {
  made : l.tags ≡ map (around_grown l.place l.count) (take l.tag-index l.fn.tags) ++ drop l.tag-index l.fn.tags;
  done : l.done ≡ l.tag-index;
}
