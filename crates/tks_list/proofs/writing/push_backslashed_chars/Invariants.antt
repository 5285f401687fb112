use Rattle.std.proofs.Common.{◌≡◌, ◌++◌, drop}
use Rattle.tks_list.specs.Quoting.{backslashed_chars}
use Rattle.tks_list.proofs.writing.push_backslashed_chars.Given as goal

abbrev pub invariant-loop-c : goal.invariant-loop-c
invariant-loop-c l = l.text ++ backslashed_chars (drop l.c-index l.chars) ≡ l.fn.text ++ backslashed_chars l.chars
