use Rattle.std.proofs.Common.{◌≡◌, ◌++◌, drop}
use Rattle.tks_text.proofs.text.texts_again.Given as goal

-- those so far, and those further on, are all
abbrev pub invariant-loop-text : goal.invariant-loop-text
invariant-loop-text l = l.copies ++ drop l.text-index l.texts ≡ l.texts
