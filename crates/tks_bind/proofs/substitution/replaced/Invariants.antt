use Rattle.std.proofs.Common.{◌≡◌, ◌++◌, false, drop}
use Rattle.tks_bind.specs.Percents.{replaced}
use Rattle.tks_bind.proofs.substitution.replaced.Given as goal

-- what was written, and what is made of the rest, is what is made of all
abbrev pub invariant-loop-letter : goal.invariant-loop-letter
invariant-loop-letter l = l.text ++ replaced l.event l.path l.is_behind_percent (drop l.letter-index l.letter-items) ≡ replaced l.event l.path false l.letter-items
