use Rattle.std.proofs.Common.{◌≡◌, length}
use Rattle.tks_opt.specs.Options.{configured}
use Rattle.tks_opt.proofs.options.Options.set_all.Given as goal

-- the pairs that are left do to the options of now what all do to those of before
abbrev pub invariant-loop-name : goal.invariant-loop-name
invariant-loop-name l = configured l.self l.rest ≡ configured l.fn.self l.fn.pairs

abbrev pub decreases-loop-name : goal.decreases-loop-name
decreases-loop-name l = length l.rest
