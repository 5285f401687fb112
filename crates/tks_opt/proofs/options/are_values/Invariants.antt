use Rattle.std.proofs.Common.{◌≡◌, drop}
use Rattle.tks_opt.specs.Options.{are_values}
use Rattle.tks_opt.proofs.options.are_values.Given as goal

-- what is left to be tested decides it
abbrev pub invariant-loop-name : goal.invariant-loop-name
invariant-loop-name l = are_values l.class (drop l.name-index l.names) l.rest ≡ are_values l.class l.names l.values
