use Rattle.std.proofs.Common.{◌≡◌, [], drop}
use Rattle.tks_opt.specs.Table.{options_of}
use Rattle.tks_opt.proofs.Values.{filled}
use Rattle.tks_opt.proofs.options.Options.new.Given as goal

-- with the options further on, those so far are all
abbrev pub invariant-loop-name : goal.invariant-loop-name
invariant-loop-name l = filled l.class l.path l.values.entries (drop l.name-index l.name-items) ≡ filled l.class l.path [] (options_of l.class)
