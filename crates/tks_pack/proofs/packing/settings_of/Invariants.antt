use Rattle.std.proofs.Common.{◌≡◌}
use Rattle.tks_pack.specs.Packing.{settings_of}
use Rattle.tks_pack.proofs.packing.settings_of.Given as goal

-- what is looked for is further on
abbrev pub invariant-loop-content : goal.invariant-loop-content
invariant-loop-content l = settings_of l.window l.content-iterator ≡ settings_of l.fn.window l.fn.contents
