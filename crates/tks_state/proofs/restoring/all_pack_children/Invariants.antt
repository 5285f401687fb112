use Rattle.std.proofs.Common.{◌≡◌}
use Rattle.std.specs.List.{list_all}
use Rattle.tks_state.specs.Restoring.{packs_children}
use Rattle.tks_state.proofs.restoring.all_pack_children.Given as goal

-- the others decide
abbrev pub invariant-loop-one : goal.invariant-loop-one
invariant-loop-one l = list_all (packs_children l.tree) l.one-iterator ≡ list_all (packs_children l.fn.tree) l.fn.kept
