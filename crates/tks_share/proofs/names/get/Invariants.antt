use Rattle.std.proofs.Common.{◌≡◌, T}
use Rattle.std.specs.FinMap.Entries.{find, is_sorted}
use Rattle.tks_share.specs.Names.{order}
use Rattle.tks_share.proofs.names.get.Given as goal

abbrev pub invariant-loop-part : goal.invariant-loop-part
invariant-loop-part g l = T (is_sorted order l.tree) → T (is_sorted order l.part) × (find order l.name l.tree ≡ find order l.name l.part)
