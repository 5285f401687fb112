use Rattle.std.proofs.Common.{◌≡◌, T, ◌++◌, option_copied, option_to_list}
use Rattle.std.specs.FinMap.Entries.{is_sorted}
use Rattle.tks_share.specs.Names.{order, behind}
use Rattle.tks_share.specs.Tree.{front}
use Rattle.tks_share.proofs.names.after.Given as goal

abbrev pub invariant-loop-part : goal.invariant-loop-part
invariant-loop-part g l = T (is_sorted order l.tree) → T (is_sorted order l.part)
    × (front (behind l.name l.tree) ≡ front (behind l.name l.part ++ option_to_list (option_copied l.nearest)))
