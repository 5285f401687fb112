use Rattle.std.proofs.Common.{◌≡◌, ◌++◌, drop}
use Rattle.std.specs.Fmt.{decimal}
use Rattle.std.specs.Prelude.{map}
use Rattle.tks_listbox.specs.Listbox.{selected_from}
use Rattle.tks_listbox.proofs.items.selected_texts.Given as goal

-- the texts so far, with those of the rest, are all
abbrev pub invariant-loop-place : goal.invariant-loop-place
invariant-loop-place l = l.texts ++ map decimal (selected_from l.place (drop l.place l.items)) ≡ map decimal (selected_from 0 l.items)
