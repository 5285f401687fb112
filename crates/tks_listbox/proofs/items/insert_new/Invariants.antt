use Rattle.std.proofs.Common.{◌≡◌, ◌++◌, take, drop, map}
use Rattle.tks_listbox.specs.Listbox.{new_item}
use Rattle.tks_listbox.proofs.items.insert_new.Given as goal

-- those so far stand at the place
abbrev pub invariant-loop-index : goal.invariant-loop-index
invariant-loop-index l = l.items ≡ take l.place l.fn.items ++ (map new_item (take l.index l.texts) ++ drop l.place l.fn.items)
