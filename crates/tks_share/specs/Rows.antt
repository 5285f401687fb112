-- A row as data: its items in order.
use Rattle.std.specs.Prelude.{List, [], Option, Some, None}
use Rattle.std.specs.declared.rc.Rc.{Rc}
use Rattle.tks_share.specs.declared.row.Few.{Few}

module _ {E Z : Type 0} where
  -- the items that are held, none where nothing is
  abbrev pub items_held : Option (Rc (Few E) Z) → List E
  items_held None = []
  items_held (Some held) = held.value.items.items
