-- A line as data: its items in order, none where there is no line.
use Rattle.std.specs.Prelude.{List, [], Option, Some, None}
use Rattle.std.specs.Borrow.{Bor}
use Rattle.std.specs.declared.rc.Rc.{Rc}

module _ {E Z : Type 0} where
  -- the items of a line that is held
  abbrev pub line_held : Option (Rc (List E) Z) → List E
  line_held None = []
  line_held (Some line) = line.value

module _ {E : Type 0} where
  -- the items of a line that is seen
  abbrev pub line_seen : Option (Bor (List E)) → List E
  line_seen None = []
  line_seen (Some line) = line.now
