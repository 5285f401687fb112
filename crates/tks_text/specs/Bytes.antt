-- Bytes as data.
use Rattle.std.specs.Prelude.{ℕ, List, [], Option, Some, None}
use Rattle.std.specs.declared.rc.Rc.{Rc}
use Rattle.tks_text.specs.declared.bytes.Place.{Place}
use Rattle.tks_text.specs.declared.bytes.Place.TheVariants.{Few, Many}

-- the bytes of a place
abbrev pub bytes_in : Place → List ℕ
bytes_in (Few few) = few.items
bytes_in (Many many) = many.items

module _ {Z : Type 0} where
  -- the bytes that are held, none where nothing is
  abbrev pub bytes_held : Option (Rc (List ℕ) Z) → List ℕ
  bytes_held None = []
  bytes_held (Some held) = held.value
