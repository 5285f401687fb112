-- What the commands of an application keep from one call to the next (this project's own rule).
use Rattle.std.specs.Prelude.{ℕ, if◌then◌else◌, List, [], ◌∷◌, Option, Some, None}
use Rattle.std.specs.FinMap as map
use Rattle.std.specs.Coded.{Coded, coded_list, coded_ℕ}
use Rattle.tks_vars.specs.Table.{Map}

-- the text that is there, or the empty one
abbrev pub text_of : Option (List ℕ) → List ℕ
text_of None = []
text_of (Some text) = text

-- the memory of a command of this name; where none is kept, it is empty
abbrev pub memory_of : Map (List ℕ) → List ℕ → List ℕ
memory_of memories name = text_of (map.get memories name)

-- with another text under a name; where none is kept, none is
abbrev pub remembering : List ℕ → List ℕ → Map (List ℕ) → Map (List ℕ)
remembering name text memories = if map.contains_key memories name then map.insert memories name text else memories

-- one for each name, empty at first
abbrev pub first_memories : List (List ℕ) → Map (List ℕ)
first_memories [] = map.empty
first_memories (name ∷ names) = map.insert (first_memories names) name []

-- memories can be told apart
abbrev pub memories_code : Coded (Map (List ℕ))
memories_code = map.code (coded_list coded_ℕ) (coded_list coded_ℕ)
