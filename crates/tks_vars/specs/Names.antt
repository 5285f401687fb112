-- The names of variables (Tcl(n), rule 8; set(n)).
use Rattle.std.specs.Prelude.{ℕ, Bool, false, is_none, ◌+◌, ◌-◌, ◌==◌, if◌then◌else◌, List, [], ◌∷◌, length, take, drop, Option, Some, None, option_map, position, codes}
use Rattle.std.specs.Coded.{Unit-prop}
use Rattle.tks_text.specs.Text.{same_text}
use Rattle.tks_vars.specs.Table.{IsName, IsName-prop}

-- a variable, and, where an element of it is named, the index
pub record Name : Type 0 where
  pub variable : List ℕ
  pub index : Option (List ℕ)

-- the parts of a text before and behind its first `(`
abbrev pub halves : List ℕ → Option (List ℕ × List ℕ)
halves text = option_map (λ open_at. (take open_at text, drop (open_at + 1) text)) (position (λ b. b == 40) text)

-- a text without the `)` that it ends with
abbrev pub closed : List ℕ → Option (List ℕ)
closed text = if same_text (drop (length text - 1) text) (codes ")") then Some (take (length text - 1) text) else None

abbrev pub whole : List ℕ → Name
whole text = record { variable = text; index = None }

abbrev pub element : List ℕ → List ℕ → Name
element variable index = record { variable = variable; index = Some index }

-- no variable has the empty name and elements
abbrev pub element_named : List ℕ → List ℕ → Option Name
element_named [] index = None
element_named (c ∷ variable) index = Some (element (c ∷ variable) index)

abbrev pub named_behind : List ℕ → List ℕ → Option (List ℕ) → Option Name
named_behind text variable None = Some (whole text)
named_behind text variable (Some index) = element_named variable index

abbrev pub named_in : List ℕ → Option (List ℕ × List ℕ) → Option Name
named_in text None = Some (whole text)
named_in text (Some parts) = named_behind text parts.0 (closed parts.1)

-- whether a name is that of a whole variable
abbrev pub is_whole : Option Name → Bool
is_whole None = false
is_whole (Some name) = is_none name.index

-- what a text says as a name: one that holds `(` and ends with `)` is that of an element of the variable
-- before the first `(`, and none where nothing stands before it; any other is that of a whole variable
abbrev pub named : List ℕ → Option Name
named text = named_in text (halves text)

-- an index, if there is one, is a text
abbrev pub IsIndex : Option (List ℕ) → Type 0
IsIndex None = Unit {0}
IsIndex (Some index) = IsName index

-- there is one proof at most that it is one
pub IsIndex-prop : (index : Option (List ℕ)) → IsProp (IsIndex index)
IsIndex-prop None = Unit-prop
IsIndex-prop (Some index) = IsName-prop index

-- its parts are texts
pub record IsSpelled (name : Name) : Type 0 where
  pub variable : IsName name.variable
  pub index : IsIndex name.index
