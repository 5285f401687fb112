-- Elements that join the text of a list at its end.
use Rattle.std.specs.Prelude.{◌≡◌, ℕ, List, ◌∷◌, ◌++◌, Option, Some, None}
use Rattle.tks_list.specs.Quoting.{spaced, joined}
use Rattle.tks_list.specs.Reading.{list_of}

-- the text is a list with some elements, spelled as lists are
abbrev pub IsSpelled : List ℕ → Type 0
IsSpelled t = (e : List ℕ) × (l : List (List ℕ)) × (t ≡ joined (e ∷ l))

-- the text is elements, each with a space before it
abbrev pub AreElements : List ℕ → Type 0
AreElements t = (l : List (List ℕ)) × (t ≡ spaced l)

-- the text of a list with these elements behind it
abbrev pub grown : Option (List (List ℕ)) → List (List ℕ) → Option (List ℕ)
grown None elements = None
grown (Some l) elements = Some (joined (l ++ elements))

-- elements join the list that a text splits into when they are put behind the text as they are spelled
abbrev pub TakesElements : List ℕ → Type 0
TakesElements t = (elements : List (List ℕ)) → grown (list_of t) elements ≡ Some (t ++ spaced elements)
