-- How many bytes the parts of a text take, which is known before the text is made.
use Rattle.std.specs.Prelude.{ℕ, ◌+◌, List, [], ◌∷◌, length}

-- the bytes of these texts, and so many more with each
abbrev pub room_of : ℕ → List (List ℕ) → ℕ
room_of more [] = 0
room_of more (text ∷ texts) = length text + more + room_of more texts
