-- Lists whose members differ.
use Rattle.std.specs.Prelude.{Bool, true, ◌&&◌, List, [], ◌∷◌}
use Rattle.std.specs.List.{list_all}

-- whether the first differs from those behind it
abbrev pub first_differs : {T : Type 0} → (T → T → Bool) → List T → Bool
first_differs differs [] = true
first_differs differs (x ∷ xs) = list_all (differs x) xs

-- whether each differs from those behind it
abbrev pub all_differ : {T : Type 0} → (T → T → Bool) → List T → Bool
all_differ differs [] = true
all_differ differs (x ∷ xs) = first_differs differs (x ∷ xs) && all_differ differs xs
