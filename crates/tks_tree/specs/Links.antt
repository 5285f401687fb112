-- Windows linked by their places: the place of the one that each stands in, that of the first one that stands right in each, and that
-- of the next one that stands where it does.
use Rattle.std.specs.Prelude.{ℕ, suc, if◌then◌else◌, List, [], ◌∷◌, map, position, Option, Some, None}
use Rattle.tks_tree.specs.Path.{parent_of, is_child}
use Rattle.tks_tree.specs.Windows.{Window}

-- for each window the place of the one that it stands in
abbrev pub parent_places : List Window → List (Option ℕ)
parent_places windows = map (λ v. position (λ w. is_child w.path v.path) windows) windows

-- of windows from a place on, the place of the first one that stands right in that of a path
abbrev pub first_from : List ℕ → List Window → ℕ → Option ℕ
first_from path [] place = None
first_from path (w ∷ later) place = if is_child path w.path then Some place else first_from path later (suc place)

-- the same for each window
abbrev pub firsts_from : List Window → List Window → ℕ → List (Option ℕ)
firsts_from windows later place = map (λ w. first_from w.path later place) windows

-- the same of the one of this path, if any
abbrev pub beside_from : Option (List ℕ) → List Window → ℕ → Option ℕ
beside_from None later place = None
beside_from (Some path) later place = first_from path later place

-- for each window from a place on, the place of the next one that stands where it does
abbrev pub nexts_from : List Window → ℕ → List (Option ℕ)
nexts_from [] place = []
nexts_from (w ∷ later) place = beside_from (parent_of w.path) later (suc place) ∷ nexts_from later (suc place)

-- a place, if any, as a list
abbrev pub listed : Option ℕ → List ℕ
listed None = []
listed (Some place) = place ∷ []
