-- Windows that stand in one, by their numbers (this project's own).
use Rattle.std.specs.Prelude.{ℕ, ◌≡◌, Bool, false, ◌==◌, if◌then◌else◌, List, [], ◌∷◌}
use Rattle.std.specs.List.{AllByRecursion, list_any}
use Rattle.tks_tree.specs.Path.{is_within}
use Rattle.tks_tree.specs.Windows.{Window, Windows, on_window, of_number}

-- whether a number is one of these
abbrev pub is_one_of : ℕ → List ℕ → Bool
is_one_of number numbers = list_any (λ n. n == number) numbers

-- whether a window is that of a number, or stands in it, however deep
abbrev pub is_in : Windows → ℕ → Window → Bool
is_in t number v = on_window (of_number t.windows number) false (λ w. is_within w.path v.path)

-- of the windows, just those that are in one have their numbers among these
abbrev pub AreThoseIn : Windows → ℕ → List ℕ → Type 0
AreThoseIn t number numbers = AllByRecursion (λ v. is_one_of v.number numbers ≡ is_in t number v) t.windows

-- of paths with numbers, the numbers up to the first path that isn't within one
abbrev pub front_within : List ℕ → List (List ℕ × ℕ) → List ℕ
front_within path [] = []
front_within path (e ∷ es) = if is_within path e.0 then e.1 ∷ front_within path es else []
