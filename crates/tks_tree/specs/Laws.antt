-- The preorder of the windows, said by the children of each.
use Rattle.std.specs.Prelude.{◌≡◌, ℕ, List, [], ◌∷◌}
use Rattle.std.specs.List.{flat_map}
use Rattle.tks_tree.specs.Windows.{Window, Windows, on_window, of_number, numbers, children, inside, preorder}

-- the numbers of those that stand in the window of a number, and with its own before them
abbrev pub below : List Window → ℕ → List ℕ
below windows n = on_window (of_number windows n) [] (λ w. numbers (inside w.path windows))

abbrev pub from_window : List Window → ℕ → List ℕ
from_window windows n = n ∷ below windows n

-- `.` is the first, and those that stand in it follow; those that stand in a window are its children, in the order in which
-- they were made, each right before those that stand in it
pub record GoesDown (t : Windows) : Type 0 where
  pub from_root : preorder t ≡ from_window t.windows 0
  pub by_children : (n : ℕ) → below t.windows n ≡ flat_map (from_window t.windows) (children t n)
