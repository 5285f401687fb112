-- What contracts see of the code's values.
use Rattle.std.specs.Prelude.{◌≡◌, ℕ, not, List, Option, Some, option_map}
use Rattle.std.specs.List.{filter}
use Rattle.std.specs.Borrow.{Bor}
use Rattle.std.specs.FinMap as map
use Rattle.tks_share.specs.Maps.{Map}
use Rattle.tks_tree.specs.Path.{is_within}
use Rattle.tks_tree.specs.Windows as windows
use Rattle.tks_tree.specs.declared.window.Window.{Window}

abbrev pub bytes_seen : Option (Bor (List ℕ)) → Option (List ℕ)
bytes_seen o = option_map (λ b. b.now) o

-- a window as the code hands it out
abbrev pub window_seen : Window → windows.Window
window_seen w = record { number = w.id; path = w.path.now; class = w.class }

-- the index has the number of the window of each path, and no other
abbrev pub Indexes : Map ℕ → List windows.Window → Type 0
Indexes index ws = (path : List ℕ) → map.get index path ≡ windows.number_at ws (Some path)

-- the windows but for one of this path and those that stand in it
abbrev pub others : List ℕ → List windows.Window → List windows.Window
others path ws = filter (λ w. not (is_within path w.path)) ws
