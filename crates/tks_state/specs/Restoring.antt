-- Worlds made again of their parts: which of them are possible (this project's own rules; that what is packed stands in its
-- container, pack(n)).
use Rattle.std.specs.Prelude.{ℕ, ◌^◌, Bool, true, false, ◌&&◌, ◌||◌, ◌==◌, not, nat_le, nat_lt, if◌then◌else◌, List, [], ◌∷◌, length, Option, Some, None}
use Rattle.std.specs.List.{list_all}
use Rattle.tks_bind.specs.History.{max_history}
use Rattle.tks_opt.specs.Numbers.{class_number}
use Rattle.tks_tree.specs.Windows as tree
use Rattle.tks_state.specs.EventLoop.{all_in}
use Rattle.tks_state.specs.Events.{max_faults}
use Rattle.tks_state.specs.Widget.{class_of}
use Rattle.tks_state.specs.WellFormed.{packed_windows}
use Rattle.tks_state.specs.Windows.{Windows}
use Rattle.tks_state.specs.World.{World, windows_of, loop_of}
use Rattle.tks_state.specs.declared.kept.Kept.{Kept}
use Rattle.tks_state.specs.declared.restoring.WindowParts.{WindowParts}
use Rattle.tks_state.specs.declared.restoring.WorldParts.{WorldParts}

-- ---- windows

-- what is kept of a window, of its parts
abbrev pub kept_with : tree.Window → WindowParts → Kept
kept_with w p = record { window = w.number; widget = p.widget; tags = p.tags; packing = p.packing }

abbrev pub kept_of_parts : List tree.Window → List WindowParts → List Kept
kept_of_parts [] parts = []
kept_of_parts (w ∷ windows) [] = []
kept_of_parts (w ∷ windows) (p ∷ parts) = kept_with w p ∷ kept_of_parts windows parts

-- whether this is kept of the window, and its widget is of the window's class
abbrev pub is_kept_of : tree.Window → Kept → Bool
is_kept_of w k = (k.window == w.number) && (class_number (class_of k.widget) == class_number w.class)

-- whether there is one for each window, in the same order
abbrev pub are_in_step : List tree.Window → List Kept → Bool
are_in_step [] [] = true
are_in_step [] (k ∷ kept) = false
are_in_step (w ∷ windows) [] = false
are_in_step (w ∷ windows) (k ∷ kept) = is_kept_of w k && are_in_step windows kept

abbrev pub is_among : ℕ → List ℕ → Bool
is_among n [] = false
is_among n (m ∷ ms) = (n == m) || is_among n ms

abbrev pub are_distinct : List ℕ → Bool
are_distinct [] = true
are_distinct (n ∷ ns) = not (is_among n ns) && are_distinct ns

-- whether a number is this one
abbrev pub is_number : ℕ → Option ℕ → Bool
is_number n None = false
is_number n (Some m) = m == n

-- whether the windows that are packed in one differ, and stand right in it
abbrev pub packs_children : tree.Windows → Kept → Bool
packs_children t k = are_distinct (packed_windows k) && list_all (λ n. is_number k.window (tree.parent t n)) (packed_windows k)

abbrev pub are_windows : Windows → Bool
are_windows x = are_in_step x.tree.windows x.kept && list_all (packs_children x.tree) x.kept

-- ---- the world

-- whether so many inputs may have been accepted, and the clock may stand so
abbrev pub counts_fit : ℕ → ℕ → Bool
counts_fit accepted clock = nat_le accepted (2 ^ 62) && nat_lt clock (2 ^ 62)

-- whether a world with such a tree is one that there may be
unfoldable pub is_possible : World → Bool
is_possible w =
    counts_fit w.accepted w.clock
    && ((length w.variables.locals == 0)
    && (are_windows (windows_of w) && (nat_le (length w.history) max_history && (nat_le (length w.faults) max_faults && all_in w.tree.windows (loop_of w)))))

-- the world of these parts
abbrev pub world_of : WorldParts → World
world_of p = record {
  accepted = p.accepted;
  clock = p.clock;
  tree = p.tree;
  kept = kept_of_parts p.tree.windows p.windows.items;
  variables = p.variables;
  bindings = p.bindings;
  virtuals = p.virtuals;
  history = p.history;
  queue = p.queue;
  timers = p.timers;
  focus = p.focus;
  held = p.held;
  pressed = p.pressed;
  memories = p.memories;
  faults = p.faults;
  rules = p.rules;
  grid = p.grid;
}

-- the same, where there may be such a world
abbrev pub restored : WorldParts → Option World
restored p = if is_possible (world_of p) then Some (world_of p) else None
