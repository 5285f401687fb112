-- Where the windows lie on the grid (pack(n), "The packer algorithm" and "Geometry propagation"; that `.` keeps the
-- size of the grid, and the drawing order, are this project's own rules).
use Rattle.std.specs.Prelude.{ℕ, ◌+◌, ◌&&◌, ◌≤◌, nat_le, nat_lt, Bool, if◌then◌else◌, List, [], ◌∷◌, Option, Some, None, IfSome}
use Rattle.std.specs.List.{AllByRecursion}
use Rattle.std.specs.FinMap as map
use Rattle.tks_text.specs.Size as grid
use Rattle.tks_pack.specs.Packing as packer
use Rattle.tks_pack.specs.declared.area.Area.{Area}
use Rattle.tks_pack.specs.declared.area.Extent.{Extent}
use Rattle.tks_pack.specs.declared.packing.Content.{Content}
use Rattle.tks_tree.specs.Windows.{max_number, preorder}
use Rattle.tks_vars.specs.Variables.{Variables}
use Rattle.tks_state.specs.Links.{requested}
use Rattle.tks_state.specs.World.{World}
use Rattle.tks_state.specs.ByWindow.{ByWindow}
use Rattle.tks_state.specs.declared.kept.Kept.{Kept}
use Rattle.tks_state.specs.declared.layout.Placed.{Placed}

-- ---- how large windows ask to be

abbrev pub or_nothing : Option Extent → Extent
or_nothing None = record { width = 0; height = 0 }
or_nothing (Some size) = size

-- the size that a window asks for, where it is known
abbrev pub size_in : ByWindow Extent → ℕ → Extent
size_in known window = or_nothing (map.get known window)

abbrev pub or_own : Extent → Option Extent → Extent
or_own own None = own
or_own own (Some size) = size

module _ (variables : Variables) where
  -- what a window asks for: what its contents need, where it asks for that, else what its class says, as it is seen
  abbrev pub size_of : Kept → ByWindow Extent → Extent
  size_of k known = or_own (requested variables k.widget) (packer.requested (size_in known) k.packing.propagates k.packing.contents)

  abbrev pub with_size : Kept → ByWindow Extent → ByWindow Extent
  with_size k known = map.insert known k.window (size_of k known)

  -- what windows ask for, where it is known of those made after them: a window's contents were made after it
  abbrev pub sizes_before : List Kept → ByWindow Extent → ByWindow Extent
  sizes_before [] later = later
  sizes_before (k ∷ kept) later = with_size k (sizes_before kept later)

  abbrev pub sizes : List Kept → ByWindow Extent
  sizes kept = sizes_before kept map.empty

-- ---- where they lie

-- cells of a container, as cells of the grid
abbrev pub on_grid : Area → Area → Area
on_grid container a = record { x = container.x + a.x; y = container.y + a.y; width = a.width; height = a.height }

-- the cells of windows, and a content's, where it is mapped
abbrev pub with_content : Area → Content → Option Area → ByWindow Area → ByWindow Area
with_content container c None placed = placed
with_content container c (Some a) placed = map.insert placed c.window (on_grid container a)

abbrev pub with_contents : Area → List Content → List (Option Area) → ByWindow Area → ByWindow Area
with_contents container [] places placed = placed
with_contents container (c ∷ contents) [] placed = placed
with_contents container (c ∷ contents) (a ∷ places) placed = with_contents container contents places (with_content container c a placed)

abbrev pub extent_of : Area → Extent
extent_of a = record { width = a.width; height = a.height }

-- the cells of windows, and those of a window's contents; of none where the window isn't shown itself
abbrev pub with_contents_of : ByWindow Extent → Kept → Option Area → ByWindow Area → ByWindow Area
with_contents_of known k None placed = placed
with_contents_of known k (Some a) placed = with_contents a k.packing.contents (packer.places (size_in known) (extent_of a) k.packing.contents) placed

-- the cells of the windows that are shown, where they are known of the ones made before: a window's container was
-- made before it
abbrev pub placed_after : ByWindow Extent → ByWindow Area → List Kept → ByWindow Area
placed_after known before [] = before
placed_after known before (k ∷ kept) = placed_after known (with_contents_of known k (map.get before k.window) before) kept

-- `.` has the whole grid
abbrev pub grid_area : grid.Extent → Area
grid_area g = record { x = 0; y = 0; width = g.width; height = g.height }

-- the cells on the grid of each window that is shown
abbrev pub placed_in : Variables → List Kept → grid.Extent → ByWindow Area
placed_in variables kept g = placed_after (sizes variables kept) (map.insert map.empty 0 (grid_area g)) kept

abbrev pub placed : World → ByWindow Area
placed w = placed_in w.variables w.kept w.grid

-- ---- what is drawn

abbrev pub with_area : ℕ → Option Area → List Placed → List Placed
with_area number None rest = rest
with_area number (Some a) rest = record { window = number; area = a } ∷ rest

-- those of these windows that are shown, in their order
abbrev pub shown_of : ByWindow Area → List ℕ → List Placed
shown_of placed [] = []
shown_of placed (number ∷ numbers) = with_area number (map.get placed number) (shown_of placed numbers)

-- the windows that are shown in drawing order: `.`, and each window before those in it
abbrev pub shown_windows : World → List Placed
shown_windows w = shown_of (placed w) (preorder w.tree)

-- whether a cell of the grid is one of the window's
abbrev pub covers : Area → ℕ → ℕ → Bool
covers a x y = nat_le a.x x && nat_lt x (a.x + a.width) && nat_le a.y y && nat_lt y (a.y + a.height)

abbrev pub or_this : Bool → Placed → Option Placed → Option Placed
or_this this p None = if this then Some p else None
or_this this p (Some later) = Some later

-- the last window that covers a cell
abbrev pub last_over : List Placed → ℕ → ℕ → Option Placed
last_over [] x y = None
last_over (p ∷ later) x y = or_this (covers p.area x y) p (last_over later x y)

-- the window that is seen in a cell
abbrev pub topmost : World → ℕ → ℕ → Option Placed
topmost w x y = last_over (shown_windows w) x y

-- ---- the cells lie on the grid

abbrev pub LiesOn : grid.Extent → Area → Type 0
LiesOn g a = (a.x + a.width ≤ g.width) × (a.y + a.height ≤ g.height)

-- those of each window that is shown
abbrev pub AllInside : grid.Extent → ByWindow Area → Type 0
AllInside g placed = (window : ℕ) → IfSome (map.get placed window) (LiesOn g)

-- one that is shown has a number that there is, and lies on the grid
abbrev pub IsShownOn : grid.Extent → Placed → Type 0
IsShownOn g p = (p.window ≤ max_number) × LiesOn g p.area

abbrev pub AllShownOn : grid.Extent → List Placed → Type 0
AllShownOn g placed = AllByRecursion (IsShownOn g) placed
