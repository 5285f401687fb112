-- What holds of all windows (this project's own rules).
use Rattle.std.specs.Prelude.{◌≡◌, ⊤, ℕ, ◌+◌, ◌≤◌, Bool, true, false, ◌||◌, ◌==◌, List, [], ◌∷◌, ◌++◌, Option, Some, None}
use Rattle.std.specs.List.{AllByRecursion}
use Rattle.tks_text.specs.declared.class.Class.{Class}
use Rattle.tks_text.specs.declared.class.Class.TheVariants.{Root}
use Rattle.tks_tree.specs.Path.{is_path, parent_of}
use Rattle.tks_tree.specs.Windows.{Window, Windows, root, max_number, has_path}
pub use Rattle.tks_share.specs.Lists.{Rises}

-- the numbers rise, from one on and below another
abbrev pub Rise : ℕ → List Window → ℕ → Type 0
Rise low [] high = low ≤ high
Rise low (w ∷ later) high = (low ≤ w.number) × Rise (w.number + 1) later high

-- the parent of a window is among those before it, and the first window has none
abbrev pub StandsIn : Option (List ℕ) → List Window → Type 0
StandsIn None [] = ⊤
StandsIn None (w ∷ before) = ⊥
StandsIn (Some parent) before = has_path before parent ≡ true

-- a window behind others has a path, which none of them has, and stands in one of them
pub record Follows (before : List Window) (w : Window) : Type 0 where
  pub path : is_path w.path ≡ true
  pub new : has_path before w.path ≡ false
  pub parent : StandsIn (parent_of w.path) before

-- windows behind others, one after the other
abbrev pub AllFollow : List Window → List Window → Type 0
AllFollow before [] = ⊤
AllFollow before (w ∷ later) = Follows before w × AllFollow (before ++ w ∷ []) later

-- whether it is a class of windows other than `.`
abbrev pub is_widget_class : Class → Bool
is_widget_class Root = false
is_widget_class class = true

-- whether a window that has the root's class is `.`
abbrev pub has_own_class : Window → Bool
has_own_class w = (w.number == 0) || is_widget_class w.class

-- only `.` has the root's class
abbrev pub HaveOwnClasses : List Window → Type 0
HaveOwnClasses windows = AllByRecursion (λ w. has_own_class w ≡ true) windows

-- `.` is the first window, and it alone has the root's class; numbers rise and are below the next one, paths differ, and a
-- parent stands before those in it
pub record WellFormed (t : Windows) : Type 0 where
  pub first : (later : List Window) × (t.windows ≡ root ∷ later)
  pub numbered : Rise 0 t.windows t.next
  pub bounded : t.next ≤ max_number
  pub founded : AllFollow [] t.windows
  pub classes : HaveOwnClasses t.windows
