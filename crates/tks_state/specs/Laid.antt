-- What is known of where the windows lie while nothing changes that may move one (this project's own rule).
use Rattle.std.specs.Prelude.{◌≡◌, ℕ, if◌then◌else◌, is_some, List, [], ◌∷◌, Option, Some, None, IfSome, option_map}
use Rattle.std.specs.List.{AllByRecursion}
use Rattle.tks_text.specs.Size as grid
use Rattle.tks_pack.specs.declared.area.Extent.{Extent}
use Rattle.tks_tree.specs.Windows.{preorder}
use Rattle.tks_vars.specs.Variables.{Variables}
use Rattle.tks_state.specs.Links.{link_of, requested}
use Rattle.tks_state.specs.Widget as widgets
use Rattle.tks_state.specs.Windows.{Windows, kept_of}
use Rattle.tks_state.specs.Layout.{placed_in, shown_of, AllShownOn}
use Rattle.tks_state.specs.declared.kept.Kept.{Kept}
use Rattle.tks_state.specs.declared.layout.Placed.{Placed}
use Rattle.tks_state.specs.declared.laid.Asked.{Asked}

-- the windows that are shown with these variables, in drawing order
abbrev pub shown_in : Variables → Windows → grid.Extent → List Placed
shown_in variables x g = shown_of (placed_in variables x.kept g) (preorder x.tree)

-- what the windows that show a global ask for
abbrev pub asked_by : Variables → List Kept → List Asked
asked_by variables [] = []
asked_by variables (k ∷ kept) = if is_some (link_of k.widget) then record { window = k.window; size = requested variables k.widget } ∷ asked_by variables kept else asked_by variables kept

-- what a window asks for
abbrev pub asks_of : Variables → List Kept → ℕ → Option Extent
asks_of variables kept number = option_map (λ k. requested variables k.widget) (kept_of kept number)

-- these windows ask for that
abbrev pub AllAsk : Variables → List Kept → List Asked → Type 0
AllAsk variables kept asked = AllByRecursion (λ a. asks_of variables kept a.window ≡ Some a.size) asked

-- windows that are shown while those that show a global ask for this
pub record Laid : Type 0 where
  pub shown : List Placed
  pub asked : List Asked

pub record StandSo (x : Windows) (g : grid.Extent) (laid : Laid) : Type 0 where
  pub always : (variables : Variables) → AllAsk variables x.kept laid.asked → laid.shown ≡ shown_in variables x g
  pub inside : AllShownOn g laid.shown

abbrev pub ArePlaces : Windows → grid.Extent → Option Laid → Type 0
ArePlaces x g places = IfSome places (StandSo x g)

-- the widget of a window shows no global, and asks for so much room
pub record AsksAlone (x : Windows) (number : ℕ) (size : Extent) : Type 0 where
  pub kept : Kept
  pub there : kept_of x.kept number ≡ Some kept
  pub alone : link_of kept.widget ≡ None
  pub asks : widgets.requested kept.widget ≡ size

-- no room is asked for so: no window has the number, or its widget shows a global
abbrev pub AsksNoneAlone : Windows → ℕ → Type 0
AsksNoneAlone x number = (size : Extent) → AsksAlone x number size → ⊥

-- there are two extents, and they are the same
abbrev pub AreSame : Option Extent → Option Extent → Type 0
AreSame (Some first) (Some second) = first ≡ second
AreSame first second = ⊥
