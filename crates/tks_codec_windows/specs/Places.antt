-- The places of windows, as bytes tell them (this project's own format): the number of each, its path and class, what is packed
-- in it, and how it is packed itself. The tree and what is packed in each window are made of them again.
use Rattle.std.specs.Prelude.{◌≡◌, ℕ, Bool, true, false, ◌&&◌, ◌==◌, not, is_some, if◌then◌else◌, List, [], ◌∷◌, map, length, Option, Some, None, Result, Ok, Err}
use Rattle.std.specs.BTreeMap.{BTreeMap, get}
use Rattle.std.specs.List.{AllByRecursion, list_all}
use Rattle.std.specs.Ordering.{nat_cmp}
use Rattle.tks_text.specs.Text.{same_text}
use Rattle.tks_opt.specs.Numbers.{anchor_number}
use Rattle.tks_tree.specs.Path.{root_path}
use Rattle.tks_tree.specs.WellFormed.{is_widget_class}
use Rattle.tks_tree.specs.Windows.{Window, Windows, Refusal, first_windows, of_number, created, may_skip, skipped}
use Rattle.tks_pack.specs.Numbers.{side_number, fill_number}
use Rattle.tks_pack.specs.Packing.{Packed}
use Rattle.tks_pack.specs.Settings.{default_settings}
use Rattle.tks_pack.specs.declared.packing.Content.{Content}
use Rattle.tks_pack.specs.declared.settings.Settings.{Settings}
use Rattle.tks_codec_windows.specs.declared.place.Place.{Place}

-- ---- places of windows

-- how a window is packed among contents, if it is
abbrev pub settings_in : List Content → ℕ → Option Settings
settings_in [] window = None
settings_in (c ∷ contents) window = if c.window == window then Some c.settings else settings_in contents window

abbrev pub or_else : Option Settings → Option Settings → Option Settings
or_else None other = other
or_else (Some settings) other = Some settings

-- the same in the first window that it is packed in
abbrev pub packed_as : List Packed → ℕ → Option Settings
packed_as [] window = None
packed_as (p ∷ packings) window = or_else (settings_in p.contents window) (packed_as packings window)

-- the place of a window, among windows in which these are packed
abbrev pub place_of : List Packed → Window → Packed → Place
place_of packings w p = record {
  window = w.number;
  path = w.path;
  class = w.class;
  propagates = p.propagates;
  contents = map (λ c. c.window) p.contents;
  packing = packed_as packings w.number;
}

abbrev pub places_from : List Packed → List Window → List Packed → List Place
places_from packings [] ps = []
places_from packings (w ∷ windows) [] = []
places_from packings (w ∷ windows) (p ∷ ps) = place_of packings w p ∷ places_from packings windows ps

-- those of all windows, in each of which something is packed
abbrev pub places_of : Windows → List Packed → List Place
places_of t packings = places_from packings t.windows packings

-- ---- the tree of places

abbrev pub on_tree : {X : Type 0} → Option Windows → (Windows → Option X) → Option X
on_tree None next = None
on_tree (Some t) next = next t

abbrev pub tree_made : Result (ℕ × Windows) Refusal → Option Windows
tree_made (Ok x) = Some x.1
tree_made (Err why) = None

-- a window more, with its own number; none where it may not have it, or where no window may be made there
abbrev pub with_number : Windows → Place → Option Windows
with_number t p = if may_skip t p.window then tree_made (created (skipped t p.window) p.path p.class) else None

-- the same, where it is of such a class
abbrev pub with_place : Windows → Place → Option Windows
with_place t p = if is_widget_class p.class then with_number t p else None

abbrev pub with_places : Windows → List Place → Option Windows
with_places t [] = Some t
with_places t (p ∷ places) = on_tree (with_place t p) (λ u. with_places u places)

-- the place of `.`
abbrev pub is_first : Place → Bool
is_first p = (p.window == 0) && (same_text p.path root_path && not (is_widget_class p.class))

-- the next window gets this number, if it may
abbrev pub ended : ℕ → Windows → Option Windows
ended next t = if may_skip t next then Some (skipped t next) else None

-- the tree, of which `.` comes first
abbrev pub tree_of : ℕ → List Place → Option Windows
tree_of next [] = None
tree_of next (p ∷ places) = if is_first p then on_tree (with_places first_windows places) (ended next) else None

-- ---- what is packed, of places

abbrev pub or_default : Option Settings → Settings
or_default None = default_settings
or_default (Some settings) = settings

-- how the place of a window says that it is packed
abbrev pub settings_of : List Place → ℕ → Settings
settings_of [] window = default_settings
settings_of (p ∷ places) window = if p.window == window then or_default p.packing else settings_of places window

abbrev pub content_of : List Place → ℕ → Content
content_of places window = record { window = window; settings = settings_of places window }

-- what is packed in the window of a place
abbrev pub packed_in : List Place → Place → Packed
packed_in places p = record { contents = map (content_of places) p.contents; propagates = p.propagates }

abbrev pub packings_in : List Place → List Packed
packings_in places = map (packed_in places) places

-- a map has how each window is packed, as the places say
abbrev pub Says : BTreeMap ℕ Settings → List Place → Type 0
Says settings places = (n : ℕ) → or_default (get nat_cmp settings n) ≡ settings_of places n

-- what is packed in the window of a place, each as a map has it
abbrev pub content_by : BTreeMap ℕ Settings → ℕ → Content
content_by settings window = record { window = window; settings = or_default (get nat_cmp settings window) }

abbrev pub packed_by : BTreeMap ℕ Settings → Place → Packed
packed_by settings p = record { contents = map (content_by settings) p.contents; propagates = p.propagates }

-- ---- both

abbrev pub same_flag : Bool → Bool → Bool
same_flag true b = b
same_flag false b = not b

abbrev pub same_paddings : Settings → Settings → Bool
same_paddings a b = (a.padx == b.padx) && ((a.pady == b.pady) && ((a.ipadx == b.ipadx) && (a.ipady == b.ipady)))

abbrev pub same_settings : Settings → Settings → Bool
same_settings a b =
    (side_number a.side == side_number b.side) && ((fill_number a.fill == fill_number b.fill)
    && (same_flag a.expand b.expand && ((anchor_number a.anchor == anchor_number b.anchor)
    && same_paddings a b)))

abbrev pub same_packing : Option Settings → Option Settings → Bool
same_packing None None = true
same_packing None (Some b) = false
same_packing (Some a) None = false
same_packing (Some a) (Some b) = same_settings a b

-- whether each window is packed as its place says
abbrev pub are_packed : List Packed → List Place → Bool
are_packed packings places = list_all (λ p. same_packing (packed_as packings p.window) p.packing) places

abbrev pub agreeing : List Place → List Packed → Windows → Option (Windows × List Packed)
agreeing places packings t = if are_packed packings places then Some (t, packings) else None

-- the tree, and what is packed in each of its windows; none where these are no places of windows. Whether what is packed is
-- there, and stands in its container, is not asked.
abbrev pub placed : ℕ → List Place → Option (Windows × List Packed)
placed next places = on_tree (tree_of next places) (agreeing places (packings_in places))

-- ---- windows that have places

-- a packed window is there, and how it is packed is found
pub record IsFound (t : Windows) (packings : List Packed) (c : Content) : Type 0 where
  pub there : is_some (of_number t.windows c.window) ≡ true
  pub found : packed_as packings c.window ≡ Some c.settings

abbrev pub AreFound : Windows → List Packed → Packed → Type 0
AreFound t packings p = AllByRecursion (IsFound t packings) p.contents

-- something is packed in each window, and each that is packed is found
pub record PacksEach (t : Windows) (packings : List Packed) : Type 0 where
  pub count : length packings ≡ length t.windows
  pub found : AllByRecursion (AreFound t packings) packings
