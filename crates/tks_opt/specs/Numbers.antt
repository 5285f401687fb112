-- The numbers by which bytes tell an anchor and a class (this project's own).
use Rattle.std.specs.Prelude.{ℕ, List, [], ◌∷◌, Option, slice_get}
use Rattle.tks_text.specs.declared.class.Class.{Class}
use Rattle.tks_text.specs.declared.class.Class.TheVariants as class
use Rattle.tks_opt.specs.declared.anchor.Anchor.{Anchor}
use Rattle.tks_opt.specs.declared.anchor.Anchor.TheVariants as anchor

-- anchors, each in the place of its number
abbrev pub anchors_in_order : List Anchor
anchors_in_order =
    anchor.Center ∷ anchor.North ∷ anchor.NorthEast ∷ anchor.East ∷ anchor.SouthEast ∷ anchor.South ∷ anchor.SouthWest ∷ anchor.West ∷ anchor.NorthWest ∷ []

abbrev pub anchor_numbered : ℕ → Option Anchor
anchor_numbered number = slice_get anchors_in_order number

abbrev pub anchor_number : Anchor → ℕ
anchor_number anchor.Center = 0
anchor_number anchor.North = 1
anchor_number anchor.NorthEast = 2
anchor_number anchor.East = 3
anchor_number anchor.SouthEast = 4
anchor_number anchor.South = 5
anchor_number anchor.SouthWest = 6
anchor_number anchor.West = 7
anchor_number anchor.NorthWest = 8

-- classes, each in the place of its number
abbrev pub classes_in_order : List Class
classes_in_order = class.Root ∷ class.Frame ∷ class.Label ∷ class.Button ∷ class.Checkbutton ∷ class.Entry ∷ class.Listbox ∷ class.Text ∷ []

abbrev pub class_numbered : ℕ → Option Class
class_numbered number = slice_get classes_in_order number

abbrev pub class_number : Class → ℕ
class_number class.Root = 0
class_number class.Frame = 1
class_number class.Label = 2
class_number class.Button = 3
class_number class.Checkbutton = 4
class_number class.Entry = 5
class_number class.Listbox = 6
class_number class.Text = 7
