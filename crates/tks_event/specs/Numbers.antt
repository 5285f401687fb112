-- The numbers by which bytes tell a kind (this project's own).
use Rattle.std.specs.Prelude.{ℕ, zero, suc, List, [], ◌∷◌, Option, None, slice_get}
use Rattle.tks_event.specs.declared.kind.Kind.{Kind}
use Rattle.tks_event.specs.declared.kind.Kind.TheVariants as kind

-- kinds in the order of their numbers, from 1 on
abbrev pub kinds_in_order : List Kind
kinds_in_order = kind.KeyPress ∷ kind.KeyRelease ∷ kind.ButtonPress ∷ kind.ButtonRelease ∷ kind.FocusIn ∷ kind.FocusOut ∷ kind.Virtual ∷ []

abbrev pub kind_numbered : ℕ → Option Kind
kind_numbered zero = None
kind_numbered (suc n) = slice_get kinds_in_order n

abbrev pub kind_number : Kind → ℕ
kind_number kind.KeyPress = 1
kind_number kind.KeyRelease = 2
kind_number kind.ButtonPress = 3
kind_number kind.ButtonRelease = 4
kind_number kind.FocusIn = 5
kind_number kind.FocusOut = 6
kind_number kind.Virtual = 7
