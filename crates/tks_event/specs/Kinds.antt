-- Kinds of events, their names and details (bind(n), "Event types"). Which kinds there are is this project's own choice.
use Rattle.std.specs.Prelude.{ℕ, Bool, true, false, ◌&&◌, nat_le, List, [], ◌∷◌, Option, codes}
use Rattle.tks_event.specs.Keysyms.{named_in, is_keysym}
use Rattle.tks_event.specs.declared.kind.Kind.{Kind}
use Rattle.tks_event.specs.declared.kind.Kind.TheVariants as kind

-- the types of events that patterns name; `Key` and `Button` are other names of two
abbrev pub kinds : List (List ℕ × Kind)
kinds =
    (codes "KeyPress", kind.KeyPress) ∷ (codes "Key", kind.KeyPress) ∷ (codes "KeyRelease", kind.KeyRelease) ∷ (codes "ButtonPress", kind.ButtonPress)
    ∷ (codes "Button", kind.ButtonPress) ∷ (codes "ButtonRelease", kind.ButtonRelease) ∷ (codes "FocusIn", kind.FocusIn) ∷ (codes "FocusOut", kind.FocusOut) ∷ []

-- the kind that a word names
abbrev pub kind_named : List ℕ → Option Kind
kind_named word = named_in kinds word

-- the name of a kind, by which it is spelled; a virtual event has its own name instead
abbrev pub kind_name : Kind → List ℕ
kind_name kind.KeyPress = codes "KeyPress"
kind_name kind.KeyRelease = codes "KeyRelease"
kind_name kind.ButtonPress = codes "ButtonPress"
kind_name kind.ButtonRelease = codes "ButtonRelease"
kind_name kind.FocusIn = codes "FocusIn"
kind_name kind.FocusOut = codes "FocusOut"
kind_name kind.Virtual = []

abbrev pub same_kind : Kind → Kind → Bool
same_kind kind.KeyPress kind.KeyPress = true
same_kind kind.KeyRelease kind.KeyRelease = true
same_kind kind.ButtonPress kind.ButtonPress = true
same_kind kind.ButtonRelease kind.ButtonRelease = true
same_kind kind.FocusIn kind.FocusIn = true
same_kind kind.FocusOut kind.FocusOut = true
same_kind kind.Virtual kind.Virtual = true
same_kind k other = false

-- whether a text is the number of a button, 1 to 5
abbrev pub is_button : List ℕ → Bool
is_button [] = false
is_button (c ∷ []) = nat_le 49 c && nat_le c 53
is_button (c ∷ d ∷ t) = false

-- whether a text is a detail of events of a kind: a keysym, a button's number, or none at all
abbrev pub is_detail : Kind → List ℕ → Bool
is_detail kind.KeyPress text = is_keysym text
is_detail kind.KeyRelease text = is_keysym text
is_detail kind.ButtonPress text = is_button text
is_detail kind.ButtonRelease text = is_button text
is_detail other text = false

-- a key goes down or up
abbrev pub is_of_key : Kind → Bool
is_of_key kind.KeyPress = true
is_of_key kind.KeyRelease = true
is_of_key k = false

-- a button goes down or up
abbrev pub is_of_button : Kind → Bool
is_of_button kind.ButtonPress = true
is_of_button kind.ButtonRelease = true
is_of_button k = false

-- an event with a name of its own
abbrev pub is_virtual : Kind → Bool
is_virtual kind.Virtual = true
is_virtual k = false
