-- Sets of modifiers (bind(n), "Modifiers"). A set is the number of its bits, as an event's state has them; which
-- modifiers there are is this project's own choice.
use Rattle.std.specs.Prelude.{ℕ, Bool, not, ◌==◌, bit_and, bit_or, List, [], ◌∷◌, Option, codes}
use Rattle.tks_event.specs.Keysyms.{named_in, or_else}
use Rattle.tks_event.specs.declared.modifiers.Modifier.{Modifier}
use Rattle.tks_event.specs.declared.modifiers.Modifier.TheVariants as modifier

-- the bit of a modifier in a state
abbrev pub bit_of : Modifier → ℕ
bit_of modifier.Shift = 1
bit_of modifier.Lock = 2
bit_of modifier.Control = 4
bit_of modifier.Mod1 = 8
bit_of modifier.Mod2 = 16
bit_of modifier.Mod3 = 32
bit_of modifier.Mod4 = 64
bit_of modifier.Mod5 = 128
bit_of modifier.Button1 = 256
bit_of modifier.Button2 = 512
bit_of modifier.Button3 = 1_024
bit_of modifier.Button4 = 2_048
bit_of modifier.Button5 = 4_096

-- sets are the numbers below this
abbrev pub all_bits : ℕ
all_bits = 8_192

-- whether a set has a modifier
abbrev pub has : ℕ → Modifier → Bool
has set m = not (bit_and set (bit_of m) == 0)

-- a set and one modifier more
abbrev pub with_modifier : Modifier → ℕ → ℕ
with_modifier m set = bit_or set (bit_of m)

-- ---- names

abbrev pub key_modifiers : List (List ℕ × Modifier)
key_modifiers = (codes "Shift", modifier.Shift) ∷ (codes "Lock", modifier.Lock) ∷ (codes "Control", modifier.Control) ∷ []

abbrev pub first_modifiers : List (List ℕ × Modifier)
first_modifiers =
    (codes "Mod1", modifier.Mod1) ∷ (codes "M1", modifier.Mod1) ∷ (codes "Alt", modifier.Mod1) ∷ (codes "Mod2", modifier.Mod2) ∷ (codes "M2", modifier.Mod2) ∷ []

abbrev pub later_modifiers : List (List ℕ × Modifier)
later_modifiers =
    (codes "Mod3", modifier.Mod3) ∷ (codes "M3", modifier.Mod3) ∷ (codes "Mod4", modifier.Mod4) ∷ (codes "M4", modifier.Mod4) ∷ (codes "Mod5", modifier.Mod5)
    ∷ (codes "M5", modifier.Mod5) ∷ []

abbrev pub button_modifiers : List (List ℕ × Modifier)
button_modifiers =
    (codes "Button1", modifier.Button1) ∷ (codes "B1", modifier.Button1) ∷ (codes "Button2", modifier.Button2) ∷ (codes "B2", modifier.Button2)
    ∷ (codes "Button3", modifier.Button3) ∷ (codes "B3", modifier.Button3) ∷ []

abbrev pub later_button_modifiers : List (List ℕ × Modifier)
later_button_modifiers =
    (codes "Button4", modifier.Button4) ∷ (codes "B4", modifier.Button4) ∷ (codes "Button5", modifier.Button5) ∷ (codes "B5", modifier.Button5) ∷ []

-- the modifier that a word names
abbrev pub modifier_named : List ℕ → Option Modifier
modifier_named word =
    or_else (named_in key_modifiers word)
    (or_else (named_in first_modifiers word)
    (or_else (named_in later_modifiers word) (or_else (named_in button_modifiers word) (named_in later_button_modifiers word))))

-- its first name, by which it is spelled
abbrev pub modifier_name : Modifier → List ℕ
modifier_name modifier.Shift = codes "Shift"
modifier_name modifier.Lock = codes "Lock"
modifier_name modifier.Control = codes "Control"
modifier_name modifier.Mod1 = codes "Mod1"
modifier_name modifier.Mod2 = codes "Mod2"
modifier_name modifier.Mod3 = codes "Mod3"
modifier_name modifier.Mod4 = codes "Mod4"
modifier_name modifier.Mod5 = codes "Mod5"
modifier_name modifier.Button1 = codes "Button1"
modifier_name modifier.Button2 = codes "Button2"
modifier_name modifier.Button3 = codes "Button3"
modifier_name modifier.Button4 = codes "Button4"
modifier_name modifier.Button5 = codes "Button5"

-- all of them, by rising bit
abbrev pub all_modifiers : List Modifier
all_modifiers =
    modifier.Shift ∷ modifier.Lock ∷ modifier.Control ∷ modifier.Mod1 ∷ modifier.Mod2 ∷ modifier.Mod3 ∷ modifier.Mod4 ∷ modifier.Mod5 ∷ modifier.Button1
    ∷ modifier.Button2 ∷ modifier.Button3 ∷ modifier.Button4 ∷ modifier.Button5 ∷ []
