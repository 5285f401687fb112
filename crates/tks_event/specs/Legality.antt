-- Which events there are (this project's own rule): the fields of one go with its kind, and its numbers are in their ranges.
use Rattle.std.specs.Prelude.{◌≡◌, ℕ, ℤ, pos, negsuc, ◌^◌, ◌-◌, Bool, true, false, ◌&&◌, ◌==◌, List, [], ◌∷◌, nat_lt, nat_le}
use Rattle.std.specs.List.{AllByRecursion}
use Rattle.tks_event.specs.Kinds.{is_button}
use Rattle.tks_event.specs.Keysyms.{is_keysym}
use Rattle.tks_event.specs.Sequences.{is_name}
use Rattle.tks_event.specs.Event.{Event}
use Rattle.tks_event.specs.declared.kind.Kind.{Kind}
use Rattle.tks_event.specs.declared.kind.Kind.TheVariants as kinds

abbrev pub is_empty : List ℕ → Bool
is_empty [] = true
is_empty (c ∷ t) = false

-- no number of a window is greater than this
abbrev pub max_number : ℕ
max_number = 2 ^ 62

-- no time is later than this, in milliseconds
abbrev pub max_time : ℕ
max_time = 2 ^ 62 - 1

-- a column or a row: -100,000 to 100,000
abbrev pub is_place : ℤ → Bool
is_place (pos n) = nat_le n 100_000
is_place (negsuc n) = nat_lt n 100_000

abbrev pub is_zero : ℤ → Bool
is_zero (pos n) = n == 0
is_zero (negsuc n) = false

-- it has places, in the window and on the screen
abbrev pub is_somewhere : Event → Bool
is_somewhere e = is_place e.x && (is_place e.y && (is_place e.root_x && is_place e.root_y))

-- it has none
abbrev pub is_nowhere : Event → Bool
is_nowhere e = is_zero e.x && (is_zero e.y && (is_zero e.root_x && is_zero e.root_y))

-- a key has a keysym, no place and no data
abbrev pub suits_key : Event → Bool
suits_key e = is_keysym e.detail && (is_nowhere e && is_empty e.payload)

-- a button has its number and places, and no data
abbrev pub suits_button : Event → Bool
suits_button e = is_button e.detail && (is_somewhere e && is_empty e.payload)

-- the focus has nothing but its window
abbrev pub suits_focus : Event → Bool
suits_focus e = is_empty e.detail && ((e.state == 0) && ((e.time == 0) && (is_nowhere e && is_empty e.payload)))

-- a virtual event has its name, places and data
abbrev pub suits_name : Event → Bool
suits_name e = is_name e.detail && is_somewhere e

-- its fields go with its kind; one that the kind lacks is 0 or empty
abbrev pub goes_with : Kind → Event → Bool
goes_with kinds.KeyPress e = suits_key e
goes_with kinds.KeyRelease e = suits_key e
goes_with kinds.ButtonPress e = suits_button e
goes_with kinds.ButtonRelease e = suits_button e
goes_with kinds.FocusIn e = suits_focus e
goes_with kinds.FocusOut e = suits_focus e
goes_with kinds.Virtual e = suits_name e

-- whether there is an event of these fields
unfoldable pub is_event : Event → Bool
is_event e = nat_le e.window max_number && (nat_le e.time max_time && goes_with e.kind e)

-- each of these is one
abbrev pub AreEvents : List Event → Type 0
AreEvents events = AllByRecursion (λ e. is_event e ≡ true) events
