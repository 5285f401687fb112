-- The choice as a function.
use Rattle.std.specs.Prelude.{ℕ, ◌-◌, ◌&&◌, ◌||◌, not, nat_lt, Bool, false, if◌then◌else◌, List, [], ◌∷◌, length, Option, Some, None, is_some}
use Rattle.tks_text.specs.Text.{same_text}
use Rattle.tks_event.specs.Kinds.{is_virtual}
use Rattle.tks_event.specs.declared.pattern.Pattern.{Pattern}
use Rattle.tks_bind.specs.declared.binding.Binding.{Binding}
use Rattle.tks_bind.specs.declared.scene.Scene.{Scene as Held}
use Rattle.tks_bind.specs.declared.virtual_event.VirtualEvent.{VirtualEvent}
use Rattle.tks_bind.specs.VirtualEvents.{sequences_of}
use Rattle.tks_bind.specs.Occurs.{turned}
use Rattle.tks_bind.specs.Search.{ends_at}
use Rattle.tks_bind.specs.Choice.{Way}
use Rattle.tks_bind.specs.Beating.{beats}
use Rattle.tks_bind.specs.Chosen.{Scene, name_of}

-- what contracts see of the code's scenes
abbrev pub scene_of : Held → Scene
scene_of s = record { bindings = s.bindings.now.bindings; tag = s.tag.now; event = s.event.now; history = s.history.now; virtuals = s.virtuals.now }

-- whether a name is this one
abbrev pub is_this : Option (List ℕ) → List ℕ → Bool
is_this None name = false
is_this (Some n) name = same_text n name

-- whether the event meets a sequence
abbrev pub meets : Scene → List Pattern → Bool
meets s sequence = if is_virtual s.event.kind then is_this (name_of sequence) s.event.detail else ends_at (turned sequence []) s.history (length s.history - 1)

-- the sequences that are tried for a binding
abbrev pub tried_for : Option (List ℕ) → List Pattern → List VirtualEvent → List (List Pattern)
tried_for None sequence virtuals = sequence ∷ []
tried_for (Some name) sequence virtuals = sequences_of name virtuals

abbrev pub tried : Scene → Binding → List (List Pattern)
tried s b = if is_virtual s.event.kind then b.sequence ∷ [] else tried_for (name_of b.sequence) b.sequence s.virtuals

-- whether they are those of a virtual event
abbrev pub is_through : Scene → Binding → Bool
is_through s b = not (is_virtual s.event.kind) && is_some (name_of b.sequence)

abbrev pub way : Bool → List Pattern → Way
way virtual sequence = record { sequence = sequence; is_virtual = virtual }

-- whether one of these sequences is met and beats a way
abbrev pub one_beats : Scene → Bool → Way → List (List Pattern) → Bool
one_beats s virtual w [] = false
one_beats s virtual w (q ∷ qs) = (meets s q && beats (way virtual q) w) || one_beats s virtual w qs

-- whether a binding of the tag beats a way
abbrev pub is_beaten_by : Scene → Way → Binding → Bool
is_beaten_by s w b = same_text b.tag s.tag && one_beats s (is_through s b) w (tried s b)

abbrev pub is_beaten : Scene → Way → List Binding → Bool
is_beaten s w [] = false
is_beaten s w (b ∷ bs) = is_beaten_by s w b || is_beaten s w bs

-- whether a sequence is met, and nothing beats it
abbrev pub stands : Scene → Bool → List Pattern → Bool
stands s virtual q = meets s q && not (is_beaten s (way virtual q) s.bindings)

-- whether one of these sequences is met, and none beats it
abbrev pub one_wins : Scene → Bool → List (List Pattern) → Bool
one_wins s virtual [] = false
one_wins s virtual (q ∷ qs) = stands s virtual q || one_wins s virtual qs

abbrev pub wins : Scene → Binding → Bool
wins s b = same_text b.tag s.tag && one_wins s (is_through s b) (tried s b)

-- the later of two
abbrev pub later : Option Binding → Option Binding → Option Binding
later None other = other
later (Some b) None = Some b
later (Some b) (Some c) = Some (if nat_lt b.number c.number then c else b)

-- the latest of those that win
abbrev pub latest_of : Scene → List Binding → Option Binding
latest_of s [] = None
latest_of s (b ∷ bs) = if wins s b then later (Some b) (latest_of s bs) else latest_of s bs

-- the binding that an event fires: of those that win, the latest
unfoldable pub chosen : Scene → Option Binding
chosen s = latest_of s s.bindings
