-- Lists by endings, and what ties them to the bindings and the virtual events.
use Rattle.std.specs.Prelude.{ℕ, ◌≡◌, Bool, ◌&&◌, not, List, [], Option, Some, None}
use Rattle.std.specs.List.{filter}
use Rattle.std.specs.FinMap as map
use Rattle.tks_share.specs.Maps.{Map}
use Rattle.tks_text.specs.Text.{same_text}
use Rattle.tks_event.specs.Equality.{equal_patterns}
use Rattle.tks_event.specs.declared.pattern.Pattern.{Pattern}
use Rattle.tks_bind.specs.declared.binding.Binding.{Binding}
use Rattle.tks_bind.specs.declared.through.Through.{Through}
use Rattle.tks_bind.specs.declared.virtual_event.VirtualEvent.{VirtualEvent}
use Rattle.tks_bind.specs.Chosen.{IsOneOf}
use Rattle.tks_bind.specs.VirtualEvents.{sequences_of}
use Rattle.tks_bind.specs.Endings.{Key, last_ending, is_under}

-- ---- lists by names

abbrev pub listed : {X : Type 0} → Option (List X) → List X
listed None = []
listed (Some xs) = xs

abbrev pub items_in : {X : Type 0} → Map (List X) → List ℕ → List X
items_in m name = listed (map.get m name)

abbrev pub mapped : {X : Type 0} → Option (Map X) → Map X
mapped None = map.empty
mapped (Some m) = m

abbrev pub map_in : {X : Type 0} → Map (Map X) → List ℕ → Map X
map_in m name = mapped (map.get m name)

-- the list by an ending, and by a tag before it
abbrev pub group_in : {X : Type 0} → Map (Map (List X)) → Key → List X
group_in m e = items_in (map_in m e.kind) e.detail

abbrev pub group_of : {X : Type 0} → Map (Map (Map (List X))) → List ℕ → Key → List X
group_of m tag e = group_in (map_in m tag) e

-- the lists by an ending, by the names of virtual events
abbrev pub names_in : {X : Type 0} → Map (Map (Map (List X))) → Key → Map (List X)
names_in m e = map_in (map_in m e.kind) e.detail

-- an ending and the name of a virtual event
pub record Spot : Type 0 where
  pub ending : Key
  pub name : List ℕ

abbrev pub same_spot : Spot → Spot → Bool
same_spot s t = same_text s.ending.kind t.ending.kind && (same_text s.ending.detail t.ending.detail && same_text s.name t.name)

-- the list by an ending and a name
abbrev pub list_at : {X : Type 0} → Map (Map (Map (List X))) → Spot → List X
list_at m s = items_in (names_in m s.ending) s.name

-- ---- what they tell

-- each binding is in the group of its tag and its ending, and in no other; in a group they are in the order in which they
-- were made
abbrev pub Groups : Map (Map (Map (List Binding))) → List Binding → Type 0
Groups m bs = (tag : List ℕ) (e : Key) → group_of m tag e ≡ filter (is_under tag e) bs

-- a virtual event is met by a sequence
abbrev pub IsMetBy : Through → List VirtualEvent → Type 0
IsMetBy t vs = IsOneOf t.sequence (sequences_of t.name vs)

-- these are those whose last pattern ends so
pub record Tells (vs : List VirtualEvent) (e : Key) (ts : List Through) : Type 0 where
  pub met : (t : Through) → IsOneOf t ts → IsMetBy t vs × (last_ending t.sequence ≡ e)
  pub all : (t : Through) → IsMetBy t vs → last_ending t.sequence ≡ e → IsOneOf t ts

-- where a sequence by which a virtual event is met is found
abbrev pub spot_of : Through → Spot
spot_of t = record { ending = last_ending t.sequence; name = t.name }

-- these are those that are found there
pub record TellsAt (vs : List VirtualEvent) (s : Spot) (ts : List Through) : Type 0 where
  pub met : (t : Through) → IsOneOf t ts → IsMetBy t vs × (spot_of t ≡ s)
  pub all : (t : Through) → IsMetBy t vs → spot_of t ≡ s → IsOneOf t ts

-- each sequence by which a virtual event is met is in the list of its ending and the event's name
abbrev pub Leads : Map (Map (Map (List Through))) → List VirtualEvent → Type 0
Leads m vs = (s : Spot) → TellsAt vs s (list_at m s)

-- whether it is another one than that of a name and a sequence
abbrev pub is_other : List ℕ → List Pattern → Through → Bool
is_other name sequence t = not (same_text t.name name && equal_patterns t.sequence sequence)
