-- What ends in the event that is looked at.
use Rattle.std.specs.Prelude.{ℕ, ◌≡◌, ◌-◌, Bool, true, false, List, [], ◌∷◌, length, slice_get, Option, Some, None, option_copied}
use Rattle.std.specs.List.{filter}
use Rattle.std.specs.FinMap as map
use Rattle.tks_share.specs.Maps.{Map}
use Rattle.tks_event.specs.Event.{Event}
use Rattle.tks_bind.specs.declared.binding.Binding.{Binding}
use Rattle.tks_bind.specs.declared.through.Through.{Through}
use Rattle.tks_bind.specs.declared.ends.Ends.{Ends as Held}
use Rattle.tks_bind.specs.Chosen.{Scene}
use Rattle.tks_bind.specs.Endings.{Key, named, of_event, bare, is_under}
use Rattle.tks_bind.specs.Groups.{Tells}
use Rattle.tks_bind.specs.Tagged.{all_listed}

-- bindings, and sequences by which virtual events are met
pub record Ends : Type 0 where
  pub bindings : List Binding
  pub sequences : List Through

-- all items of lists by names, where there are some
abbrev pub sequences_in : {X : Type 0} → Option (Map (List X)) → List X
sequences_in None = []
sequences_in (Some m) = all_listed (map.entries m)

-- what contracts see of the code's ends
abbrev pub ends_of : Held → Ends
ends_of e = record { bindings = e.bindings.now; sequences = sequences_in (option_copied e.sequences) }

abbrev pub nothing : Ends
nothing = record { bindings = []; sequences = [] }

-- those of the tag, and of all virtual events, that end so
pub record EndSo (s : Scene) (e : Key) (ends : Ends) : Type 0 where
  pub bindings : ends.bindings ≡ filter (is_under s.tag e) s.bindings
  pub sequences : Tells s.virtuals e ends.sequences

-- the last event of the history
abbrev pub last_event : Scene → Option Event
last_event s = slice_get s.history (length s.history - 1)

-- those that end in a virtual event, or in the last event, with its detail
abbrev pub EndFull : Scene → Bool → Option Event → Ends → Type 0
EndFull s true last ends = ends ≡ record { bindings = filter (is_under s.tag (named s.event.detail)) s.bindings; sequences = [] }
EndFull s false None ends = ends ≡ nothing
EndFull s false (Some e) ends = EndSo s (of_event e) ends

-- and without one; none where the event has none
abbrev pub EndBarely : Scene → List ℕ → Event → Ends → Type 0
EndBarely s [] e ends = ends ≡ nothing
EndBarely s (c ∷ detail) e ends = EndSo s (bare e) ends

abbrev pub EndBare : Scene → Bool → Option Event → Ends → Type 0
EndBare s true last ends = ends ≡ nothing
EndBare s false None ends = ends ≡ nothing
EndBare s false (Some e) ends = EndBarely s e.detail e ends
