-- By what the code finds a virtual event.
use Rattle.std.specs.Prelude.{ℕ, ◌≡◌, suc, true, nat_lt, if◌then◌else◌, List, [], ◌∷◌, length, slice_get, Option, Some, None}
use Rattle.std.specs.List.{list_all}
use Rattle.std.specs.FinMap as map
use Rattle.tks_share.specs.Maps.{Map}
use Rattle.tks_bind.specs.declared.name_places.NamePlaces.{NamePlaces}
use Rattle.tks_bind.specs.declared.through.Through.{Through}
use Rattle.tks_bind.specs.declared.virtual_event.VirtualEvent.{VirtualEvent}
use Rattle.tks_bind.specs.Groups.{Leads}
use Rattle.tks_bind.specs.VirtualEvents.{is_named}
use Rattle.tks_bind.specs.WellFormed.{AreVirtuals}

-- the index of the virtual event of a name, or the end
abbrev pub index_of : List ℕ → List VirtualEvent → ℕ
index_of name [] = 0
index_of name (v ∷ vs) = if is_named name v then 0 else suc (index_of name vs)

abbrev pub found : List ℕ → List VirtualEvent → Option VirtualEvent
found name [] = None
found name (v ∷ vs) = if is_named name v then Some v else found name vs

-- a place, or the end
abbrev pub or_end : Option ℕ → ℕ → ℕ
or_end None end = end
or_end (Some place) end = place

-- each virtual event has a number below the next one, which is found under its name, and no other name has one
pub record ArePlaced (vs : List VirtualEvent) (p : NamePlaces) : Type 0 where
  pub many : length p.places ≡ length vs
  pub below : list_all (λ n. nat_lt n p.next) p.places ≡ true
  pub found : (name : List ℕ) → map.get p.numbers name ≡ slice_get p.places (index_of name vs)

-- what holds of virtual events and of what finds them
pub record AreIndexed (vs : List VirtualEvent) (m : Map (Map (Map (List Through)))) (p : NamePlaces) : Type 0 where
  pub events : AreVirtuals vs
  pub groups : Leads m vs
  pub names : ArePlaced vs p
