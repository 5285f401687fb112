-- The history of events (bind(n), "Multiple matches"; that it holds 32 is this project's own rule).
use Rattle.std.specs.Prelude.{ℕ, ◌-◌, Bool, not, if◌then◌else◌, List, [], ◌∷◌, ◌++◌, length, drop}
use Rattle.std.specs.List.{list_all}
use Rattle.tks_event.specs.Event.{Event}
use Rattle.tks_event.specs.Kinds.{is_virtual}

-- how many events it holds at most
abbrev pub max_history : ℕ
max_history = 32

-- the last ones of a list, as many as the history holds
abbrev pub latest : {X : Type 0} → List X → List X
latest events = drop (length events - max_history) events

-- none of them is virtual
abbrev pub are_physical : List Event → Bool
are_physical events = list_all (λ e. not (is_virtual e.kind)) events

-- with an event that was delivered, where it is a physical one; a virtual one is passed over
abbrev pub with_event : Event → List Event → List Event
with_event e events = if is_virtual e.kind then events else latest (events ++ e ∷ [])
