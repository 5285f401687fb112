-- Which queues there are (this project's own rule): each event that waits is one that there is, and one of a key waits under `.`.
use Rattle.std.specs.Prelude.{◌≡◌, ◌||◌, ◌==◌, not, Bool, true, List}
use Rattle.std.specs.List.{AllByRecursion}
use Rattle.tks_event.specs.Event.{Event}
use Rattle.tks_event.specs.Kinds.{is_of_key}
use Rattle.tks_event.specs.Legality.{is_event}
use Rattle.tks_queue.specs.declared.queued.Queued.{Queued}

-- whether an event may wait as it is
abbrev pub may_wait : Event → Bool
may_wait e = not (is_of_key e.kind) || (e.window == 0)

abbrev pub IsLegal : Queued → Type 0
IsLegal q = (is_event q.event ≡ true) × (may_wait q.event ≡ true)

abbrev pub AreLegal : List Queued → Type 0
AreLegal queue = AllByRecursion IsLegal queue
