-- By which index the code puts an event.
use Rattle.std.specs.Prelude.{ℕ, suc, Bool, true, false, length, if◌then◌else◌, List, [], ◌∷◌}
use Rattle.tks_queue.specs.declared.queued.Queued.{Queued}
use Rattle.tks_queue.specs.declared.place.Place.{Place}
use Rattle.tks_queue.specs.declared.place.Place.TheVariants as place
use Rattle.tks_queue.specs.EventQueue.{some_with_mark}

-- how many events stand up to the last one that was put with `mark`
abbrev pub up_to_mark : List Queued → ℕ
up_to_mark [] = 0
up_to_mark (q ∷ queue) = if some_with_mark (q ∷ queue) then suc (up_to_mark queue) else 0

-- whether an event is put so
abbrev pub is_mark : Place → Bool
is_mark place.Mark = true
is_mark p = false

-- before which event one is put into a place
abbrev pub index_for : Place → List Queued → ℕ
index_for place.Tail queue = length queue
index_for place.Head queue = 0
index_for place.Mark queue = up_to_mark queue
