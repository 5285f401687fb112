-- The queue of events (event(n), `event generate -when`; under which window a key waits is this project's own rule).
use Rattle.std.specs.Prelude.{◌≡◌, ℕ, Bool, true, false, ◌||◌, ◌==◌, not, if◌then◌else◌, List, [], ◌∷◌, ◌++◌, Option, Some, None}
use Rattle.std.specs.List.{filter, list_all}
use Rattle.tks_event.specs.Event.{Event}
use Rattle.tks_event.specs.Kinds.{is_of_key}
use Rattle.tks_queue.specs.declared.queued.Queued.{Queued}
use Rattle.tks_queue.specs.declared.place.Place.{Place}
use Rattle.tks_queue.specs.declared.place.Place.TheVariants as place

-- an event as it waits: one of a key under `.`, since it goes to the window that has the focus when it is delivered
abbrev pub waiting : Event → Event
waiting e = if is_of_key e.kind then record e { window = 0 } else e

abbrev pub queued : Bool → Event → Queued
queued with_mark e = record { event = waiting e; with_mark = with_mark }

-- whether one of them was put with `mark`
abbrev pub some_with_mark : List Queued → Bool
some_with_mark [] = false
some_with_mark (q ∷ queue) = q.with_mark || some_with_mark queue

-- `mark`: right behind the last event that was put so, or first where there is none
abbrev pub put_with_mark : Event → List Queued → List Queued
put_with_mark e [] = queued true e ∷ []
put_with_mark e (q ∷ queue) = if some_with_mark (q ∷ queue) then q ∷ put_with_mark e queue else queued true e ∷ q ∷ queue

-- `tail` goes behind all, `head` before all
abbrev pub put : Place → Event → List Queued → List Queued
put place.Tail e queue = queue ++ queued false e ∷ []
put place.Head e queue = queued false e ∷ queue
put place.Mark e queue = put_with_mark e queue

-- the first event, which is the next to be delivered
abbrev pub first : List Queued → Option Event
first [] = None
first (q ∷ queue) = Some q.event

abbrev pub without_first : List Queued → List Queued
without_first [] = []
without_first (q ∷ queue) = queue

-- without the events of a window that is gone
abbrev pub without_window : ℕ → List Queued → List Queued
without_window window queue = filter (λ q. not (q.event.window == window)) queue

-- ---- where `mark` puts

-- an event was put right behind the last one that was put with `mark`
pub record BehindTheLast (e : Event) (before after : List Queued) : Type 0 where
  pub front : List Queued
  pub last : Queued
  pub back : List Queued
  pub last_so : last.with_mark ≡ true
  pub none_behind : list_all (λ q. not q.with_mark) back ≡ true
  pub was : before ≡ front ++ last ∷ back
  pub is : after ≡ front ++ last ∷ queued true e ∷ back

-- an event was put first, since none was put with `mark`
pub record First (e : Event) (before after : List Queued) : Type 0 where
  pub none : list_all (λ q. not q.with_mark) before ≡ true
  pub is : after ≡ queued true e ∷ before
