-- Events that are delivered, or put into the queue, leave the world within limits.
use Rattle.std.proofs.Common.{◌≡◌, Bool, true, false, List, [], ◌∷◌, ◌++◌, length, Ok, IfOk}
use Rattle.std.specs.Prelude.{nat_le}
use Rattle.std.specs.List.{list_all}
use Rattle.std.proofs.lemmas.Bool.{and_from, and_parts, cond_both}
use Rattle.tks_text.specs.Size.{Extent}
use Rattle.tks_text.specs.declared.limits.Limits.{Limits}
use Rattle.tks_event.specs.Event.{Event}
use Rattle.tks_event.specs.Kinds.{is_of_key, is_virtual}
use Rattle.tks_bind.specs.History as history
use Rattle.tks_queue.specs.EventQueue.{waiting, queued, some_with_mark, put_with_mark, put}
use Rattle.tks_queue.specs.declared.place.Place.{Place}
use Rattle.tks_queue.specs.declared.place.Place.TheVariants as place
use Rattle.tks_queue.specs.declared.queued.Queued.{Queued}
use Rattle.tks_tcl.proofs.Framing.{follows}
use Rattle.tks_state.specs.EventLoop.{is_there}
use Rattle.tks_state.specs.World as world
use Rattle.tks_state.specs.World.{World, with_event}
use Rattle.tks_limits.specs.Within.{may_hold, event_fits, history_fits, queue_fits}
use Rattle.tks_cmd.specs.Dispatch.{delivered, event_scripts, begun}
use Rattle.tks_cmd.specs.Queue.{put_within}
use Rattle.tks_keeping.specs.Fitting.{WorldFits, PlanFits}
use Rattle.tks_keeping.proofs.Lists.{pushed_so, behind_so, one_so, AllSo}
use Rattle.tks_keeping.proofs.Texts.{tested_so}
use Rattle.tks_keeping.proofs.Parts.{events_opened, with_history_fits, with_queue_fits}

-- ---- the queue

-- what a test says of all events that wait, it says of them and of one that joins them
module _ (p : Queued → Bool) (e : Event) where
  marked_so : (queue : List Queued) → p (queued true e) ≡ true → AllSo p queue → AllSo p (put_with_mark e queue)
  marked_so [] k h = and_from (p (queued true e)) true k h
  marked_so (q ∷ queue) k h =
      let a = and_parts (p q) (list_all p queue) h in
      one_so (λ qs. AllSo p qs) (some_with_mark (q ∷ queue)) (q ∷ put_with_mark e queue) (queued true e ∷ q ∷ queue)
      (and_from (p q) (list_all p (put_with_mark e queue)) a.0 (marked_so queue k a.1)) (and_from (p (queued true e)) (list_all p (q ∷ queue)) k h)

  put_so : (to : Place) (queue : List Queued) → ((mark : Bool) → p (queued mark e) ≡ true) → AllSo p queue → AllSo p (put to e queue)
  put_so place.Tail queue k h = pushed_so p queue (queued false e) h (k false)
  put_so place.Head queue k h = and_from (p (queued false e)) (list_all p queue) (k false) h
  put_so place.Mark queue k h = marked_so queue (k true) h

module _ (limits : Limits) where
  waiting_fits : (e : Event) → event_fits limits e ≡ true → event_fits limits (waiting e) ≡ true
  waiting_fits e h = one_so (λ x. event_fits limits x ≡ true) (is_of_key e.kind) (record e { window = 0 }) e h h

  -- a queue that another event joins, where it holds no more than it may
  pub put_queue_fits : (p : Place) (e : Event) (queue : List Queued) → event_fits limits e ≡ true → may_hold limits (length (put p e queue)) ≡ true → queue_fits limits queue ≡ true
      → queue_fits limits (put p e queue) ≡ true
  put_queue_fits p e queue h few k =
      and_from (may_hold limits (length (put p e queue))) (list_all (λ q. event_fits limits q.event) (put p e queue)) few
      (put_so (λ q. event_fits limits q.event) e p queue (λ mark. waiting_fits e h) (and_parts (may_hold limits (length queue)) (list_all (λ q. event_fits limits q.event) queue) k).1)

  -- ---- what is delivered

  delivered_fits : (w : World) (e : Event) → event_fits limits e ≡ true → event_fits limits (delivered w e) ≡ true
  delivered_fits w e h = one_so (λ x. event_fits limits x ≡ true) (is_of_key e.kind) (record e { window = w.focus }) e h h

  remembered_fits : (e : Event) (events : List Event) → event_fits limits e ≡ true → history_fits limits events ≡ true → history_fits limits (history.with_event e events) ≡ true
  remembered_fits e events h k =
      one_so (λ es. history_fits limits es ≡ true) (is_virtual e.kind) events (history.latest (events ++ e ∷ [])) k
      (behind_so (event_fits limits) _ (events ++ e ∷ []) (pushed_so (event_fits limits) events e k h))

  module _ (grid : Extent) where
    queued_fits : (p : Place) (e : Event) (w : World) → event_fits limits e ≡ true → WorldFits limits grid w → may_hold limits (length (world.queued p e w).queue) ≡ true
        → WorldFits limits grid (world.queued p e w)
    queued_fits p e w h k =
        cond_both (is_there w.tree.windows e.window) (record w { queue = put p e w.queue }) w (λ u. may_hold limits (length u.queue) ≡ true → WorldFits limits grid u)
        (λ _ few. with_queue_fits limits grid w k (put p e w.queue) (put_queue_fits p e w.queue h few (events_opened limits w k.events).queue)) (λ _ few. k)

    -- an event that fits is put into the queue
    pub put_fits : (p : Place) (e : Event) (w : World) → event_fits limits e ≡ true → WorldFits limits grid w → IfOk (put_within limits p e w) (WorldFits limits grid)
    put_fits p e w h k =
        tested_so (WorldFits limits grid) (nat_le (length (world.queued p e w).queue) limits.items) (Ok (world.queued p e w)) (λ few. queued_fits p e w h k few)

    event_joins : (w : World) (e : Event) → event_fits limits e ≡ true → WorldFits limits grid w → WorldFits limits grid (with_event e w)
    event_joins w e h k = with_history_fits limits grid w k (history.with_event e w.history) (remembered_fits e w.history h (events_opened limits w k.events).history)

    -- an event that fits is delivered, and what is to be run for it says nothing yet
    pub begun_fits : (w : World) (e : Event) → event_fits limits e ≡ true → WorldFits limits grid w → IfOk (begun limits w e) (λ x. PlanFits limits x.0 × WorldFits limits grid x.1)
    unfolding begun
    begun_fits w e h k =
        let d = delivered w e in
        follows (λ x. PlanFits limits x.0 × WorldFits limits grid x.1) (event_scripts limits (with_event d w) d) _ (λ scripts. (tt, event_joins w d (delivered_fits w e h) k))
