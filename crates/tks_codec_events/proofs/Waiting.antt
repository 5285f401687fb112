-- What holds of the spellings of histories, queues and timers.
use Rattle.std.proofs.Common.{◌≡◌, ℕ, List, [], ◌∷◌, Option, Some, None, Ok, refl, ap, arith}
use Rattle.std.specs.Int.{w64}
use Rattle.tks_event.specs.Legality.{AreEvents}
use Rattle.tks_event.specs.Event.{Event}
use Rattle.tks_queue.specs.Legal as queues
use Rattle.tks_queue.specs.Legal.{may_wait}
use Rattle.tks_queue.specs.declared.queued.Queued.{Queued}
use Rattle.tks_timer.specs.declared.entry.Timer.{Timer}
use Rattle.tks_timer.specs.declared.entry.Idle.{Idle}
use Rattle.tks_timer.specs.After.{Content}
use Rattle.tks_spelling.specs.Spelling.{Lawful, IsBytes, AreLegal, list}
use Rattle.tks_spelling.proofs.EachKind.{wide64, number_lawful, test_lawful, field_lawful, through_lawful, flag_lawful, list_lawful, text_lawful}
use Rattle.tks_codec_events.specs.Event.{event}
use Rattle.tks_codec_events.specs.History.{is_history, history}
use Rattle.tks_codec_events.specs.Queue.{event_and_mark, queued, queue}
use Rattle.tks_timer.specs.WellFormed.{are_waiting}
use Rattle.tks_codec_events.specs.Timers.{timer, idle, lists, waiting}
use Rattle.tks_codec_events.proofs.Eventful.{event_lawful}

pub history_lawful : Lawful history
history_lawful = test_lawful is_history (list event) (λ v h. omega arith) (list_lawful (λ before. event) (λ before. event_lawful))

-- events that are read are such that there are
pub read_events : (bytes : List ℕ) (es : List Event) (rest : List ℕ) → IsBytes bytes → (list event).read bytes ≡ Ok (es, rest) → AreEvents es
read_events bytes es rest fits e = legal None es ((list_lawful (λ before. event) (λ before. event_lawful)).nothing_else bytes es rest fits e).legal.1
  where
    legal : (before : Option Event) (es : List Event) → AreLegal (λ before. event) before es → AreEvents es
    legal before [] h = tt
    legal before (e ∷ es) h = (h.0.1, legal (Some e) es h.1)

event_and_mark_lawful : Lawful event_and_mark
event_and_mark_lawful = field_lawful (λ q. q.event) _ _ (λ e q k h. ap (λ (q : Queued). q.event) h.1) event_lawful (λ e. through_lawful (λ q. q.with_mark) _ _ (λ with_mark k. refl) flag_lawful)

queued_lawful : Lawful queued
queued_lawful = test_lawful (λ q. may_wait q.event) event_and_mark (λ v h. omega arith) event_and_mark_lawful

pub queue_lawful : Lawful queue
queue_lawful = list_lawful (λ before. queued) (λ before. queued_lawful)

-- so are those that are read as a queue
pub read_queue : (bytes : List ℕ) (qs : List Queued) (rest : List ℕ) → IsBytes bytes → queue.read bytes ≡ Ok (qs, rest) → queues.AreLegal qs
read_queue bytes qs rest fits e = legal None qs (queue_lawful.nothing_else bytes qs rest fits e).legal.1
  where
    legal : (before : Option Queued) (qs : List Queued) → AreLegal (λ before. queued) before qs → queues.AreLegal qs
    legal before [] h = tt
    legal before (q ∷ qs) h = ((h.0.0.0.1, h.0.1), legal (Some q) qs h.1)

timer_lawful : Lawful timer
timer_lawful =
    field_lawful (λ t. t.id) _ _ (λ id t k h. ap (λ (t : Timer). t.id) h.1.1) (number_lawful w64 wide64) (λ id.
    field_lawful (λ t. t.due) _ _ (λ due t k h. ap (λ (t : Timer). t.due) h.1) (number_lawful w64 wide64) (λ due.
    through_lawful (λ t. t.script) _ _ (λ script k. refl) text_lawful))

idle_lawful : Lawful idle
idle_lawful = field_lawful (λ i. i.id) _ _ (λ id i k h. ap (λ (i : Idle). i.id) h.1) (number_lawful w64 wide64) (λ id. through_lawful (λ i. i.script) _ _ (λ script k. refl) text_lawful)

lists_lawful : (next : ℕ) → Lawful (lists next)
lists_lawful next =
    field_lawful (λ c. c.timers) _ _ (λ timers c k h. ap (λ (c : Content). c.timers) h.1) (list_lawful (λ before. timer) (λ before. timer_lawful)) (λ timers.
    through_lawful (λ c. c.idles) _ _ (λ idles k. refl) (list_lawful (λ before. idle) (λ before. idle_lawful)))

pub waiting_lawful : (next : ℕ) → Lawful (waiting next)
waiting_lawful next = test_lawful are_waiting (lists next) (λ v h. omega arith) (lists_lawful next)
