-- What turns work on (event(n), after(n), focus(n); the clock, and that a turn runs one thing, are this project's own):
-- the clock, the events and scripts that wait, the window that has the focus, and what an operator holds down.
use Rattle.std.specs.Prelude.{ℕ, ◌≡◌, Bool, true, ◌&&◌, is_some, if◌then◌else◌, List, [], Option, Some, None}
use Rattle.std.specs.List.{filter, list_all}
use Rattle.tks_event.specs.Held.{nothing_held}
use Rattle.tks_event.specs.declared.held.Held.{Held}
use Rattle.tks_queue.specs.declared.queued.Queued.{Queued}
use Rattle.tks_timer.specs.After.{Content, nothing}
use Rattle.tks_tree.specs.Windows.{Window, of_number}

pub record EventLoop : Type 0 where
  -- in milliseconds
  pub clock : ℕ
  -- the events that wait to be delivered, the next one first
  pub queue : List Queued
  -- the scripts that wait for a time, and for nothing else to be done
  pub timers : Content
  -- the number of the window that has the focus
  pub focus : ℕ
  pub held : Held
  -- the number of the window that took the last press, if it is there
  pub pressed : Option ℕ

-- nothing waits, nothing is held, and `.` has the focus
abbrev pub first_loop : EventLoop
first_loop = record { clock = 0; queue = []; timers = nothing; focus = 0; held = nothing_held; pressed = None }

-- ---- windows that go

-- whether the window of a number is there
abbrev pub is_there : List Window → ℕ → Bool
is_there windows number = is_some (of_number windows number)

-- the windows that were there are there
abbrev pub Stay : List Window → List Window → Type 0
Stay before after = (number : ℕ) → is_there before number ≡ true → is_there after number ≡ true

-- whether an event stays: its window is there
abbrev pub is_for : List Window → Queued → Bool
is_for windows q = is_there windows q.event.window

-- whether the window that took the last press is there, if one did
abbrev pub is_press : List Window → Option ℕ → Bool
is_press windows None = true
is_press windows (Some number) = is_there windows number

-- whether the focus, the events that wait and the last press are of windows that are there
abbrev pub all_in : List Window → EventLoop → Bool
all_in windows x = is_there windows x.focus && (list_all (is_for windows) x.queue && is_press windows x.pressed)

-- the events of windows that are there
abbrev pub left_queue : List Window → List Queued → List Queued
left_queue windows queue = filter (is_for windows) queue

-- `.` gets the focus of a window that is gone
abbrev pub left_focus : List Window → ℕ → ℕ
left_focus windows number = if is_there windows number then number else 0

-- the press that a window took that is gone is forgotten
abbrev pub left_pressed : List Window → Option ℕ → Option ℕ
left_pressed windows None = None
left_pressed windows (Some number) = if is_there windows number then Some number else None

-- what is left where only these windows are there
abbrev pub left : List Window → EventLoop → EventLoop
left windows x = record x {
  queue = left_queue windows x.queue;
  focus = left_focus windows x.focus;
  pressed = left_pressed windows x.pressed;
}
