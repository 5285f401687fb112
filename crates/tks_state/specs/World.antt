-- The world: what is kept between inputs (this project's own rule). Its fields stand in the order in which a
-- world is written, and its parts are changed each by its own rules.
use Rattle.std.specs.Prelude.{ℕ, Bool, if◌then◌else◌, List, Option, Result, Ok}
use Rattle.tks_text.specs.Size.{Extent}
use Rattle.tks_text.specs.declared.fault.ScriptFault.{ScriptFault}
use Rattle.tks_opt.specs.Options as options
use Rattle.tks_opt.specs.declared.said.Said.{Said}
use Rattle.tks_tree.specs.Windows as tree
use Rattle.tks_vars.specs.Variables.{Variables, no_variables}
use Rattle.tks_app.specs.Memories.{first_memories}
use Rattle.tks_vars.specs.Table.{Map}
use Rattle.tks_event.specs.Event.{Event}
use Rattle.tks_event.specs.declared.held.Held.{Held}
use Rattle.tks_event.specs.declared.pattern.Pattern.{Pattern}
use Rattle.tks_queue.specs.EventQueue as queue
use Rattle.tks_queue.specs.declared.place.Place.{Place}
use Rattle.tks_queue.specs.declared.queued.Queued.{Queued}
use Rattle.tks_timer.specs.After as after
use Rattle.tks_bind.specs.Binding.{Content, bound}
use Rattle.tks_bind.specs.Chosen.{Scene}
use Rattle.tks_bind.specs.History as history
use Rattle.tks_bind.specs.VirtualEvents as virtuals
use Rattle.tks_bind.specs.declared.virtual_event.VirtualEvent.{VirtualEvent}
use Rattle.tks_state.specs.Events as events
use Rattle.tks_state.specs.Events.{Events, first_events, held}
use Rattle.tks_state.specs.EventLoop.{EventLoop, first_loop, is_there, left_queue, left_focus, left_pressed}
use Rattle.tks_state.specs.Windows as windows
use Rattle.tks_state.specs.Windows.{Windows, first_windows}
use Rattle.tks_state.specs.declared.widget.Widget.{Widget}
use Rattle.tks_state.specs.declared.kept.Kept.{Kept}
use Rattle.tks_state.specs.declared.rules.Rules.{Rules}
use Rattle.tks_state.specs.declared.rules.Rules.TheVariants.{One}

pub record World : Type 0 where
  -- how many inputs were accepted
  pub accepted : ℕ
  -- in milliseconds
  pub clock : ℕ
  -- the windows
  pub tree : tree.Windows
  pub kept : List Kept
  pub variables : Variables
  -- what scripts bound to events rest on
  pub bindings : Content
  pub virtuals : List VirtualEvent
  pub history : List Event
  -- the events and scripts that wait for a turn
  pub queue : List Queued
  pub timers : after.Content
  -- the number of the window that has the focus
  pub focus : ℕ
  -- what an operator holds down
  pub held : Held
  -- the number of the window that took the last press
  pub pressed : Option ℕ
  -- what the commands of an application keep
  pub memories : Map (List ℕ)
  pub faults : List (List ℕ)
  -- by which scripts are run
  pub rules : Rules
  pub grid : Extent

-- the world of these parts
abbrev pub world_with : ℕ → Windows → Variables → Events → EventLoop → Map (List ℕ) → Rules → Extent → World
world_with accepted windows variables events loop memories rules grid = record {
  accepted = accepted;
  clock = loop.clock;
  tree = windows.tree;
  kept = windows.kept;
  variables = variables;
  bindings = events.bindings;
  virtuals = events.virtuals;
  history = events.history;
  queue = loop.queue;
  timers = loop.timers;
  focus = loop.focus;
  held = loop.held;
  pressed = loop.pressed;
  memories = memories;
  faults = events.faults;
  rules = rules;
  grid = grid;
}

-- the world before any input, for an application whose commands have these names
abbrev pub first_world : Extent → List (List ℕ) → World
first_world grid names = world_with 0 first_windows no_variables first_events first_loop (first_memories names) One grid

-- ---- the windows

abbrev pub windows_of : World → Windows
windows_of w = record { tree = w.tree; kept = w.kept }

-- with other windows
abbrev pub with_windows : World → Windows → World
with_windows w x = record w { tree = x.tree; kept = x.kept }

-- a new window, which is this widget: its number, and the world with it
abbrev pub with_window : World → List ℕ → Widget → Result (ℕ × World) tree.Refusal
with_window w path v = tree.after (windows.created (windows_of w) path v) (λ made. Ok (made.0, with_windows w made.1))

-- with fewer windows: what is of those that are gone goes too
abbrev pub with_left : World → Windows → World
with_left w x = record w {
  tree = x.tree;
  kept = x.kept;
  bindings = held w.tree.windows x.tree.windows w.bindings;
  queue = left_queue x.tree.windows w.queue;
  focus = left_focus x.tree.windows w.focus;
  pressed = left_pressed x.tree.windows w.pressed;
}

-- without a window, and without all that stand in it; a number that no window has takes none away
abbrev pub without : World → ℕ → World
without w number = with_left w (windows.without (windows_of w) number)

-- a window destroyed, with all that stand in it; `.` stays (destroy(n))
abbrev pub destroyed : World → ℕ → Result World ScriptFault
destroyed w number = options.after (windows.destroyed (windows_of w) number) (λ x. Ok (with_left w x))

-- a window that is another widget
abbrev pub with_widget : World → ℕ → Widget → World
with_widget w number v = with_windows w (windows.changed (windows_of w) number v)

-- the widget of a window, called with the words of a whole command
abbrev pub called : World → ℕ → List (List ℕ) → Result (Said × World) ScriptFault
called w number words = options.after (windows.called (windows_of w) number words) (λ x. Ok (x.0, with_windows w x.1))

-- a window packed in the one that it stands in (pack(n))
abbrev pub packed : World → ℕ → List (List ℕ) → Result World ScriptFault
packed w number words = options.after (windows.packed (windows_of w) number words) (λ x. Ok (with_windows w x))

-- a window that its container holds no more (pack(n), `pack forget`)
abbrev pub unpacked : World → ℕ → World
unpacked w number = with_windows w (windows.unpacked (windows_of w) number)

-- a container that asks to be as large as its contents need, or doesn't (pack(n), `pack propagate`)
abbrev pub with_propagation : World → ℕ → Bool → World
with_propagation w number b = with_windows w (windows.with_propagation (windows_of w) number b)

-- a window with other tags, or with those that it has where none were set (bindtags(n))
abbrev pub tagged : World → ℕ → Option (List (List ℕ)) → World
tagged w number tags = with_windows w (windows.tagged (windows_of w) number tags)

-- ---- events

abbrev pub events_of : World → Events
events_of w = record { bindings = w.bindings; virtuals = w.virtuals; history = w.history; faults = w.faults }

-- a script bound to events (bind(n))
abbrev pub bound_to : List ℕ → List Pattern → List ℕ → World → World
bound_to tag sequence script w = record w { bindings = bound tag sequence script w.bindings }

-- a sequence by which a virtual event is met as well (event(n), `event add`), and fewer of them (`event delete`)
abbrev pub with_virtual : List ℕ → List Pattern → World → World
with_virtual name sequence w = record w { virtuals = virtuals.added name sequence w.virtuals }

abbrev pub without_virtual : List ℕ → World → World
without_virtual name w = record w { virtuals = virtuals.deleted name w.virtuals }

abbrev pub without_virtual_sequence : List ℕ → List Pattern → World → World
without_virtual_sequence name sequence w = record w { virtuals = virtuals.deleted_sequence name sequence w.virtuals }

-- an event that was delivered
abbrev pub with_event : Event → World → World
with_event e w = record w { history = history.with_event e w.history }

-- the error's text of a script that no script was there to see
abbrev pub with_fault : List ℕ → World → World
with_fault text w = record w { faults = events.with_fault text w.faults }

-- what is looked at where a binding of a tag is chosen
abbrev pub scene : World → List ℕ → Event → Scene
scene w tag e = record { bindings = w.bindings.bindings; tag = tag; event = e; history = w.history; virtuals = w.virtuals }

-- scripts are run by other rules
abbrev pub with_rules : Rules → World → World
with_rules rules w = record w { rules = rules }

-- ---- turns

abbrev pub loop_of : World → EventLoop
loop_of w = record { clock = w.clock; queue = w.queue; timers = w.timers; focus = w.focus; held = w.held; pressed = w.pressed }

-- another time
abbrev pub with_clock : ℕ → World → World
with_clock time w = record w { clock = time }

-- an event that waits; one of a window that isn't there isn't kept
abbrev pub queued : Place → Event → World → World
queued p e w = if is_there w.tree.windows e.window then record w { queue = queue.put p e w.queue } else w

-- without the event that is delivered next
abbrev pub without_event : World → World
without_event w = record w { queue = queue.without_first w.queue }

-- a script that waits for a time, and one that waits for nothing else to be done (after(n))
abbrev pub with_timer : ℕ → List ℕ → World → World
with_timer due script w = record w { timers = after.with_timer due script w.timers }

abbrev pub with_idle : List ℕ → World → World
with_idle script w = record w { timers = after.with_idle script w.timers }

-- without the script of an id, and without the one with the least id of those that are equal to this one
abbrev pub without_id : ℕ → World → World
without_id id w = record w { timers = after.without id w.timers }

abbrev pub without_script : List ℕ → World → World
without_script script w = record w { timers = after.without_found (after.with_script script w.timers) w.timers }

-- a window that has the focus (focus(n)), where it is there
abbrev pub focused : ℕ → World → World
focused number w = if is_there w.tree.windows number then record w { focus = number } else w

-- what is held down
abbrev pub holding : Held → World → World
holding h w = record w { held = h }

-- the window that took the last press, where it is there
abbrev pub pressed_in : Option ℕ → World → World
pressed_in number w = record w { pressed = left_pressed w.tree.windows number }
