-- What holds of all worlds (this project's own rules; that what is packed stands in its container, pack(n)).
use Rattle.std.specs.Prelude.{ℕ, ◌≡◌, ◌==◌, ◌≤◌, ◌<◌, ◌^◌, true, List, [], length, map, Some}
use Rattle.std.specs.List.{AllByRecursion, IsDistinct}
use Rattle.tks_text.specs.declared.class.Class.{Class}
use Rattle.tks_text.specs.declared.class.Class.TheVariants as class
use Rattle.tks_tree.specs.Windows as tree
use Rattle.tks_tree.specs.WellFormed as trees
use Rattle.tks_bind.specs.History.{are_physical, max_history}
use Rattle.tks_bind.specs.WellFormed.{AreBindings, AreVirtuals}
use Rattle.tks_event.specs.Legality.{AreEvents}
use Rattle.tks_queue.specs.Legal.{AreLegal}
use Rattle.tks_timer.specs.WellFormed.{AreWaiting}
use Rattle.tks_state.specs.Events.{Events, max_faults}
use Rattle.tks_opt.specs.Options.{Legal}
use Rattle.tks_button.specs.Frame.{is_frame}
use Rattle.tks_button.specs.Caption.{has_caption}
use Rattle.tks_state.specs.Widget.{class_of, options_of}
use Rattle.tks_state.specs.Windows.{Windows}
use Rattle.tks_state.specs.EventLoop.{EventLoop, all_in}
use Rattle.tks_state.specs.World.{World, windows_of, events_of, loop_of}
use Rattle.tks_state.specs.declared.kept.Kept.{Kept}
use Rattle.tks_state.specs.declared.widget.Widget.{Widget}
use Rattle.tks_state.specs.declared.widget.Widget.TheVariants as widget

-- the class of its options is that of what it is
abbrev pub IsOfItsClass : Widget → Type 0
IsOfItsClass (widget.Frame t) = is_frame t.class ≡ true
IsOfItsClass (widget.Caption t) = has_caption t.class ≡ true
IsOfItsClass (widget.Entry e) = e.options.class ≡ class.Entry
IsOfItsClass (widget.Listbox l) = l.options.class ≡ class.Listbox
IsOfItsClass (widget.Text t) = t.options.class ≡ class.Text

-- what holds of all widgets
pub record WellFormedWidget (w : Widget) : Type 0 where
  pub class : IsOfItsClass w
  pub options : Legal (options_of w)

-- whose something is: the number of the window, and its class
abbrev pub mark_of : Kept → ℕ × Class
mark_of k = (k.window, class_of k.widget)

abbrev pub window_mark : tree.Window → ℕ × Class
window_mark w = (w.number, w.class)

-- there is one for each window, in the same order, and its widget is of the window's class
abbrev pub InStep : List tree.Window → List Kept → Type 0
InStep windows kept = map mark_of kept ≡ map window_mark windows

-- the windows that are packed in one
abbrev pub packed_windows : Kept → List ℕ
packed_windows k = map (λ c. c.window) k.packing.contents

-- they differ, and each is a window that stands right in it
pub record PacksChildren (t : tree.Windows) (k : Kept) : Type 0 where
  pub distinct : IsDistinct ◌==◌ (packed_windows k)
  pub children : AllByRecursion (λ n. tree.parent t n ≡ Some k.window) (packed_windows k)

abbrev pub AllPackChildren : tree.Windows → List Kept → Type 0
AllPackChildren t kept = AllByRecursion (PacksChildren t) kept

-- what holds of all windows
pub record WellFormedWindows (x : Windows) : Type 0 where
  -- numbers rise and are below the next one, paths differ, and a parent stands before those in it
  pub windows : trees.WellFormed x.tree
  pub in_step : InStep x.tree.windows x.kept
  pub packs : AllPackChildren x.tree x.kept

-- what holds of what scripts bound to events rest on
pub record WellFormedEvents (x : Events) : Type 0 where
  -- numbers are below the next one, and bindings differ in them and in their tags or sequences
  pub bindings : AreBindings x.bindings
  -- names differ, and each has sequences of physical events, which differ
  pub virtuals : AreVirtuals x.virtuals
  -- each is a physical event that there is
  pub events : AreEvents x.history
  pub physical : are_physical x.history ≡ true
  pub history : length x.history ≤ max_history
  pub faults : length x.faults ≤ max_faults

-- what holds of what turns work on
pub record WellFormedLoop (x : EventLoop) : Type 0 where
  pub clock : x.clock < 2 ^ 62
  -- each is an event that there is, and one of a key waits under `.`
  pub queue : AreLegal x.queue
  -- ids rise and differ, and each timer is due at a time that there is
  pub timers : AreWaiting x.timers

pub record WellFormed (w : World) : Type 0 where
  pub counted : w.accepted ≤ 2 ^ 62
  -- no frame of variables stands
  pub rests : w.variables.locals ≡ []
  pub windows : WellFormedWindows (windows_of w)
  pub events : WellFormedEvents (events_of w)
  pub event_loop : WellFormedLoop (loop_of w)
  -- the focus, the events that wait and the last press are of windows that are there
  pub there : all_in w.tree.windows (loop_of w) ≡ true
