-- Buttons that go down and up over cells of the grid (bind(n), "Event types": what events of buttons carry; that a release
-- goes to the window that took the last press, and that all of it is fixed when the input is accepted, are this project's
-- own rules).
use Rattle.std.specs.Prelude.{pos, ◌-ℤ◌, ℕ, ◌≤◌, ◌^◌, Bool, true, false, ◌&&◌, ◌==◌, nat_le, nat_lt, if◌then◌else◌, [], Option, Some, None, decimal}
use Rattle.std.specs.List.{find}
use Rattle.tks_text.specs.declared.limits.Limits.{Limits}
use Rattle.tks_event.specs.Held.{state_of, with_button}
use Rattle.tks_event.specs.Event.{Event}
use Rattle.tks_event.specs.declared.kind.Kind.{Kind}
use Rattle.tks_event.specs.declared.kind.Kind.TheVariants as kind
use Rattle.tks_state.specs.World.{World}
use Rattle.tks_state.specs.Layout.{shown_windows, topmost}
use Rattle.tks_state.specs.declared.layout.Placed.{Placed}
use Rattle.tks_world.specs.Stepped.{Stepped, Refuses}
use Rattle.tks_world.specs.Gestures.{gesture_step}
use Rattle.tks_world.specs.declared.gestures.Gesture.{Gesture}
use Rattle.tks_world.specs.declared.buttons.Target.{Target}
use Rattle.tks_input.specs.declared.reply.Refused.TheVariants.{BadInput}

-- whether a number is a button's, and a cell one of the grid's
abbrev pub is_button_number : ℕ → Bool
is_button_number button = nat_le 1 button && nat_le button 5

abbrev pub on_grid : World → ℕ → ℕ → Bool
on_grid w x y = nat_lt x w.grid.width && nat_lt y w.grid.height

-- ---- which window takes an event

-- a window with its top left cell, which counts as that of the grid where it isn't shown
abbrev pub target_placed : ℕ → Option Placed → Target
target_placed window None = record { window = window; column = 0; row = 0 }
target_placed window (Some p) = record { window = window; column = p.area.x; row = p.area.y }

-- its number is one that there is, and its top left cell is one that some grid has
abbrev pub IsNear : Target → Type 0
IsNear t = (t.window ≤ 2 ^ 62) × (t.column ≤ 200) × (t.row ≤ 100)

-- the topmost window of a cell; `.` has those that no other has
abbrev pub seen_target : Option Placed → Target
seen_target None = target_placed 0 None
seen_target (Some p) = target_placed p.window (Some p)

-- the window that is seen in a cell
abbrev pub target_at : World → ℕ → ℕ → Target
target_at w x y = seen_target (topmost w x y)

-- the window of a number
abbrev pub target_of : World → ℕ → Target
target_of w window = target_placed window (find (λ p. p.window == window) (shown_windows w))

-- a press goes to the window in its cell, and so does a release, unless a window took the last press and is there
abbrev pub released_over : World → ℕ → ℕ → Option ℕ → Target
released_over w x y None = target_at w x y
released_over w x y (Some window) = target_of w window

abbrev pub release_target : World → ℕ → ℕ → Target
release_target w x y = released_over w x y w.pressed

-- ---- what comes of it

-- the event of a button: the cell on the grid and in the window, the clock's time, the state by what was held just before
abbrev pub button_event : Kind → ℕ → ℕ → ℕ → Target → World → Event
button_event k button x y t w = record {
  window = t.window;
  kind = k;
  detail = decimal button;
  state = state_of w.held;
  time = w.clock;
  x = pos x -ℤ pos t.column;
  y = pos y -ℤ pos t.row;
  root_x = pos x;
  root_y = pos y;
  payload = [];
}

-- the window that a press goes to takes it
abbrev pub press_gesture : ℕ → ℕ → ℕ → Target → World → Gesture
press_gesture button x y t w = record { event = button_event kind.ButtonPress button x y t w; held = with_button button true w.held; took = Some t.window }

abbrev pub release_gesture : ℕ → ℕ → ℕ → Target → World → Gesture
release_gesture button x y t w = record { event = button_event kind.ButtonRelease button x y t w; held = with_button button false w.held; took = None }

-- what is no button or no cell is bad
abbrev pub press_step : Limits → ℕ → ℕ → ℕ → World → Stepped
press_step limits button x y w =
    if is_button_number button && on_grid w x y then gesture_step limits (press_gesture button x y (target_at w x y) w) w else Refuses BadInput

abbrev pub release_step : Limits → ℕ → ℕ → ℕ → World → Stepped
release_step limits button x y w =
    if is_button_number button && on_grid w x y then gesture_step limits (release_gesture button x y (release_target w x y) w) w else Refuses BadInput
