-- Keys that go down and up (bind(n), "Event types": what events of keys carry; which keys there are, and that the window
-- of such an event is the one that has the focus when it is delivered, are this project's own rules).
use Rattle.std.specs.Prelude.{pos, ℕ, if◌then◌else◌, List, [], None}
use Rattle.tks_text.specs.declared.limits.Limits.{Limits}
use Rattle.tks_event.specs.Held.{state_of, pressed, released}
use Rattle.tks_event.specs.Keysyms.{is_keysym}
use Rattle.tks_event.specs.Event.{Event}
use Rattle.tks_event.specs.declared.held.Held.{Held}
use Rattle.tks_event.specs.declared.kind.Kind.{Kind}
use Rattle.tks_event.specs.declared.kind.Kind.TheVariants as kind
use Rattle.tks_state.specs.World.{World}
use Rattle.tks_world.specs.Stepped.{Stepped, Refuses}
use Rattle.tks_world.specs.Gestures.{gesture_step}
use Rattle.tks_world.specs.declared.gestures.Gesture.{Gesture}
use Rattle.tks_input.specs.declared.reply.Refused.TheVariants.{BadInput}

-- the event of a key: it waits under `.`, at the clock's time, with the state by what was held just before
abbrev pub key_event : Kind → List ℕ → World → Event
key_event k key w = record {
  window = 0;
  kind = k;
  detail = key;
  state = state_of w.held;
  time = w.clock;
  x = pos 0;
  y = pos 0;
  root_x = pos 0;
  root_y = pos 0;
  payload = [];
}

-- a key does this, and then so much is held
abbrev pub key_gesture : Kind → List ℕ → Held → World → Gesture
key_gesture k key now_held w = record { event = key_event k key w; held = now_held; took = None }

-- what is no key is bad
abbrev pub key_step : Limits → Kind → List ℕ → Held → World → Stepped
key_step limits k key now_held w = if is_keysym key then gesture_step limits (key_gesture k key now_held w) w else Refuses BadInput

abbrev pub key_press_step : Limits → List ℕ → World → Stepped
key_press_step limits key w = key_step limits kind.KeyPress key (pressed key w.held) w

abbrev pub key_release_step : Limits → List ℕ → World → Stepped
key_release_step limits key w = key_step limits kind.KeyRelease key (released key w.held) w
