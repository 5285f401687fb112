-- What a key or a button that goes down or up does at once (this project's own rule): its event waits behind all others,
-- what is held down changes, and a press is remembered.
use Rattle.std.specs.Prelude.{ℕ, Bool, ◌&&◌, nat_lt, if◌then◌else◌, length, Option, Some, None}
use Rattle.tks_text.specs.declared.limits.Limits.{Limits}
use Rattle.tks_text.specs.Limits.{fits}
use Rattle.tks_event.specs.Event.{Event}
use Rattle.tks_queue.specs.declared.place.Place.TheVariants as place
use Rattle.tks_state.specs.World.{World, queued, holding, pressed_in}
use Rattle.tks_world.specs.Stepped.{Stepped, Refuses, kept}
use Rattle.tks_world.specs.declared.gestures.Gesture.{Gesture}
use Rattle.tks_input.specs.declared.reply.Refused.TheVariants.{TooLarge}

-- whether an event may join those that wait: neither its text nor their number passes a limit
abbrev pub has_room : Limits → Event → World → Bool
has_room limits e w = fits limits e.detail && nat_lt (length w.queue) limits.items

-- the window that took a press is remembered
abbrev pub remembering : Option ℕ → World → World
remembering None w = w
remembering (Some window) w = pressed_in (Some window) w

-- the world behind it
abbrev pub left_by : Gesture → World → World
left_by g w = remembering g.took (holding g.held (queued place.Tail g.event w))

abbrev pub gesture_step : Limits → Gesture → World → Stepped
gesture_step limits g w = if has_room limits g.event w then kept (left_by g w) else Refuses TooLarge
