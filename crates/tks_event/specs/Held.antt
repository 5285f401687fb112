-- The modifier keys and buttons that are held down, and the state that an event has by them (this project's own rule).
use Rattle.std.specs.Prelude.{ℕ, Bool, true, false, not, ◌||◌, ◌==◌, if◌then◌else◌, List, codes}
use Rattle.tks_text.specs.Text.{same_text}
use Rattle.tks_event.specs.Modifiers.{with_modifier}
use Rattle.tks_event.specs.declared.held.Held.{Held}
use Rattle.tks_event.specs.declared.modifiers.Modifier.{Modifier}
use Rattle.tks_event.specs.declared.modifiers.Modifier.TheVariants as modifier

abbrev pub nothing_held : Held
nothing_held = record {
  shift_left = false;
  shift_right = false;
  control_left = false;
  control_right = false;
  alt_left = false;
  alt_right = false;
  lock = false;
  button1 = false;
  button2 = false;
  button3 = false;
  button4 = false;
  button5 = false;
}

-- a modifier key is down, or up; another key changes nothing
abbrev pub with_key : List ℕ → Bool → Held → Held
with_key key down h =
    if same_text key (codes "Shift_L") then record h { shift_left = down }
    else (if same_text key (codes "Shift_R") then record h { shift_right = down }
    else (if same_text key (codes "Control_L") then record h { control_left = down }
    else (if same_text key (codes "Control_R") then record h { control_right = down }
    else (if same_text key (codes "Alt_L") then record h { alt_left = down }
    else (if same_text key (codes "Alt_R") then record h { alt_right = down }
    else h)))))

-- a press of Caps Lock turns the lock over
abbrev pub turned : List ℕ → Held → Held
turned key h = if same_text key (codes "Caps_Lock") then record h { lock = not h.lock } else h

-- behind the press of a key, and behind its release
abbrev pub pressed : List ℕ → Held → Held
pressed key h = turned key (with_key key true h)

abbrev pub released : List ℕ → Held → Held
released key h = with_key key false h

-- a button is down, or up; there are five
abbrev pub with_button : ℕ → Bool → Held → Held
with_button button down h =
    if button == 1 then record h { button1 = down }
    else (if button == 2 then record h { button2 = down }
    else (if button == 3 then record h { button3 = down }
    else (if button == 4 then record h { button4 = down }
    else (if button == 5 then record h { button5 = down }
    else h))))

-- a set with a modifier more, where it is held
abbrev pub held_too : Bool → Modifier → ℕ → ℕ
held_too is_held m set = if is_held then with_modifier m set else set

abbrev keys_of : Held → ℕ
keys_of h =
    held_too (h.alt_left || h.alt_right) modifier.Mod1
    (held_too (h.control_left || h.control_right) modifier.Control (held_too h.lock modifier.Lock (held_too (h.shift_left || h.shift_right) modifier.Shift 0)))

-- the state that an event has
abbrev pub state_of : Held → ℕ
state_of h =
    held_too h.button5 modifier.Button5
    (held_too h.button4 modifier.Button4 (held_too h.button3 modifier.Button3 (held_too h.button2 modifier.Button2 (held_too h.button1 modifier.Button1 (keys_of h)))))
