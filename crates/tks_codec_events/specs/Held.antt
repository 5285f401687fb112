-- What is held down as bytes (this project's own format).
use Rattle.std.specs.Prelude.{ℕ, ◌+◌, ◌*◌, ◌/◌, ◌%◌, ◌==◌, Bool, nat_lt, List}
use Rattle.tks_event.specs.declared.held.Held.{Held}
use Rattle.tks_spelling.specs.Spelling.{Spelling, Read, byte, such_that, field, through, flag_of}

-- the modifier keys: a bit each, from that of the left Shift on
abbrev pub keys_number : Held → ℕ
keys_number h =
    flag_of h.shift_left + (2 * flag_of h.shift_right + (4 * flag_of h.control_left + (8 * flag_of h.control_right + (16 * flag_of h.alt_left + (32 * flag_of h.alt_right + 64 * flag_of h.lock)))))

-- the buttons: a bit each, from that of button 1 on
abbrev pub buttons_number : Held → ℕ
buttons_number h = flag_of h.button1 + (2 * flag_of h.button2 + (4 * flag_of h.button3 + (8 * flag_of h.button4 + 16 * flag_of h.button5)))

abbrev pub is_odd : ℕ → Bool
is_odd n = n % 2 == 1

-- what these bits say
abbrev pub held_by : ℕ → ℕ → Held
held_by keys buttons = record {
  shift_left = is_odd keys;
  shift_right = is_odd (keys / 2);
  control_left = is_odd (keys / 4);
  control_right = is_odd (keys / 8);
  alt_left = is_odd (keys / 16);
  alt_right = is_odd (keys / 32);
  lock = is_odd (keys / 64);
  button1 = is_odd buttons;
  button2 = is_odd (buttons / 2);
  button3 = is_odd (buttons / 4);
  button4 = is_odd (buttons / 8);
  button5 = is_odd (buttons / 16);
}

-- there are seven bits of keys
abbrev pub are_keys : ℕ → Bool
are_keys n = nat_lt n 128

-- and five of buttons
abbrev pub are_buttons : ℕ → Bool
are_buttons n = nat_lt n 32

-- the modifier keys, the buttons
abbrev pub held : Spelling Held
held = field keys_number (such_that are_keys byte) (λ keys. through buttons_number (λ buttons. held_by keys buttons) (such_that are_buttons byte))

-- what is held at the front of bytes, and what stands behind it
unfoldable pub held_at : List ℕ → Read Held
held_at bytes = held.read bytes
