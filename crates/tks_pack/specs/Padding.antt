-- Paddings (pack(n), `-padx`): that they are 0 to 1000 cells is this project's own rule.
use Rattle.std.specs.Prelude.{ℕ}

-- the greatest padding
abbrev pub max_padding : ℕ
max_padding = 1000
