-- What is to be said of checkbuttons beside their definitions (this project's own).
use Rattle.std.specs.Prelude.{ℕ, ◌-◌, Bool, true, false, ◌≡◌, List, [], ◌∷◌, ◌++◌, Option, Some, None, length, map, replicate, codes}
use Rattle.tks_text.specs.Text.{same_text}
use Rattle.tks_opt.specs.Cells.{space, shown_byte}
use Rattle.tks_opt.specs.Options.{Options}
use Rattle.tks_button.specs.Checkbutton.{is_on, value_when, turned}

-- whether `-onvalue` and `-offvalue` differ
abbrev pub TellsOnFromOff : Options → Type 0
TellsOnFromOff t = same_text (value_when t false) (value_when t true) ≡ false

abbrev pub set_to : Options → List ℕ → Option Bool → List ℕ
set_to t value None = value
set_to t value (Some on) = value_when t on

-- the value of the variable after the words of a command
abbrev pub after_words : Options → List (List ℕ) → List ℕ → List ℕ
after_words t words value = set_to t value (turned t words (is_on t (Some value)))

-- the words of `path toggle`
abbrev pub toggling : List ℕ → List (List ℕ)
toggling path = path ∷ codes "toggle" ∷ []

-- a row that shows a line whole: each of its characters, and spaces behind them
abbrev pub whole_row : ℕ → List ℕ → List ℕ
whole_row width line = map shown_byte line ++ replicate (width - length line) space
