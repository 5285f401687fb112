-- What holds of the options of a window, in the words of scripts (options(n)).
use Rattle.std.specs.Prelude.{◌≡◌, ℕ, Bool, false, if◌then◌else◌, List, [], ◌∷◌, Option, Some, None, Result, Ok}
use Rattle.tks_text.specs.declared.fault.ScriptFault.{ScriptFault}
use Rattle.tks_opt.specs.Options.{Options, same_name, value_of, configured}
use Rattle.tks_opt.specs.Table.{option_named}
use Rattle.tks_opt.specs.declared.name.OptionName.{OptionName}

-- pairs of a name and a value, as words
abbrev pub words_of : List (List ℕ × List ℕ) → List (List ℕ)
words_of [] = []
words_of (p ∷ ps) = p.0 ∷ p.1 ∷ words_of ps

-- whether two texts name one option
abbrev pub name_one : Option OptionName → Option OptionName → Bool
name_one None o = false
name_one (Some o) None = false
name_one (Some o) (Some other) = same_name o other

-- a value, or else another
abbrev pub or_else : Option (List ℕ) → Option (List ℕ) → Option (List ℕ)
or_else (Some value) other = Some value
or_else None other = other

-- the last value that pairs give an option, if they give it one
abbrev pub last_value : Option OptionName → List (List ℕ × List ℕ) → Option (List ℕ)
last_value o [] = None
last_value o (p ∷ ps) = or_else (last_value o ps) (if name_one o (option_named p.0) then Some p.1 else None)

-- a value that was given, or else what is told without it
abbrev pub given_or : Option (List ℕ) → Result (List ℕ) ScriptFault → Result (List ℕ) ScriptFault
given_or (Some value) told = Ok value
given_or None told = told

-- each option has the last value that the pairs give it, or the one that it had
abbrev pub LastWins : Options → List (List ℕ × List ℕ) → Options → Type 0
LastWins t pairs u = (name : List ℕ) → configured t (words_of pairs) ≡ Ok u → value_of u name ≡ given_or (last_value (option_named name) pairs) (value_of t name)
