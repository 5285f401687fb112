-- The options of a window of a class as bytes (this project's own format): their values, in the order of the table.
use Rattle.std.specs.Prelude.{ℕ, Bool, List}
use Rattle.std.specs.List.{zip}
use Rattle.tks_text.specs.declared.class.Class.{Class}
use Rattle.tks_opt.specs.Options.{Options, are_values, values_in_order}
use Rattle.tks_opt.specs.Table.{options_of}
use Rattle.tks_spelling.specs.Spelling.{Read, Spelling, texts, such_that, through}

-- values that options of the class may have: one for each, in its place
abbrev pub are_of : Class → List (List ℕ) → Bool
are_of class values = are_values class (options_of class) values

-- the options of the class that have these values
abbrev pub with_values : Class → List (List ℕ) → Options
with_values class values = record { class = class; values = zip (options_of class) values }

-- options of a class
abbrev pub options : Class → Spelling Options
options class = through values_in_order (with_values class) (such_that (are_of class) texts)

-- the options at the front of bytes, and what stands behind them
unfoldable pub options_at : Class → List ℕ → Read Options
options_at class bytes = (options class).read bytes
