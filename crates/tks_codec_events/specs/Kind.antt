-- Kinds of events as bytes (this project's own format): their numbers from 1 on.
use Rattle.std.specs.Prelude.{ℕ, Bool, Option, Some, None, is_some}
use Rattle.tks_event.specs.Numbers.{kind_number, kind_numbered}
use Rattle.tks_event.specs.declared.kind.Kind.{Kind}
use Rattle.tks_event.specs.declared.kind.Kind.TheVariants.{KeyPress}
use Rattle.tks_spelling.specs.Spelling.{Spelling, byte, such_that, through}

-- the numbers of kinds
abbrev pub is_kind : ℕ → Bool
is_kind number = is_some (kind_numbered number)

abbrev pub kind_or_first : Option Kind → Kind
kind_or_first None = KeyPress
kind_or_first (Some kind) = kind

-- the kind of a number
abbrev pub kind_at : ℕ → Kind
kind_at number = kind_or_first (kind_numbered number)

-- a kind
abbrev pub kind : Spelling Kind
kind = through kind_number kind_at (such_that is_kind byte)
