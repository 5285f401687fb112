-- Classes as bytes (this project's own format): their numbers.
use Rattle.std.specs.Prelude.{ℕ, Bool, is_some, Option, Some, None}
use Rattle.tks_text.specs.declared.class.Class.{Class}
use Rattle.tks_text.specs.declared.class.Class.TheVariants.{Root}
use Rattle.tks_opt.specs.Numbers.{class_number, class_numbered}
use Rattle.tks_spelling.specs.Spelling.{Spelling, byte, such_that, through}

-- the numbers of classes
abbrev pub is_class : ℕ → Bool
is_class number = is_some (class_numbered number)

abbrev pub or_root : Option Class → Class
or_root None = Root
or_root (Some c) = c

-- a class
abbrev pub class : Spelling Class
class = through class_number (λ number. or_root (class_numbered number)) (such_that is_class byte)
