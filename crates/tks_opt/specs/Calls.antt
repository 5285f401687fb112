-- The subcommands that all widgets have, `configure` and `cget` (frame(n), label(n), "WIDGET COMMAND"); that
-- errors about the number of words are about the first word is this project's own rule.
use Rattle.std.specs.Prelude.{ℕ, Bool, ◌&&◌, ◌==◌, ◌%◌, nat_le, length, codes, if◌then◌else◌, List, [], ◌∷◌, None, Result, Ok, Err}
use Rattle.tks_text.specs.Text.{same_text}
use Rattle.tks_text.specs.Fault.{fault_about}
use Rattle.tks_text.specs.declared.fault.ErrorNumber.TheVariants.{WrongWords}
use Rattle.tks_text.specs.declared.fault.ScriptFault.{ScriptFault}
use Rattle.tks_opt.specs.Options.{Options, after, value_of, configured}
use Rattle.tks_opt.specs.declared.said.Said.{Said}
use Rattle.tks_opt.specs.declared.said.Said.TheVariants.{Text}

-- what a subcommand comes to, and the options that it leaves
abbrev pub Called : Type 0
Called = Result (Said × Options) ScriptFault

abbrev pub wrong_words : {X : Type 0} → List ℕ → Result X ScriptFault
wrong_words path = Err (fault_about WrongWords path)

-- one pair or more
abbrev pub are_pairs : List (List ℕ) → Bool
are_pairs words = nat_le 2 (length words) && (length words % 2 == 0)

-- `configure option value ..` answers the empty text
abbrev pub configure_does : List ℕ → List (List ℕ) → Options → Called
configure_does path words t = if are_pairs words then after (configured t words) (λ u. Ok (Text [], u)) else wrong_words path

-- `cget option` answers the value
abbrev pub cget_does : List ℕ → List (List ℕ) → Options → Called
cget_does path [] t = wrong_words path
cget_does path (name ∷ []) t = after (value_of t name) (λ value. Ok (Text value, t))
cget_does path (name ∷ other ∷ words) t = wrong_words path

-- a subcommand, with the words behind it
abbrev pub subcommand_does : List ℕ → List ℕ → List (List ℕ) → Options → Called
subcommand_does path name words t =
    if same_text name (codes "configure") then configure_does path words t
    else (if same_text name (codes "cget") then cget_does path words t else wrong_words path)

-- the error about too few words of a whole command: about the window's path, where that is there
abbrev pub too_few : List (List ℕ) → ScriptFault
too_few [] = record { number = WrongWords; subject = None }
too_few (path ∷ words) = fault_about WrongWords path

-- what a whole command does, whose words are the window's path, a subcommand and the words behind it
abbrev pub with_subcommand : {X : Type 0} → List (List ℕ) → (List ℕ → List ℕ → List (List ℕ) → Result X ScriptFault) → Result X ScriptFault
with_subcommand [] does = Err (too_few [])
with_subcommand (path ∷ []) does = Err (too_few (path ∷ []))
with_subcommand (path ∷ name ∷ words) does = does path name words

-- the words of a whole command, the window's path first
abbrev pub called : Options → List (List ℕ) → Called
called t words = with_subcommand words (λ path name rest. subcommand_does path name rest t)
