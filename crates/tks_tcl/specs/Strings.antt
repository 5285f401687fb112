-- The command `string` (string(n)).
use Rattle.std.specs.Prelude.{ℕ, if◌then◌else◌, List, [], ◌∷◌, length, codes, Result, Ok}
use Rattle.std.specs.Fmt.{decimal}
use Rattle.tks_text.specs.Text.{same_text}
use Rattle.tks_tcl.specs.Cause.{Cause, after, wrong_words}
use Rattle.tks_tcl.specs.Words.{truth_text}
use Rattle.tks_tcl.specs.Index.{index_in, range}

-- string length t
abbrev pub length_does : List ℕ → List (List ℕ) → Result (List ℕ) Cause
length_does command (text ∷ []) = Ok (decimal (length text))
length_does command words = wrong_words command

-- string index t i
abbrev pub index_does : List ℕ → List (List ℕ) → Result (List ℕ) Cause
index_does command (text ∷ i ∷ []) = after (index_in i) (λ index. Ok (range index index text))
index_does command words = wrong_words command

-- string range t a b
abbrev pub range_does : List ℕ → List (List ℕ) → Result (List ℕ) Cause
range_does command (text ∷ a ∷ b ∷ []) = after (index_in a) (λ first. after (index_in b) (λ last. Ok (range first last text)))
range_does command words = wrong_words command

-- string equal a b
abbrev pub equal_does : List ℕ → List (List ℕ) → Result (List ℕ) Cause
equal_does command (a ∷ b ∷ []) = Ok (truth_text (same_text a b))
equal_does command words = wrong_words command

-- a subcommand by its name
abbrev pub subcommand_does : List ℕ → List ℕ → List (List ℕ) → Result (List ℕ) Cause
subcommand_does command subcommand words =
    if same_text subcommand (codes "length") then length_does command words
    else (if same_text subcommand (codes "index") then index_does command words
    else (if same_text subcommand (codes "range") then range_does command words
    else (if same_text subcommand (codes "equal") then equal_does command words
    else wrong_words command)))

-- string subcommand ..
abbrev pub string_does : List ℕ → List (List ℕ) → Result (List ℕ) Cause
string_does command [] = wrong_words command
string_does command (subcommand ∷ words) = subcommand_does command subcommand words
