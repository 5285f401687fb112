-- What is one word of a script, whatever stands in it (Tcl(n), rules 2 to 4, 6, 9 and 10).
use Rattle.std.specs.Prelude.{◌≡◌, ℕ, true, false, List, ◌++◌}
use Rattle.tks_parse.specs.Class.{ends_word_at}
use Rattle.tks_parse.specs.Script.{BeginsCommand, WordsThen, Spells}
use Rattle.tks_parse.specs.Tree.{Words, no_word, word, no_command, command, no_part, chars}
use Rattle.tks_parse.specs.declared.mode.Place.{Place}

-- the words of a command go on before v: with the text in front they are one word more, of this value; and a command may
-- begin with it
pub record JoinsWords (value t : List ℕ) (d : ℕ) (place : Place) (words : Words) (v w : List ℕ) : Type 0 where
  pub joins : WordsThen (word false (chars value no_part) words) d place (t ++ v) w
  pub begins : BeginsCommand place (t ++ v)

-- wherever a word may end before what follows, a text is one word of this value: nothing in it is substituted, splits it,
-- ends it or begins a comment
abbrev pub IsOneWord : List ℕ → List ℕ → Type 0
IsOneWord value t = (d : ℕ) (place : Place) (words : Words) (v w : List ℕ) → ends_word_at place v ≡ true → WordsThen words d place v w → JoinsWords value t d place words v w

-- by itself it is the script of one command with just this word
abbrev pub SpellsOneWord : List ℕ → List ℕ → Type 0
SpellsOneWord value t = Spells t (command (word false (chars value no_part) no_word) no_command)
