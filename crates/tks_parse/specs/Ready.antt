-- Commands whose words all stand for themselves.
use Rattle.std.specs.Prelude.{◌≡◌, ℕ, Bool, true, false, ◌||◌, ◌&&◌, ◌==◌, not, if◌then◌else◌, List, [], ◌∷◌, Option, Some, None}
use Rattle.std.specs.Borrow.{Bor}
use Rattle.tks_text.specs.Run.{Step, stop, takes, Run}
use Rattle.tks_text.specs.declared.fault.ScriptFault.{ScriptFault}
use Rattle.tks_parse.specs.Tree.{Script, Words, no_word, Parts, join_words}
use Rattle.tks_parse.specs.View.{ready_words}
use Rattle.tks_parse.specs.Class.{ends_command}
use Rattle.tks_parse.specs.Reading.{word_step, words_at}
use Rattle.tks_parse.specs.declared.mode.Place.{Place}
use Rattle.tks_parse.specs.declared.syntax.Syntax.{Syntax}

-- whether a character begins nothing: no substitution, no fold, no quoted or braced word
abbrev pub is_simple : ℕ → Bool
is_simple c = not (c == 36) && (not (c == 91) && (not (c == 92) && (not (c == 34) && not (c == 123))))

-- whether nothing begins anything before the command ends
abbrev pub is_ready : Place → List ℕ → Bool
is_ready place [] = true
is_ready place (c ∷ u) = if ends_command place c then true else (is_simple c && is_ready place u)

-- the words that are there
abbrev pub ready_option : Option (Bor (List ℕ)) → Words
ready_option None = no_word
ready_option (Some text) = ready_words (text.now ∷ [])

-- the step that was found, however scripts in brackets and indexes are read
abbrev pub GivesReady : Place → Option (Option (Bor (List ℕ)) × ℕ) → List ℕ → Type 0
GivesReady place found t = (nest : List ℕ → Run ScriptFault Script) (index : Syntax → List ℕ → Run ScriptFault Parts) → word_step nest index place t ≡ ready_step found
  where
    ready_step : Option (Option (Bor (List ℕ)) × ℕ) → Step ScriptFault Words
    ready_step None = stop
    ready_step (Some x) = takes (join_words (ready_option x.0)) x.1

-- the words that were read, however scripts in brackets and indexes are
abbrev pub ReadsWords : Place → List ℕ → Run ScriptFault Words → Type 0
ReadsWords place t r = (nest : List ℕ → Run ScriptFault Script) (index : Syntax → List ℕ → Run ScriptFault Parts) → words_at nest index place t ≡ r
