use Rattle.std.proofs.Common.{◌≡◌, ◌+◌, true, List, ℕ, length}
use Rattle.tks_text.specs.Run.{Run}
use Rattle.tks_text.specs.Text.{IsText}
use Rattle.tks_text.specs.declared.fault.ScriptFault.{ScriptFault}
use Rattle.tks_text.proofs.Runs.{behind}
use Rattle.tks_parse.specs.Ready.{is_ready}
use Rattle.tks_parse.specs.Reading.{words_at}
use Rattle.tks_parse.specs.Tree.{Script, Parts, join_words}
use Rattle.tks_parse.specs.View.{ready_words}
use Rattle.tks_parse.specs.declared.syntax.Syntax.{Syntax}
use Rattle.tks_parse.proofs.ready.read_ready.Given as goal

-- the words so far, with those further on, are all
abbrev pub invariant-words : goal.invariant-words
invariant-words l = record {
  so_far : (nest : List ℕ → Run ScriptFault Script) (index : Syntax → List ℕ → Run ScriptFault Parts)
      → behind (join_words (ready_words l.texts.items)) l.taken (words_at nest index l.place l.rest) ≡ words_at nest index l.place l.text;
  len : l.taken + length l.rest ≡ length l.text;
  is_text : IsText l.rest;
  ready : is_ready l.place l.rest ≡ true;
}

abbrev pub decreases-words : goal.decreases-words
decreases-words l = length l.rest
