-- The loops over braces, parts, words and commands.
use Rattle.std.proofs.Common.{◌≡◌, ℕ, ◌+◌, ◌<◌, List, [], ◌++◌, length, drop, Some, None, refl, sym, ap, ◌∙◌, append-nil, append_assoc}
use Rattle.tks_text.specs.Run.{stop, fails, takes, Run}
use Rattle.tks_text.specs.declared.fault.ScriptFault.{ScriptFault}
use Rattle.tks_text.specs.declared.fault.Failure.{Failure}
use Rattle.tks_text.specs.declared.fault.Failure.TheVariants as failure
use Rattle.tks_text.proofs.Runs.{behind, run_takes, run_stops, loop_goes, loop_stops, loop_fails}
use Rattle.tks_parse.specs.Tree.{Script, no_command, Words, no_word, Parts, no_part, join_scripts, join_words, join_parts}
use Rattle.tks_parse.specs.Gives.{FailsStep, FailsRun}
use Rattle.tks_parse.specs.Braces.{verbatim_step, verbatim}
use Rattle.tks_parse.specs.Reading.{part_step, parts_at, word_step, words_at, command_step, commands_at}
use Rattle.tks_parse.specs.declared.mode.Mode.{Mode}
use Rattle.tks_parse.specs.declared.mode.Place.{Place}
use Rattle.tks_parse.specs.declared.syntax.Syntax.{Syntax}
use Rattle.tks_parse.proofs.Joins.{join_parts_assoc, join_words_assoc, join_scripts_assoc, join_parts_none, join_words_none, join_scripts_none}

-- ---- what stands in braces

pub verbatim_goes : (front item : List ℕ) (k : ℕ) (t all : List ℕ) → front ++ verbatim t ≡ all → verbatim_step t ≡ takes (λ x. item ++ x) k → k < length t → (front ++ item) ++ verbatim (drop (1 + k) t) ≡ all
unfolding verbatim verbatim_step
verbatim_goes front item k t all h e lt =
    append_assoc front item (verbatim (drop (1 + k) t))
    ∙ ap (λ (r : Run ScriptFault (List ℕ)). front ++ r.items) (sym (run_takes [] verbatim_step t (λ x. item ++ x) k refl e lt))
    ∙ h

pub verbatim_stops : (front t all : List ℕ) → front ++ verbatim t ≡ all → verbatim_step t ≡ stop → front ≡ all
unfolding verbatim verbatim_step
verbatim_stops front t all h e = sym (append-nil front) ∙ ap (λ (r : Run ScriptFault (List ℕ)). front ++ r.items) (sym (run_stops [] verbatim_step t e)) ∙ h

module _ (nest : List ℕ → Run ScriptFault Script) (index : Syntax → List ℕ → Run ScriptFault Parts) where
  -- ---- parts

  pub parts_go : (m : Mode) (front item : Parts) (n k : ℕ) (t : List ℕ) (all : Run ScriptFault Parts) → behind (join_parts front) n (parts_at nest index m t) ≡ all → part_step nest index m t ≡ takes (join_parts item) k → k < length t → behind (join_parts (join_parts front item)) (n + (1 + k)) (parts_at nest index m (drop (1 + k) t)) ≡ all
  unfolding parts_at part_step
  parts_go m front item n k t all h e lt = loop_goes no_part (part_step nest index m) join_parts join_parts_assoc join_parts_none front item n k t all refl h e lt

  pub parts_stop : (m : Mode) (front : Parts) (n : ℕ) (t : List ℕ) (all : Run ScriptFault Parts) → behind (join_parts front) n (parts_at nest index m t) ≡ all → part_step nest index m t ≡ stop → all ≡ record { items = front; fault = None; taken = n }
  unfolding parts_at part_step
  parts_stop m front n t all h e = loop_stops no_part (part_step nest index m) join_parts join_parts_assoc join_parts_none front n t all h e

  parts_fail : (m : Mode) (front : Parts) (n : ℕ) (f : ScriptFault) (t : List ℕ) (all : Run ScriptFault Parts) → behind (join_parts front) n (parts_at nest index m t) ≡ all → part_step nest index m t ≡ fails f → all ≡ record { items = front; fault = Some f; taken = n }
  unfolding parts_at part_step
  parts_fail m front n f t all h e = loop_fails no_part (part_step nest index m) join_parts join_parts_assoc join_parts_none front n f t all refl h e

  -- a fault of a step is a fault of the reading
  pub parts_err : (m : Mode) (front : Parts) (n : ℕ) (t : List ℕ) (all : Run ScriptFault Parts) (e : Failure) → behind (join_parts front) n (parts_at nest index m t) ≡ all → FailsStep e (part_step nest index m t) → FailsRun e all
  parts_err m front n t all failure.NoMemory h e = tt
  parts_err m front n t all (failure.Script f) h e = ap (λ (r : Run ScriptFault Parts). r.fault) (parts_fail m front n f t all h e)

  -- ---- words

  pub words_go : (place : Place) (front item : Words) (n k : ℕ) (t : List ℕ) (all : Run ScriptFault Words) → behind (join_words front) n (words_at nest index place t) ≡ all → word_step nest index place t ≡ takes (join_words item) k → k < length t → behind (join_words (join_words front item)) (n + (1 + k)) (words_at nest index place (drop (1 + k) t)) ≡ all
  unfolding words_at word_step
  words_go place front item n k t all h e lt = loop_goes no_word (word_step nest index place) join_words join_words_assoc join_words_none front item n k t all refl h e lt

  pub words_stop : (place : Place) (front : Words) (n : ℕ) (t : List ℕ) (all : Run ScriptFault Words) → behind (join_words front) n (words_at nest index place t) ≡ all → word_step nest index place t ≡ stop → all ≡ record { items = front; fault = None; taken = n }
  unfolding words_at word_step
  words_stop place front n t all h e = loop_stops no_word (word_step nest index place) join_words join_words_assoc join_words_none front n t all h e

  words_fail : (place : Place) (front : Words) (n : ℕ) (f : ScriptFault) (t : List ℕ) (all : Run ScriptFault Words) → behind (join_words front) n (words_at nest index place t) ≡ all → word_step nest index place t ≡ fails f → all ≡ record { items = front; fault = Some f; taken = n }
  unfolding words_at word_step
  words_fail place front n f t all h e = loop_fails no_word (word_step nest index place) join_words join_words_assoc join_words_none front n f t all refl h e

  pub words_err : (place : Place) (front : Words) (n : ℕ) (t : List ℕ) (all : Run ScriptFault Words) (e : Failure) → behind (join_words front) n (words_at nest index place t) ≡ all → FailsStep e (word_step nest index place t) → FailsRun e all
  words_err place front n t all failure.NoMemory h e = tt
  words_err place front n t all (failure.Script f) h e = ap (λ (r : Run ScriptFault Words). r.fault) (words_fail place front n f t all h e)

  -- ---- commands

  pub commands_go : (place : Place) (front item : Script) (n k : ℕ) (t : List ℕ) (all : Run ScriptFault Script) → behind (join_scripts front) n (commands_at nest index place t) ≡ all → command_step nest index place t ≡ takes (join_scripts item) k → k < length t → behind (join_scripts (join_scripts front item)) (n + (1 + k)) (commands_at nest index place (drop (1 + k) t)) ≡ all
  unfolding commands_at command_step
  commands_go place front item n k t all h e lt = loop_goes no_command (command_step nest index place) join_scripts join_scripts_assoc join_scripts_none front item n k t all refl h e lt

  pub commands_stop : (place : Place) (front : Script) (n : ℕ) (t : List ℕ) (all : Run ScriptFault Script) → behind (join_scripts front) n (commands_at nest index place t) ≡ all → command_step nest index place t ≡ stop → all ≡ record { items = front; fault = None; taken = n }
  unfolding commands_at command_step
  commands_stop place front n t all h e = loop_stops no_command (command_step nest index place) join_scripts join_scripts_assoc join_scripts_none front n t all h e

  pub commands_fail : (place : Place) (front : Script) (n : ℕ) (f : ScriptFault) (t : List ℕ) (all : Run ScriptFault Script) → behind (join_scripts front) n (commands_at nest index place t) ≡ all → command_step nest index place t ≡ fails f → all ≡ record { items = front; fault = Some f; taken = n }
  unfolding commands_at command_step
  commands_fail place front n f t all h e = loop_fails no_command (command_step nest index place) join_scripts join_scripts_assoc join_scripts_none front n f t all refl h e
