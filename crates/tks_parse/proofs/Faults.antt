-- The first fault is the fault that is read, and so a text spells one script.
use Rattle.std.proofs.Common.{◌≡◌, ℕ, zero, suc, ◌+◌, ◌-◌, Bool, true, false, cond, eqb, List, [], ◌∷◌, length, take, drop, Option, Some, None, refl, sym, ap, ◌∙◌, subst, inl, inr, arith}
use Rattle.std.specs.Prelude.{◌↔◌, ◌||◌}
use Rattle.std.specs.List.{AllByRecursion, prefix_len}
use Rattle.tks_text.specs.Run.{Step, stop, fails, takes, Run, ended, run, on_run}
use Rattle.tks_text.specs.declared.fault.ScriptFault.{ScriptFault}
use Rattle.tks_text.proofs.Runs.{behind, Run_ext, run_fails}
use Rattle.tks_parse.specs.Tree.{Script, no_command, command, no_word, word, Parts, no_part, chars, join_scripts, join_words, join_parts}
use Rattle.tks_parse.specs.Class.{is_no_close_brace, ends_word_at, is_expanded}
use Rattle.tks_parse.specs.Fault.{missing_close_brace, missing_close_quote, text_after_close_quote, text_after_close_brace, missing_close_of_variable, told, syntax_of}
use Rattle.tks_parse.specs.Braces.{braced_len, verbatim}
use Rattle.tks_parse.specs.Reading.{close_name, braced_name_step, close_index, close_script, close_text, close_parts, braced_at, ended_word, closed_word, behind_bytes, nested_step, index_step, named_step, variable_step, part_step, parts_at, quoted_at, bare_word, plain_word, prefixed_word, word_step, words_at, words_command, command_step, commands_at, nest, index, closed, script_of}
use Rattle.tks_text.proofs.Escaped.{escape_outside}
use Rattle.tks_text.specs.Text.{BeginsNot}
use Rattle.tks_parse.specs.Script.{BeginsCommand, BracedThen, word_start, PartsThen, PartFails, PartsFail, WordFails, WordsFail, ScriptFails, BracketsFail, IndexFails, Spells}
use Rattle.tks_parse.specs.declared.mode.Place.{Place}
use Rattle.tks_parse.specs.declared.mode.Place.TheVariants.{Alone, Brackets}
use Rattle.tks_parse.specs.declared.mode.Mode.{Mode}
use Rattle.tks_parse.specs.declared.mode.Mode.TheVariants.{Bare, Quoted, Index}
use Rattle.tks_parse.specs.declared.syntax.Syntax.{Syntax}
use Rattle.tks_parse.specs.declared.syntax.Syntax.TheVariants.{Scripts}
use Rattle.tks_parse.proofs.Joins.{join_scripts_none}
use Rattle.tks_parse.proofs.Tests.{or_left, or_right, prefix_whole, start_begins}
use Rattle.tks_parse.proofs.Braced.{braced_read, braced_rest, braced_told}
use Rattle.tks_parse.proofs.Spelled.{Reads, parts_read, words_read, script_reads, parts_whole, quoted_whole, next_rest, name_at, variable_at, bracket_at, word_at, command_at}
use Rattle.tks_parse.proofs.Told.{script_told}

-- ---- runs

-- a fault ends what reads up to it
fault_at : {R S : Type 0} (r : Run ScriptFault R) (f : ScriptFault) (next : R → ℕ → Step ScriptFault S) → r.fault ≡ Some f → on_run r next ≡ fails f
fault_at r f next e = ap (λ (o : Option ScriptFault). elim o [ None ↦ next r.items r.taken | Some g ↦ fails g ]) e

run_fault : {R : Type 0} (none : R) (step : List ℕ → Step ScriptFault R) (join : R → R) (t v : List ℕ) (f : ScriptFault) → step [] ≡ stop → (r : Reads join (run none step 0) t v) → step v ≡ fails f → (run none step 0 t).fault ≡ Some f
run_fault none step join t v f s r e = ap (λ x. x.fault) (r.same ∙ ap (behind join r.len) (run_fails none step v f s e))

-- what a fault in brackets and one in an index come to, with d of either left to open
abbrev pub BracketsRead : ℕ → Type 0
BracketsRead d = (s : List ℕ) (f : ScriptFault) → BracketsFail d s f → nested_step (nest d) s ≡ fails f

abbrev pub IndexesRead : ℕ → Type 0
IndexesRead d = (syntax : Syntax) (name : List ℕ) (n : ℕ) (s : List ℕ) (f : ScriptFault) → IndexFails d syntax s f → index_step (index d) syntax name n s ≡ fails f

-- ---- parts

unclosed_at : (d : ℕ) (syntax : Syntax) (name : List ℕ) → AllByRecursion (λ c. is_no_close_brace c ≡ true) name → variable_step (index d) syntax (123 ∷ name) ≡ fails (told syntax missing_close_of_variable)
unfolding variable_step braced_name_step
unclosed_at d syntax name each = let w = prefix_whole is_no_close_brace name each in ap (close_name syntax (take (prefix_len is_no_close_brace name) name) (prefix_len is_no_close_brace name)) w

pub part_fault : (d : ℕ) (m : Mode) (u : List ℕ) (f : ScriptFault) → BracketsRead d → IndexesRead d → PartFails (BracketsFail d) (IndexFails d) m u f → part_step (nest d) (index d) m u ≡ fails f
unfolding part_step named_step
part_fault d m _ _ b i (PartFails.in_brackets s f h) = bracket_at (nest d) (index d) m s ∙ b s f h
part_fault d m _ _ b i (PartFails.in_index name u s f n h) = variable_at (nest d) (index d) m u ∙ name_at (nest d) (index d) (syntax_of m) name u (40 ∷ s) n ∙ i (syntax_of m) name (length name) s f h
part_fault d m _ _ b i (PartFails.name_unclosed name each) = variable_at (nest d) (index d) m (123 ∷ name) ∙ unclosed_at d (syntax_of m) name each
part_fault d m _ _ b i (PartFails.outside_texts u c n s h e) = rw (s, escape_outside u c n h e) refl

pub parts_fault : (d : ℕ) (m : Mode) (t : List ℕ) (f : ScriptFault) → BracketsRead d → IndexesRead d → PartsFail (BracketsFail d) (IndexFails d) d m t f → (parts_at (nest d) (index d) m t).fault ≡ Some f
unfolding parts_at part_step
parts_fault d m t f b i h = run_fault no_part (part_step (nest d) (index d) m) (join_parts h.0) t h.1 f refl (parts_read h.0 d m t h.1 h.2) (part_fault d m h.1 f b i h.3)

-- ---- words

-- a fault inside quotes is the fault of the word
pub quoted_fault : (d : ℕ) (syntax : Syntax) (u : List ℕ) (f : ScriptFault) → (parts_at (nest d) (index d) (Quoted syntax) u).fault ≡ Some f → (quoted_at (nest d) (index d) syntax u).fault ≡ Some f
unfolding quoted_at
quoted_fault d syntax u f e =
    let r = parts_at (nest d) (index d) (Quoted syntax) u in
    ap (λ (o : Option ScriptFault). (elim o as (λ _. Run ScriptFault Parts) [ None ↦ close_text (told syntax missing_close_quote) r.items r.taken (drop r.taken u) | Some g ↦ ended no_part (Some g) ]).fault) e

pub unclosed_quote : (d : ℕ) (syntax : Syntax) (u : List ℕ) (parts : Parts) → PartsThen parts d (Quoted syntax) u [] → (quoted_at (nest d) (index d) syntax u).fault ≡ Some (told syntax missing_close_quote)
unfolding quoted_at
unclosed_quote d syntax u parts h =
    let r = parts_read parts d (Quoted syntax) u [] h in
    ap (λ (z : Run ScriptFault Parts). (close_parts (told syntax missing_close_quote) u z).fault) (parts_whole (nest d) (index d) (Quoted syntax) parts u [] r refl) ∙ ap (λ v. (close_text (told syntax missing_close_quote) parts r.len v).fault) r.rest

-- where there is no close, none is read
none_closes : (syntax : Syntax) (u w : List ℕ) → drop (braced_len 0 false u) u ≡ w → ((inside v : List ℕ) → BracedThen inside u v → ⊥) → (close_text (told syntax missing_close_brace) (chars (verbatim (take (braced_len 0 false u) u)) no_part) (braced_len 0 false u) w).fault ≡ Some (told syntax missing_close_brace)
none_closes syntax u [] e h = refl
none_closes syntax u (z ∷ v) e h = absurd (h (take (braced_len 0 false u) u) v (braced_told u z v e))

pub unclosed_brace : (syntax : Syntax) (u : List ℕ) → ((inside v : List ℕ) → BracedThen inside u v → ⊥) → (braced_at syntax u).fault ≡ Some (told syntax missing_close_brace)
unfolding braced_at
unclosed_brace syntax u h = none_closes syntax u (drop (braced_len 0 false u) u) refl h

text_behind : (place : Place) (expand : Bool) (f : ScriptFault) (parts : Parts) (n : ℕ) (u v : List ℕ) → drop n u ≡ v → ends_word_at place v ≡ false → ended_word place expand f parts n (drop n u) ≡ fails f
text_behind place expand f parts n u v d e = ap (ended_word place expand f parts n) d ∙ ap (λ (b : Bool). cond b (takes (word expand parts) n) (fails f)) e

bare_fault : (d : ℕ) (place : Place) (expand : Bool) (t : List ℕ) (f : ScriptFault) → BracketsRead d → IndexesRead d → ends_word_at place t ≡ false → BeginsNot (λ c. eqb c 34 || eqb c 123) t → PartsFail (BracketsFail d) (IndexFails d) d (Bare place) t f → plain_word (nest d) (index d) place expand t ≡ fails f
unfolding plain_word bare_word
bare_fault d place expand [] f b i k q h = absurd cc
bare_fault d place expand (c ∷ t) f b i k q h =
    rw (or_left (eqb c 34) (eqb c 123) q, or_right (eqb c 34) (eqb c 123) q)
    (fault_at (parts_at (nest d) (index d) (Bare place) (c ∷ t)) f (λ ps n. takes (word expand ps) (n - 1)) (parts_fault d (Bare place) (c ∷ t) f b i h))

plain_fault : (d : ℕ) (place : Place) (expand : Bool) (s : List ℕ) (f : ScriptFault) → BracketsRead d → IndexesRead d → ends_word_at place s ≡ false → WordFails (BracketsFail d) (IndexFails d) d place s f → plain_word (nest d) (index d) place expand s ≡ fails f
unfolding plain_word
plain_fault d place expand _ _ b i k (WordFails.in_quotes u f h) =
    fault_at (quoted_at (nest d) (index d) Scripts u) f (λ ps n. ended_word place expand text_after_close_quote ps n (drop n u)) (quoted_fault d Scripts u f (parts_fault d (Quoted Scripts) u f b i h))
plain_fault d place expand _ _ b i k (WordFails.quote_unclosed u parts h) =
    fault_at (quoted_at (nest d) (index d) Scripts u) missing_close_quote (λ ps n. ended_word place expand text_after_close_quote ps n (drop n u)) (unclosed_quote d Scripts u parts h)
plain_fault d place expand _ _ b i k (WordFails.behind_quote u v parts h e) =
    let r = parts_read parts d (Quoted Scripts) u (34 ∷ v) h in
    ap (closed_word place expand text_after_close_quote u) (quoted_whole (nest d) (index d) Scripts parts u v r) ∙ text_behind place expand text_after_close_quote parts (r.len + 1) u v (next_rest (nest d) (index d) r.len u v 34 r.rest) e
plain_fault d place expand _ _ b i k (WordFails.brace_unclosed u h) =
    fault_at (braced_at Scripts u) missing_close_brace (λ ps n. ended_word place expand text_after_close_brace ps n (drop n u)) (unclosed_brace Scripts u h)
plain_fault d place expand _ _ b i k (WordFails.behind_brace u inside v h e) =
    ap (closed_word place expand text_after_close_brace u) (braced_read inside u v h Scripts) ∙ text_behind place expand text_after_close_brace (chars (verbatim inside) no_part) (length inside + 1) u v (braced_rest inside u v h) e
plain_fault d place expand _ _ b i k (WordFails.bare t f q h) = bare_fault d place expand t f b i k q h

prefixed_fault : (d : ℕ) (place : Place) (x : List ℕ) (f : ScriptFault) (expand : Bool) → is_expanded place x ≡ expand → BracketsRead d → IndexesRead d → ends_word_at place x ≡ false → WordFails (BracketsFail d) (IndexFails d) d place (word_start place x) f → prefixed_word (nest d) (index d) place x ≡ fails f
unfolding prefixed_word
prefixed_fault d place x f true e b i k h =
    let from : word_start place x ≡ drop 3 x = ap (λ (z : Bool). cond z (drop 3 x) x) e in
    ap (λ (z : Bool). cond z (behind_bytes 3 (plain_word (nest d) (index d) place true (drop 3 x))) (plain_word (nest d) (index d) place false x)) e
    ∙ ap (λ s. behind_bytes 3 (plain_word (nest d) (index d) place true s)) (sym from)
    ∙ ap (behind_bytes 3) (plain_fault d place true (word_start place x) f b i (start_begins place x k) h)
prefixed_fault d place x f false e b i k h =
    let from : word_start place x ≡ x = ap (λ (z : Bool). cond z (drop 3 x) x) e in
    ap (λ (z : Bool). cond z (behind_bytes 3 (plain_word (nest d) (index d) place true (drop 3 x))) (plain_word (nest d) (index d) place false x)) e
    ∙ ap (plain_word (nest d) (index d) place false) (sym from)
    ∙ plain_fault d place false (word_start place x) f b i (start_begins place x k) h

words_fault : (d : ℕ) (place : Place) (t : List ℕ) (f : ScriptFault) → BracketsRead d → IndexesRead d → WordsFail (BracketsFail d) (IndexFails d) d place t f → (words_at (nest d) (index d) place t).fault ≡ Some f
unfolding words_at word_step
words_fault d place t f b i h =
    run_fault no_word (word_step (nest d) (index d) place) (join_words h.0) t h.1 f refl (words_read h.0 d place t h.1 h.2)
    (word_at (nest d) (index d) place h.1 h.3 ∙ prefixed_fault d place h.1 f (is_expanded place h.1) refl b i h.3 h.4)

-- ---- commands

command_fault : (d : ℕ) (place : Place) (v : List ℕ) (f : ScriptFault) → BracketsRead d → IndexesRead d → BeginsCommand place v → WordsFail (BracketsFail d) (IndexFails d) d place v f → command_step (nest d) (index d) place v ≡ fails f
unfolding words_command
command_fault d place [] f b i k h = let e = k.word in absurd cc
command_fault d place (c ∷ v) f b i k h =
    command_at (nest d) (index d) place c v k ∙ fault_at (words_at (nest d) (index d) place (c ∷ v)) f (λ ws n. takes (command ws) (n - 1)) (words_fault d place (c ∷ v) f b i h)

-- the commands before a fault
script_fault : (d : ℕ) (place : Place) (before : Script) (t : List ℕ) (f : ScriptFault) → BracketsRead d → IndexesRead d → ScriptFails (BracketsFail d) (IndexFails d) d place before t f → (n : ℕ) × (commands_at (nest d) (index d) place t ≡ record { items = before; fault = Some f; taken = n })
unfolding commands_at command_step
script_fault d place before t f b i h =
    let r = script_reads before d place t h.0 h.1 in
    (r.len, r.same ∙ ap (behind (join_scripts before) r.len) (run_fails no_command (command_step (nest d) (index d) place) h.0 f refl (command_fault d place h.0 f b i h.2 h.3)) ∙ Run_ext _ _ (join_scripts_none before) refl (omega arith))

script_end : (d : ℕ) (place : Place) → commands_at (nest d) (index d) place [] ≡ ended no_command None
unfolding commands_at
script_end d place = refl

-- the commands up to the end
script_whole : (d : ℕ) (place : Place) (script : Script) (t : List ℕ) (r : Reads (join_scripts script) (commands_at (nest d) (index d) place) t []) → commands_at (nest d) (index d) place t ≡ record { items = script; fault = None; taken = r.len }
script_whole d place script t r = r.same ∙ ap (behind (join_scripts script) r.len) (script_end d place) ∙ Run_ext _ _ (join_scripts_none script) refl (omega arith)

-- ---- brackets and parentheses

mutual
  unfolding nested_step index_step nest

  pub brackets_fault : (d : ℕ) → BracketsRead d
  brackets_fault zero s f h = ap fails (sym h)
  brackets_fault (suc d) s f (script, inl h) =
      let r = script_reads script d Brackets s [] h.0 in
      ap (λ (z : Run ScriptFault Script). on_run z (λ cs n. close_script cs n (drop n s))) (script_whole d Brackets script s r) ∙ ap (close_script script r.len) r.rest ∙ ap fails (sym h.1)
  brackets_fault (suc d) s f (script, inr h) =
      let e = script_fault d Brackets script s f (brackets_fault d) (indexes_fault d) h in
      fault_at (commands_at (nest d) (index d) Brackets s) f (λ cs n. close_script cs n (drop n s)) (ap (λ (z : Run ScriptFault Script). z.fault) e.1)

  pub indexes_fault : (d : ℕ) → IndexesRead d
  indexes_fault zero syntax name n s f h = ap fails (sym h)
  indexes_fault (suc d) syntax name n s f (inl h) =
      let r = parts_read h.0 d (Index syntax) s [] h.1 in
      ap (λ (z : Run ScriptFault Parts). on_run z (λ ps k. close_index syntax name ps (n + 1 + k) (drop k s))) (parts_whole (nest d) (index d) (Index syntax) h.0 s [] r refl) ∙ ap (close_index syntax name h.0 (n + 1 + r.len)) r.rest ∙ ap fails (sym h.2)
  indexes_fault (suc d) syntax name n s f (inr h) =
      fault_at (parts_at (nest d) (index d) (Index syntax) s) f (λ ps k. close_index syntax name ps (n + 1 + k) (drop k s)) (parts_fault d (Index syntax) s f (brackets_fault d) (indexes_fault d) h)

-- ---- scripts

script_read : (t : List ℕ) (s : Script) → Spells t s → script_of t ≡ s
unfolding script_of
script_read t s (inl h) =
    let r = script_reads s 32 Alone t [] h in
    ap (λ (z : Run ScriptFault Script). closed z.items z.fault) (script_whole 32 Alone s t r)
script_read t s (inr h) =
    let e = script_fault 32 Alone h.0 t h.1 (brackets_fault 32) (indexes_fault 32) h.3 in
    ap (λ (z : Run ScriptFault Script). closed z.items z.fault) e.1 ∙ sym h.2

-- a text spells the script that is read, and no other
pub spells_script_of : (t : List ℕ) (s : Script) → Spells t s ↔ (s ≡ script_of t)
spells_script_of t s = (λ h. sym (script_read t s h), λ e. subst (λ x. Spells t x) (sym e) (script_told t))

pub spells_at : (t : List ℕ) (s : Script) → s ≡ script_of t → Spells t s
spells_at t s e = (spells_script_of t s).1 e
