-- What is spelled so is read so.
use Rattle.std.proofs.Common.{◌≡◌, ℕ, zero, suc, ◌+◌, ◌-◌, ◌<◌, ◌≤◌, Bool, true, false, cond, eqb, List, [], ◌∷◌, ◌++◌, length, drop, None, refl, sym, ap, ◌∙◌, arith, inl, inr}
use Rattle.std.specs.Prelude.{◌||◌}
use Rattle.std.proofs.Math.Dec.{eqb-suc-zero}
use Rattle.std.proofs.lemmas.Bool.{eqb-true}
use Rattle.std.proofs.lemmas.List.{drop-drop, length-drop, take_at, drop_at, length-append}
use Rattle.tks_text.specs.Run.{Step, stop, fails, takes, Run, ended, run, on_run}
use Rattle.tks_text.specs.declared.fault.ScriptFault.{ScriptFault}
use Rattle.tks_text.proofs.Runs.{behind, Run_ext, run_takes, run_stops, run_taken}
use Rattle.tks_parse.specs.Tree.{Script, no_command, faulty, command, Words, no_word, word, Parts, no_part, char, variable, element, nested, chars, join_scripts, join_words, join_parts}
use Rattle.tks_parse.specs.Class.{is_name_char, is_no_close_brace, ends_word_at, ends_command_at, is_expanded}
use Rattle.tks_parse.specs.Fault.{missing_close_quote, text_after_close_brace, text_after_close_quote, told, syntax_of}
use Rattle.tks_text.proofs.Backslashes.{escape_within}
use Rattle.tks_text.proofs.Escaped.{escape_in_text}
use Rattle.tks_parse.specs.Braces.{comment_len, verbatim}
use Rattle.tks_parse.specs.Reading.{braced_name_step, close_index, close_script, close_text, close_parts, ended_word, closed_word, behind_bytes, nested_step, index_step, named_step, variable_step, part_step, parts_at, quoted_at, bare_word, plain_word, prefixed_word, word_step, words_at, words_command, command_step, commands_at, nest, index}
use Rattle.tks_text.specs.Text.{BeginsNot}
use Rattle.tks_parse.specs.Script.{BlanksThen, GapThen, BeginsCommand, NameThen, BracedNameThen, BracedThen, StandsForItself, EscapeThen, word_start, ScriptThen, WordsThen, PartsThen}
use Rattle.tks_parse.specs.declared.mode.Place.{Place}
use Rattle.tks_parse.specs.declared.mode.Place.TheVariants.{Brackets}
use Rattle.tks_parse.specs.declared.mode.Mode.{Mode}
use Rattle.tks_parse.specs.declared.mode.Mode.TheVariants.{Bare, Quoted, Index}
use Rattle.tks_parse.specs.declared.syntax.Syntax.{Syntax}
use Rattle.tks_parse.specs.declared.syntax.Syntax.TheVariants.{Scripts}
use Rattle.tks_parse.proofs.Joins.{join_parts_none, join_words_none, join_scripts_none}
use Rattle.tks_text.proofs.Prefixes.{prefix_of}
use Rattle.tks_parse.proofs.Tests.{or_left, or_right, start_begins, behind_drop, drop_one, open_goes_on, dollar_goes_on, hash_goes_on, word_begins, command_ends, end_at_word, ends_parts_at, bare_end, taken_some, pred_drop}
use Rattle.tks_parse.proofs.Braced.{comment_read, comment_within, braced_read, braced_rest, verbatim_is}

-- t is read as the front, and then as v is
pub record Reads {R : Type 0} (front : R → R) (f : List ℕ → Run ScriptFault R) (t v : List ℕ) : Type 0 where
  pub len : ℕ
  pub same : f t ≡ behind front len (f v)
  pub rest : drop len t ≡ v

reads_none : {R : Type 0} (f : List ℕ → Run ScriptFault R) (t v : List ℕ) → t ≡ v → Reads (λ x. x) f t v
reads_none f t v e = record { len = 0; same = ap f e ∙ Run_ext _ _ refl refl (omega arith); rest = e }

reads_then : {R : Type 0} (g h : R → R) (f : List ℕ → Run ScriptFault R) (t u v : List ℕ) → Reads g f t u → Reads h f u v → Reads (λ x. g (h x)) f t v
reads_then g h f t u v a b = record {
  len = a.len + b.len;
  same = a.same ∙ ap (behind g a.len) b.same ∙ Run_ext _ _ refl refl (omega arith);
  rest = sym (drop-drop b.len a.len t) ∙ ap (drop b.len) a.rest ∙ b.rest;
}

-- one step of a reading
reads_step : {R : Type 0} (none : R) (step : List ℕ → Step ScriptFault R) (g : R → R) (k : ℕ) (c : ℕ) (t u : List ℕ) → step [] ≡ stop → step (c ∷ t) ≡ takes g k → k ≤ length t → drop k t ≡ u → Reads g (run none step 0) (c ∷ t) u
reads_step none step g k c t u s e h d =
    let one : 1 + k ≡ suc k = omega arith in
    record {
      len = suc k;
      same = run_takes none step (c ∷ t) g k s e (omega arith) ∙ ap (λ n. behind g n (run none step 0 (drop n (c ∷ t)))) one ∙ ap (λ x. behind g (suc k) (run none step 0 x)) d;
      rest = d;
    }

module _ (nest : List ℕ → Run ScriptFault Script) (index : Syntax → List ℕ → Run ScriptFault Parts) where
  -- ---- parts

  dollar_alone : (syntax : Syntax) (u : List ℕ) → BeginsNot (λ d. is_name_char d || eqb d 123) u → variable_step index syntax u ≡ takes (char 36) 0
  unfolding variable_step braced_name_step
  dollar_alone syntax [] h = refl
  dollar_alone syntax (d ∷ u) h = rw (or_left (is_name_char d) (eqb d 123) h, or_right (is_name_char d) (eqb d 123) h) refl

  char_at : (m : Mode) (c : ℕ) (u : List ℕ) → StandsForItself m c u → part_step nest index m (c ∷ u) ≡ takes (char c) 0
  unfolding part_step
  char_at m c u h =
      rw (h.inside, or_left (eqb c 91) (eqb c 92) h.plain, or_right (eqb c 91) (eqb c 92) h.plain)
      (elim (eqb c 36) as (λ b. eqb c 36 ≡ b → cond b (variable_step index (syntax_of m) u) (takes (char c) 0) ≡ takes (char c) 0) [
        | true ↦ λ e. let is : c ≡ 36 = eqb-true c 36 e in dollar_alone (syntax_of m) u (h.no_variable is) ∙ ap (λ x. takes (char x) 0) (sym is)
        | false ↦ λ e. refl
      ] refl)

  escape_at : (m : Mode) (c : ℕ) (u w : List ℕ) (h : EscapeThen m c u w) → part_step nest index m (92 ∷ u) ≡ takes (char c) h.taken
  unfolding part_step
  escape_at m c u w h = rw (h.inside, escape_in_text u c h.taken h.is h.text) refl

  -- a name, and what follows it
  pub name_at : (syntax : Syntax) (name u w : List ℕ) → NameThen name u w → variable_step index syntax u ≡ named_step index syntax name (length name) w
  unfolding variable_step
  name_at syntax [] u w h = absurd (omega (arith, h.some))
  name_at syntax (c ∷ name) u w h =
      rw (h.is, prefix_of is_name_char (c ∷ name) w h.each h.longest, eqb-suc-zero (length name), take_at (c ∷ name) w (suc (length name)) refl, drop_at (c ∷ name) w (suc (length name)) refl) refl

  pub scalar_at : (syntax : Syntax) (name u w : List ℕ) → NameThen name u w → BeginsNot (λ c. eqb c 40) w → variable_step index syntax u ≡ takes (variable name) (length name)
  unfolding named_step
  scalar_at syntax name u [] h b = name_at syntax name u [] h
  scalar_at syntax name u (c ∷ w) h b = name_at syntax name u (c ∷ w) h ∙ rw b refl

  pub braced_name_at : (syntax : Syntax) (name u w : List ℕ) → BracedNameThen name u w → variable_step index syntax u ≡ takes (variable name) (length name + 2)
  unfolding variable_step braced_name_step
  braced_name_at syntax name u w h =
      rw (h.is, prefix_of is_no_close_brace name (125 ∷ w) h.each refl, take_at name (125 ∷ w) (length name) refl, drop_at name (125 ∷ w) (length name) refl) refl

  pub variable_at : (m : Mode) (u : List ℕ) → part_step nest index m (36 ∷ u) ≡ variable_step index (syntax_of m) u
  unfolding part_step
  variable_at m u = rw (dollar_goes_on m u) refl

  pub bracket_at : (m : Mode) (s : List ℕ) → part_step nest index m (91 ∷ s) ≡ nested_step nest s
  unfolding part_step
  bracket_at m s = rw (open_goes_on m s) refl

  char_read : (m : Mode) (c : ℕ) (u : List ℕ) → StandsForItself m c u → Reads (char c) (parts_at nest index m) (c ∷ u) u
  unfolding parts_at part_step
  char_read m c u h = reads_step no_part (part_step nest index m) (char c) 0 c u u refl (char_at m c u h) (omega arith) refl

  escape_read : (m : Mode) (c : ℕ) (u w : List ℕ) → EscapeThen m c u w → Reads (char c) (parts_at nest index m) (92 ∷ u) w
  unfolding parts_at part_step
  escape_read m c u w h = reads_step no_part (part_step nest index m) (char c) h.taken 92 u w refl (escape_at m c u w h) (escape_within u c h.taken (escape_in_text u c h.taken h.is h.text)) h.rest

  scalar_read : (m : Mode) (name u w : List ℕ) → NameThen name u w → BeginsNot (λ c. eqb c 40) w → Reads (variable name) (parts_at nest index m) (36 ∷ u) w
  unfolding parts_at part_step
  scalar_read m name u w h b =
      reads_step no_part (part_step nest index m) (variable name) (length name) 36 u w refl (variable_at m u ∙ scalar_at (syntax_of m) name u w h b)
      (omega (arith, ap length h.is, length-append name w)) (ap (drop (length name)) h.is ∙ drop_at name w (length name) refl)

  pub braced_name_rest : (name u w : List ℕ) → BracedNameThen name u w → drop (length name + 2) u ≡ w
  braced_name_rest name u w h =
      let two : length name + 2 ≡ suc (suc (length name)) = omega arith in
      ap (λ n. drop n u) two ∙ ap (drop (suc (suc (length name)))) h.is ∙ drop_one (length name) (name ++ 125 ∷ w) w 125 (drop_at name (125 ∷ w) (length name) refl)

  braced_name_read : (m : Mode) (name u w : List ℕ) → BracedNameThen name u w → Reads (variable name) (parts_at nest index m) (36 ∷ u) w
  unfolding parts_at part_step
  braced_name_read m name u w h =
      reads_step no_part (part_step nest index m) (variable name) (length name + 2) 36 u w refl (variable_at m u ∙ braced_name_at (syntax_of m) name u w h)
      (omega (arith, ap length h.is, length-append name (125 ∷ w))) (braced_name_rest name u w h)

  parts_stop_at : (m : Mode) (y : List ℕ) → ends_parts_at m y ≡ true → parts_at nest index m y ≡ ended no_part None
  unfolding parts_at part_step
  parts_stop_at m [] h = refl
  parts_stop_at m (c ∷ y) h = run_stops no_part (part_step nest index m) (c ∷ y) (rw h refl)

  -- the parts up to their end
  pub parts_whole : (m : Mode) (parts : Parts) (x y : List ℕ) (r : Reads (join_parts parts) (parts_at nest index m) x y) → ends_parts_at m y ≡ true → parts_at nest index m x ≡ record { items = parts; fault = None; taken = r.len }
  parts_whole m parts x y r h = r.same ∙ ap (behind (join_parts parts) r.len) (parts_stop_at m y h) ∙ Run_ext _ _ (join_parts_none parts) refl (omega arith)

  parts_within : (m : Mode) (t : List ℕ) → (parts_at nest index m t).taken ≤ length t
  unfolding parts_at
  parts_within m t = run_taken no_part (part_step nest index m) 0 t

  -- ---- words

  -- a word that begins s is read so, up to y
  pub record WordReads (place : Place) (expand : Bool) (parts : Parts) (s y : List ℕ) : Type 0 where
    pub len : ℕ
    pub is : plain_word nest index place expand s ≡ takes (word expand parts) len
    pub within : len < length s
    pub rest : drop (suc len) s ≡ y

  pub quoted_whole : (syntax : Syntax) (parts : Parts) (u y : List ℕ) (r : Reads (join_parts parts) (parts_at nest index (Quoted syntax)) u (34 ∷ y)) → quoted_at nest index syntax u ≡ record { items = parts; fault = None; taken = r.len + 1 }
  unfolding quoted_at
  quoted_whole syntax parts u y r = ap (close_parts (told syntax missing_close_quote) u) (parts_whole (Quoted syntax) parts u (34 ∷ y) r refl) ∙ ap (close_text (told syntax missing_close_quote) parts r.len) r.rest

  ended_at : (place : Place) (expand : Bool) (f : ScriptFault) (parts : Parts) (n : ℕ) (u y : List ℕ) → drop n u ≡ y → ends_word_at place y ≡ true → ended_word place expand f parts n (drop n u) ≡ takes (word expand parts) n
  ended_at place expand f parts n u y d e = ap (ended_word place expand f parts n) d ∙ ap (λ (b : Bool). cond b (takes (word expand parts) n) (fails f)) e

  pub next_rest : (n : ℕ) (u y : List ℕ) (c : ℕ) → drop n u ≡ c ∷ y → drop (n + 1) u ≡ y
  next_rest n u y c e = let one : n + 1 ≡ suc n = omega arith in ap (λ k. drop k u) one ∙ drop_one n u y c e

  quoted_read : (place : Place) (expand : Bool) (parts : Parts) (u y : List ℕ) → Reads (join_parts parts) (parts_at nest index (Quoted Scripts)) u (34 ∷ y) → ends_word_at place y ≡ true → WordReads place expand parts (34 ∷ u) y
  unfolding plain_word
  quoted_read place expand parts u y r e =
      let lt = behind_drop r.len u y 34 r.rest in
      let rest = next_rest r.len u y 34 r.rest in
      record {
        len = r.len + 1;
        is = ap (closed_word place expand text_after_close_quote u) (quoted_whole Scripts parts u y r) ∙ ended_at place expand text_after_close_quote parts (r.len + 1) u y rest e;
        within = omega (arith, lt);
        rest = rest;
      }

  brace_read : (place : Place) (expand : Bool) (inside u y : List ℕ) → BracedThen inside u y → ends_word_at place y ≡ true → WordReads place expand (chars (verbatim inside) no_part) (123 ∷ u) y
  unfolding plain_word
  brace_read place expand inside u y b e =
      let rest = braced_rest inside u y b in
      record {
        len = length inside + 1;
        is = ap (closed_word place expand text_after_close_brace u) (braced_read inside u y b Scripts) ∙ ended_at place expand text_after_close_brace (chars (verbatim inside) no_part) (length inside + 1) u y rest e;
        within = omega (arith, ap length b.is, length-append inside (125 ∷ y));
        rest = rest;
      }

  bare_read : (place : Place) (expand : Bool) (parts : Parts) (x y : List ℕ) → ends_word_at place x ≡ false → BeginsNot (λ c. eqb c 34 || eqb c 123) x → Reads (join_parts parts) (parts_at nest index (Bare place)) x y → ends_word_at place y ≡ true → WordReads place expand parts x y
  unfolding plain_word bare_word
  bare_read place expand parts [] y b q r e = absurd cc
  bare_read place expand parts (c ∷ x) y b q r e =
      let whole = parts_whole (Bare place) parts (c ∷ x) y r (sym (bare_end place y) ∙ e) in
      let positive = taken_some place r.len (c ∷ x) y b e r.rest in
      let most = parts_within (Bare place) (c ∷ x) in
      record {
        len = r.len - 1;
        is = rw (or_left (eqb c 34) (eqb c 123) q, or_right (eqb c 34) (eqb c 123) q) (ap (λ (z : Run ScriptFault Parts). on_run z (λ qs n. takes (word expand qs) (n - 1))) whole);
        within = omega (arith, positive, most, ap (λ (z : Run ScriptFault Parts). z.taken) whole);
        rest = pred_drop r.len c x y positive r.rest;
      }

  -- behind `{*}`
  pub record Prefixed (place : Place) (expand : Bool) (parts : Parts) (x y : List ℕ) : Type 0 where
    pub len : ℕ
    pub is : prefixed_word nest index place x ≡ takes (word expand parts) len
    pub within : len < length x
    pub rest : drop (suc len) x ≡ y

  prefixed_read : (place : Place) (expand : Bool) (parts : Parts) (x y : List ℕ) → is_expanded place x ≡ expand → WordReads place expand parts (word_start place x) y → Prefixed place expand parts x y
  unfolding prefixed_word
  prefixed_read place true parts x y e r =
      let from : word_start place x ≡ drop 3 x = ap (λ (b : Bool). cond b (drop 3 x) x) e in
      let four : suc (3 + r.len) ≡ 3 + suc r.len = omega arith in
      record {
        len = 3 + r.len;
        is = ap (λ (b : Bool). cond b (behind_bytes 3 (plain_word nest index place true (drop 3 x))) (plain_word nest index place false x)) e ∙ ap (λ s. behind_bytes 3 (plain_word nest index place true s)) (sym from) ∙ ap (behind_bytes 3) r.is;
        within = omega (arith, r.within, ap length from, length-drop 3 x);
        rest = ap (λ n. drop n x) four ∙ sym (drop-drop (suc r.len) 3 x) ∙ ap (drop (suc r.len)) (sym from) ∙ r.rest;
      }
  prefixed_read place false parts x y e r =
      let from : word_start place x ≡ x = ap (λ (b : Bool). cond b (drop 3 x) x) e in
      record {
        len = r.len;
        is = ap (λ (b : Bool). cond b (behind_bytes 3 (plain_word nest index place true (drop 3 x))) (plain_word nest index place false x)) e ∙ ap (plain_word nest index place false) (sym from) ∙ r.is;
        within = omega (arith, r.within, ap length from);
        rest = ap (drop (suc r.len)) (sym from) ∙ r.rest;
      }

  pub word_at : (place : Place) (x : List ℕ) → ends_word_at place x ≡ false → word_step nest index place x ≡ prefixed_word nest index place x
  unfolding word_step
  word_at place [] h = absurd cc
  word_at place (c ∷ x) h = let b = word_begins place c x h in rw (b.no_word_end, b.no_blank, b.no_fold) refl

  word_read : (place : Place) (expand : Bool) (parts : Parts) (x y : List ℕ) → ends_word_at place x ≡ false → Prefixed place expand parts x y → Reads (word expand parts) (words_at nest index place) x y
  unfolding words_at word_step
  word_read place expand parts [] y b r = absurd cc
  word_read place expand parts (c ∷ x) y b r = reads_step no_word (word_step nest index place) (word expand parts) r.len c x y refl (word_at place (c ∷ x) b ∙ r.is) (omega (arith, r.within)) r.rest

  blanks_read : (place : Place) (t v : List ℕ) → BlanksThen t v → Reads (λ x. x) (words_at nest index place) t v
  unfolding words_at word_step
  blanks_read place _ _ (BlanksThen.no_blank v) = reads_none (words_at nest index place) v v refl
  blanks_read place _ _ (BlanksThen.blank c t v e h) =
      reads_then (λ x. x) (λ x. x) (words_at nest index place) (c ∷ t) t v (reads_step no_word (word_step nest index place) (λ x. x) 0 c t t refl (rw e refl) (omega arith) refl) (blanks_read place t v h)
  blanks_read place _ _ (BlanksThen.quoted_newline t v h) =
      reads_then (λ x. x) (λ x. x) (words_at nest index place) (92 ∷ 10 ∷ t) t v (reads_step no_word (word_step nest index place) (λ x. x) 1 92 (10 ∷ t) t refl refl (omega arith) refl) (blanks_read place t v h)

  words_stop_at : (place : Place) (y : List ℕ) → ends_command_at place y ≡ true → words_at nest index place y ≡ ended no_word None
  unfolding words_at word_step
  words_stop_at place [] h = refl
  words_stop_at place (c ∷ y) h = let e = command_ends place c y h in run_stops no_word (word_step nest index place) (c ∷ y) (rw (e.word_end, e.no_blank, e.no_fold) refl)

  pub words_whole : (place : Place) (words : Words) (x y : List ℕ) (r : Reads (join_words words) (words_at nest index place) x y) → ends_command_at place y ≡ true → words_at nest index place x ≡ record { items = words; fault = None; taken = r.len }
  words_whole place words x y r h = r.same ∙ ap (behind (join_words words) r.len) (words_stop_at place y h) ∙ Run_ext _ _ (join_words_none words) refl (omega arith)

  words_within : (place : Place) (t : List ℕ) → (words_at nest index place t).taken ≤ length t
  unfolding words_at
  words_within place t = run_taken no_word (word_step nest index place) 0 t

  -- ---- commands

  gaps_read : (place : Place) (t v : List ℕ) → GapThen t v → Reads (λ x. x) (commands_at nest index place) t v
  unfolding commands_at command_step
  gaps_read place _ _ (GapThen.no_gap v) = reads_none (commands_at nest index place) v v refl
  gaps_read place _ _ (GapThen.white c t v e h) =
      reads_then (λ x. x) (λ x. x) (commands_at nest index place) (c ∷ t) t v (reads_step no_command (command_step nest index place) (λ x. x) 0 c t t refl (rw e refl) (omega arith) refl) (gaps_read place t v h)
  gaps_read place _ _ (GapThen.quoted_newline t v h) =
      reads_then (λ x. x) (λ x. x) (commands_at nest index place) (92 ∷ 10 ∷ t) t v (reads_step no_command (command_step nest index place) (λ x. x) 1 92 (10 ∷ t) t refl refl (omega arith) refl) (gaps_read place t v h)
  gaps_read place _ _ (GapThen.comment t u v c h) =
      reads_then (λ x. x) (λ x. x) (commands_at nest index place) (35 ∷ t) u v
      (reads_step no_command (command_step nest index place) (λ x. x) (comment_len false t) 35 t u refl (rw (hash_goes_on place) refl) (comment_within false t) (comment_read t u c))
      (gaps_read place u v h)

  pub command_at : (place : Place) (c : ℕ) (x : List ℕ) → BeginsCommand place (c ∷ x) → command_step nest index place (c ∷ x) ≡ words_command nest index place (c ∷ x)
  unfolding command_step
  command_at place c x h = let b = word_begins place c x h.word in rw (b.no_blank, b.no_separator, b.no_fold, b.no_close, h.no_comment) refl

  command_read : (place : Place) (words : Words) (x y : List ℕ) → BeginsCommand place x → Reads (join_words words) (words_at nest index place) x y → ends_command_at place y ≡ true → Reads (command words) (commands_at nest index place) x y
  unfolding commands_at command_step words_command
  command_read place words [] y b r h = let e = b.word in absurd cc
  command_read place words (c ∷ x) y b r h =
      let whole = words_whole place words (c ∷ x) y r h in
      let positive = taken_some place r.len (c ∷ x) y b.word (end_at_word place y h) r.rest in
      let most = words_within place (c ∷ x) in
      reads_step no_command (command_step nest index place) (command words) (r.len - 1) c x y refl
      (command_at place c x b ∙ ap (λ (z : Run ScriptFault Words). on_run z (λ vs n. takes (command vs) (n - 1))) whole)
      (omega (arith, most, ap (λ (z : Run ScriptFault Words). z.taken) whole))
      (pred_drop r.len c x y positive r.rest)

-- ---- scripts in brackets, and indexes

close_stops : (d : ℕ) (w : List ℕ) → commands_at (nest d) (index d) Brackets (93 ∷ w) ≡ ended no_command None
unfolding commands_at command_step
close_stops d w = refl

pub nested_at : (d : ℕ) (script : Script) (s w : List ℕ) (r : Reads (join_scripts script) (commands_at (nest d) (index d) Brackets) s (93 ∷ w)) → nested_step (nest (suc d)) s ≡ takes (nested script) (r.len + 1)
unfolding nested_step nest
nested_at d script s w r =
    let whole : commands_at (nest d) (index d) Brackets s ≡ record { items = script; fault = None; taken = r.len } = r.same ∙ ap (behind (join_scripts script) r.len) (close_stops d w) ∙ Run_ext _ _ (join_scripts_none script) refl (omega arith) in
    ap (λ (z : Run ScriptFault Script). on_run z (λ cs n. close_script cs n (drop n s))) whole ∙ ap (close_script script r.len) r.rest

nested_read : (d : ℕ) (m : Mode) (script : Script) (s w : List ℕ) → Reads (join_scripts script) (commands_at (nest d) (index d) Brackets) s (93 ∷ w) → Reads (nested script) (parts_at (nest (suc d)) (index (suc d)) m) (91 ∷ s) w
unfolding parts_at part_step
nested_read d m script s w r =
    reads_step no_part (part_step (nest (suc d)) (index (suc d)) m) (nested script) (r.len + 1) 91 s w refl
    (bracket_at (nest (suc d)) (index (suc d)) m s ∙ nested_at d script s w r) (omega (arith, behind_drop r.len s w 93 r.rest)) (next_rest (nest d) (index d) r.len s w 93 r.rest)

index_at : (d : ℕ) (syntax : Syntax) (parts : Parts) (name s w : List ℕ) (r : Reads (join_parts parts) (parts_at (nest d) (index d) (Index syntax)) s (41 ∷ w)) → index_step (index (suc d)) syntax name (length name) s ≡ takes (element name parts) (length name + 1 + r.len + 1)
unfolding index_step nest
index_at d syntax parts name s w r =
    ap (λ (z : Run ScriptFault Parts). on_run z (λ ps k. close_index syntax name ps (length name + 1 + k) (drop k s))) (parts_whole (nest d) (index d) (Index syntax) parts s (41 ∷ w) r refl)
    ∙ ap (close_index syntax name parts (length name + 1 + r.len)) r.rest

pub element_at : (d : ℕ) (syntax : Syntax) (parts : Parts) (name u s w : List ℕ) → NameThen name u (40 ∷ s) → (r : Reads (join_parts parts) (parts_at (nest d) (index d) (Index syntax)) s (41 ∷ w)) → variable_step (index (suc d)) syntax u ≡ takes (element name parts) (length name + 1 + r.len + 1)
unfolding named_step
element_at d syntax parts name u s w h r = name_at (nest (suc d)) (index (suc d)) syntax name u (40 ∷ s) h ∙ index_at d syntax parts name s w r

element_read : (d : ℕ) (m : Mode) (parts : Parts) (name u s w : List ℕ) → NameThen name u (40 ∷ s) → Reads (join_parts parts) (parts_at (nest d) (index d) (Index (syntax_of m))) s (41 ∷ w) → Reads (element name parts) (parts_at (nest (suc d)) (index (suc d)) m) (36 ∷ u) w
unfolding parts_at part_step
element_read d m parts name u s w h r =
    let lt = behind_drop r.len s w 41 r.rest in
    let whole : length name + 1 + r.len + 1 ≡ length name + suc (suc r.len) = omega arith in
    let rest : drop (length name + suc (suc r.len)) u ≡ w =
    sym (drop-drop (suc (suc r.len)) (length name) u) ∙ ap (drop (suc (suc r.len))) (ap (drop (length name)) h.is ∙ drop_at name (40 ∷ s) (length name) refl) ∙ drop_one r.len s w 41 r.rest in
    reads_step no_part (part_step (nest (suc d)) (index (suc d)) m) (element name parts) (length name + 1 + r.len + 1) 36 u w refl
    (variable_at (nest (suc d)) (index (suc d)) m u ∙ element_at d (syntax_of m) parts name u s w h r)
    (omega (arith, lt, ap length h.is, length-append name (40 ∷ s)))
    (ap (λ n. drop n u) whole ∙ rest)

-- ---- all of it

mutual
  pub script_reads : (script : Script) (d : ℕ) (place : Place) (t v : List ℕ) → ScriptThen script d place t v → Reads (join_scripts script) (commands_at (nest d) (index d) place) t v
  script_reads no_command d place t v h = gaps_read (nest d) (index d) place t v h
  script_reads (faulty f) d place t v h = absurd h
  script_reads (command words rest) d place t v h =
      let read = commands_at (nest d) (index d) place in
      let gap = gaps_read (nest d) (index d) place t h.0 h.2 in
      let first = command_read (nest d) (index d) place words h.0 h.1 h.3 (words_read words d place h.0 h.1 h.4) h.5 in
      let others = script_reads rest d place h.1 v h.6 in
      reads_then (λ x. x) (λ x. command words (join_scripts rest x)) read t h.0 v gap (reads_then (command words) (join_scripts rest) read h.0 h.1 v first others)

  pub words_read : (words : Words) (d : ℕ) (place : Place) (t v : List ℕ) → WordsThen words d place t v → Reads (join_words words) (words_at (nest d) (index d) place) t v
  words_read no_word d place t v h = blanks_read (nest d) (index d) place t v h
  words_read (word expand parts rest) d place t v h =
      let read = words_at (nest d) (index d) place in
      let blanks = blanks_read (nest d) (index d) place t h.0 h.2 in
      let start = word_start place h.0 in
      let plain : WordReads (nest d) (index d) place expand parts start h.1 = elim h.5 [
        | inl q ↦ rw q.1 (quoted_read (nest d) (index d) place expand parts q.0 h.1 (parts_read parts d (Quoted Scripts) q.0 (34 ∷ h.1) q.2) h.6)
        | inr (inl b) ↦ rw (b.3, b.6, verbatim_is b.1 b.2 b.5) (brace_read (nest d) (index d) place expand b.1 b.0 h.1 b.4 h.6)
        | inr (inr b) ↦ bare_read (nest d) (index d) place expand parts start h.1 (start_begins place h.0 h.3) b.0 (parts_read parts d (Bare place) start h.1 b.1) h.6
      ] in
      let first = word_read (nest d) (index d) place expand parts h.0 h.1 h.3 (prefixed_read (nest d) (index d) place expand parts h.0 h.1 h.4 plain) in
      let others = words_read rest d place h.1 v h.7 in
      reads_then (λ x. x) (λ x. word expand parts (join_words rest x)) read t h.0 v blanks (reads_then (word expand parts) (join_words rest) read h.0 h.1 v first others)

  pub parts_read : (parts : Parts) (d : ℕ) (m : Mode) (t v : List ℕ) → PartsThen parts d m t v → Reads (join_parts parts) (parts_at (nest d) (index d) m) t v
  parts_read no_part d m t v h = reads_none (parts_at (nest d) (index d) m) t v h
  parts_read (char c rest) d m t v (inl h) =
      rw h.1 (reads_then (char c) (join_parts rest) (parts_at (nest d) (index d) m) (c ∷ h.0) h.0 v (char_read (nest d) (index d) m c h.0 h.2) (parts_read rest d m h.0 v h.3))
  parts_read (char c rest) d m t v (inr h) =
      rw h.2 (reads_then (char c) (join_parts rest) (parts_at (nest d) (index d) m) (92 ∷ h.0) h.1 v (escape_read (nest d) (index d) m c h.0 h.1 h.3) (parts_read rest d m h.1 v h.4))
  parts_read (variable name rest) d m t v h =
      let first : Reads (variable name) (parts_at (nest d) (index d) m) (36 ∷ h.0) h.1 = elim h.3 [
        | inl n ↦ scalar_read (nest d) (index d) m name h.0 h.1 n.0 n.1
        | inr n ↦ braced_name_read (nest d) (index d) m name h.0 h.1 n
      ] in
      rw h.2 (reads_then (variable name) (join_parts rest) (parts_at (nest d) (index d) m) (36 ∷ h.0) h.1 v first (parts_read rest d m h.1 v h.4))
  parts_read (element name index' rest) zero m t v h = absurd h
  parts_read (element name index' rest) (suc d) m t v h =
      rw h.3 (reads_then (element name index') (join_parts rest) (parts_at (nest (suc d)) (index (suc d)) m) (36 ∷ h.0) h.2 v
      (element_read d m index' name h.0 h.1 h.2 h.4 (parts_read index' d (Index (syntax_of m)) h.1 (41 ∷ h.2) h.5)) (parts_read rest (suc d) m h.2 v h.6))
  parts_read (nested script rest) zero m t v h = absurd h
  parts_read (nested script rest) (suc d) m t v h =
      rw h.2 (reads_then (nested script) (join_parts rest) (parts_at (nest (suc d)) (index (suc d)) m) (91 ∷ h.0) h.1 v
      (nested_read d m script h.0 h.1 (script_reads script d Brackets h.0 (93 ∷ h.1) h.3)) (parts_read rest (suc d) m h.1 v h.4))
