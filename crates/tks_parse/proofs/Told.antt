-- What is read is spelled so.
use Rattle.std.proofs.Common.{◌≡◌, ℕ, zero, suc, ◌+◌, ◌-◌, Bool, true, false, cond, eqb, List, [], ◌∷◌, ◌++◌, take, drop, Option, Some, None, refl, sym, ap, ◌∙◌, subst, arith, inl, inr, append-nil}
use Rattle.std.specs.Prelude.{◌||◌, ◌⊎◌}
use Rattle.std.specs.List.{AllByRecursion, prefix_len}
use Rattle.std.proofs.lemmas.Bool.{eqb-true, eqb-false}
use Rattle.std.proofs.lemmas.List.{drop-drop, take-append-drop}
use Rattle.std.proofs.lemmas.List.Folds.{length-prefix_len}
use Rattle.tks_text.specs.Run.{Step, stop, fails, takes, Run, ended, run, after_step}
use Rattle.tks_text.specs.declared.fault.ScriptFault.{ScriptFault}
use Rattle.tks_parse.specs.Tree.{Script, no_command, faulty, command, Words, no_word, word, Parts, no_part, char, variable, element, nested, chars}
use Rattle.tks_parse.specs.Class.{is_separator, is_name_char, is_no_close_brace, is_fold, ends_script, ends_word, ends_word_at, ends_command_at, ends_parts, is_expanded}
use Rattle.tks_parse.specs.Fault.{missing_close_brace, missing_close_quote, missing_close_bracket, text_after_close_quote, text_after_close_brace, bad_escape, too_deeply_nested, missing_close_of_variable, told, syntax_of}
use Rattle.tks_text.proofs.Escaped.{some_escape, no_escape}
use Rattle.tks_text.specs.Backslash.{escape, is_blank}
use Rattle.tks_parse.specs.Braces.{comment_len, braced_len, verbatim}
use Rattle.tks_parse.specs.Reading.{escape_step, close_name, braced_name_step, close_index, close_script, close_text, braced_at, ended_word, closed_word, behind_bytes, nested_step, index_step, named_step, variable_step, part_step, parts_at, quoted_at, bare_word, plain_word, prefixed_word, word_step, words_at, words_command, command_step, commands_at, nest, index, closed, script_of}
use Rattle.tks_text.specs.Text.{BeginsNot}
use Rattle.tks_parse.specs.Script.{BlanksThen, GapThen, BeginsCommand, NameThen, BracedNameThen, BracedThen, StandsForItself, EscapeThen, word_start, WordThen, ScriptThen, WordsThen, PartsThen, PartFails, PartsFail, WordFails, WordsFail, ScriptFails, BracketsFail, IndexFails, Spells}
use Rattle.tks_parse.specs.declared.mode.Place.{Place}
use Rattle.tks_parse.specs.declared.mode.Place.TheVariants.{Alone, Brackets}
use Rattle.tks_parse.specs.declared.mode.Mode.{Mode}
use Rattle.tks_parse.specs.declared.mode.Mode.TheVariants.{Bare, Quoted, Index}
use Rattle.tks_parse.specs.declared.syntax.Syntax.{Syntax}
use Rattle.tks_parse.specs.declared.syntax.Syntax.TheVariants.{Scripts}
use Rattle.tks_text.proofs.Prefixes.{prefix_passes}
use Rattle.tks_parse.proofs.Tests.{if_case, not_false, and_cases, drop_one, dollar_goes_on, ends_parts_at, bare_end, taken_some, pred_drop, end_at_word, start_begins}
use Rattle.tks_parse.proofs.Braced.{comment_told, braced_told, unclosed_told, verbatim_told}

-- ---- parts

-- what a script behind a `[` came to
pub data BracketCase : ℕ → List ℕ → Step ScriptFault Parts → Type 0 where
  bracket_is : (d : ℕ) (u : List ℕ) (script : Script) (n : ℕ) (w : List ℕ) → ScriptThen script d Brackets u (93 ∷ w) → drop n u ≡ w → BracketCase (suc d) u (takes (nested script) n)
  bracket_fails : (d : ℕ) (u : List ℕ) (f : ScriptFault) → BracketsFail d u f → BracketCase d u (fails f)

-- what an index came to, behind a name of n characters and a `(`
pub data IndexCase (syntax : Syntax) (name : List ℕ) (n : ℕ) : ℕ → List ℕ → Step ScriptFault Parts → Type 0 where
  index_is : (d : ℕ) (s : List ℕ) (parts : Parts) (k : ℕ) (w : List ℕ) → PartsThen parts d (Index syntax) s (41 ∷ w) → drop k s ≡ 41 ∷ w → IndexCase syntax name n (suc d) s (takes (element name parts) (n + 1 + k + 1))
  index_fails : (d : ℕ) (s : List ℕ) (f : ScriptFault) → IndexFails d syntax s f → IndexCase syntax name n d s (fails f)

-- what a step over parts came to
pub data PartCase (d : ℕ) (m : Mode) (c : ℕ) (u : List ℕ) : Step ScriptFault Parts → Type 0 where
  at_stop : ends_parts m c u ≡ true → PartCase d m c u stop
  at_char : StandsForItself m c u → PartCase d m c u (takes (char c) 0)
  at_escape : (x n : ℕ) (w : List ℕ) → c ≡ 92 → EscapeThen m x u w → drop n u ≡ w → PartCase d m c u (takes (char x) n)
  at_variable : (name : List ℕ) (n : ℕ) (w : List ℕ) → c ≡ 36 → ((NameThen name u w × BeginsNot (λ x. eqb x 40) w) ⊎ BracedNameThen name u w) → drop n u ≡ w → PartCase d m c u (takes (variable name) n)
  at_bracket : (s : Step ScriptFault Parts) → c ≡ 91 → BracketCase d u s → PartCase d m c u s
  at_index : (s : Step ScriptFault Parts) (name : List ℕ) (n : ℕ) (v : List ℕ) → c ≡ 36 → NameThen name u (40 ∷ v) → drop n u ≡ 40 ∷ v → IndexCase (syntax_of m) name n d v s → PartCase d m c u s
  at_fault : (f : ScriptFault) → PartFails (BracketsFail d) (IndexFails d) m (c ∷ u) f → PartCase d m c u (fails f)

abbrev pub Bracketed : ℕ → Type 0
Bracketed d = (u : List ℕ) → BracketCase d u (nested_step (nest d) u)

abbrev pub Indexes : ℕ → Type 0
Indexes d = (syntax : Syntax) (name : List ℕ) (n : ℕ) (s : List ℕ) → IndexCase syntax name n d s (index_step (index d) syntax name n s)

-- the name is behind the `{` of `${`
close_name_case : (d : ℕ) (m : Mode) (u name : List ℕ) (n : ℕ) (w : List ℕ) → AllByRecursion (λ c. is_no_close_brace c ≡ true) name → BeginsNot is_no_close_brace w → u ≡ name ++ w → drop n u ≡ w → PartCase d m 36 (123 ∷ u) (close_name (syntax_of m) name n w)
close_name_case d m u name n [] each b is e =
    at_fault (told (syntax_of m) missing_close_of_variable) (PartFails.name_unclosed u (rw (is, append-nil name) each))
close_name_case d m u name n (c ∷ w) each b is e =
    let closer : c ≡ 125 = eqb-true c 125 (not_false (eqb c 125) b) in
    let two : n + 2 ≡ suc (suc n) = omega arith in
    at_variable name (n + 2) w refl
    (inr (record { each = each; is = ap (λ x. 123 ∷ x) (is ∙ ap (λ x. name ++ x ∷ w) closer) }))
    (ap (λ k. drop k (123 ∷ u)) two ∙ drop_one n u w c e)

braced_name_case : (d : ℕ) (m : Mode) (u : List ℕ) → BeginsNot is_name_char u → PartCase d m 36 u (braced_name_step (syntax_of m) u)
unfolding braced_name_step
braced_name_case d m [] b = at_char (record { inside = dollar_goes_on m []; plain = refl; no_variable = λ _. tt })
braced_name_case d m (c ∷ u) b =
    let n = prefix_len is_no_close_brace u in
    let told = prefix_passes is_no_close_brace u in
    if_case (PartCase d m 36 (c ∷ u)) (eqb c 123) _ _
    (λ e. rw (eqb-true c 123 e) (close_name_case d m u (take n u) n (drop n u) told.0 told.1 (sym (take-append-drop n u)) refl))
    (λ e. at_char (record { inside = dollar_goes_on m (c ∷ u); plain = refl; no_variable = λ _. rw (b, e) refl }))

named_case : (d : ℕ) (m : Mode) (u name : List ℕ) (n : ℕ) (w : List ℕ) → Indexes d → NameThen name u w → drop n u ≡ w → PartCase d m 36 u (named_step (index d) (syntax_of m) name n w)
unfolding named_step
named_case d m u name n [] i h e = at_variable name n [] refl (inl (h, tt)) e
named_case d m u name n (c ∷ w) i h e =
    if_case (PartCase d m 36 u) (eqb c 40) _ _
    (λ k. let is : c ≡ 40 = eqb-true c 40 k in at_index (index_step (index d) (syntax_of m) name n w) name n w refl (subst (λ x. NameThen name u (x ∷ w)) is h) (e ∙ ap (λ x. x ∷ w) is) (i (syntax_of m) name n w))
    (λ k. at_variable name n (c ∷ w) refl (inl (h, k)) e)

variable_case : (d : ℕ) (m : Mode) (u : List ℕ) → Indexes d → PartCase d m 36 u (variable_step (index d) (syntax_of m) u)
unfolding variable_step
variable_case d m u i =
    let n = prefix_len is_name_char u in
    let told = prefix_passes is_name_char u in
    if_case (PartCase d m 36 u) (eqb n 0) _ _
    (λ e. braced_name_case d m u (subst (λ k. BeginsNot is_name_char (drop k u)) (eqb-true n 0 e) told.1))
    (λ e. named_case d m u (take n u) n (drop n u) i
    (record { some = omega (arith, length-prefix_len is_name_char u, eqb-false n 0 e); each = told.0; is = sym (take-append-drop n u); longest = told.1 }) refl)

escape_case_of : (d : ℕ) (m : Mode) (u : List ℕ) (o : Option (ℕ × ℕ)) → ends_parts m 92 u ≡ false → escape u ≡ o → PartCase d m 92 u (escape_step (syntax_of m) o)
escape_case_of d m u None s e = let h = no_escape u e in at_fault (told (syntax_of m) bad_escape) (PartFails.outside_texts u h.c h.n s h.is h.no_text)
escape_case_of d m u (Some x) s e = at_escape x.0 x.1 (drop x.1 u) refl (let h = some_escape u x.0 x.1 e in record { inside = s; taken = x.1; is = h.0; text = h.1; rest = refl }) refl

escape_case : (d : ℕ) (m : Mode) (u : List ℕ) → ends_parts m 92 u ≡ false → PartCase d m 92 u (escape_step (syntax_of m) (escape u))
escape_case d m u s = escape_case_of d m u (escape u) s refl

pub part_case : (d : ℕ) (m : Mode) (c : ℕ) (u : List ℕ) → Bracketed d → Indexes d → PartCase d m c u (part_step (nest d) (index d) m (c ∷ u))
unfolding part_step
part_case d m c u b i =
    if_case (PartCase d m c u) (ends_parts m c u) _ _ (λ s. at_stop s)
    (λ s. if_case (PartCase d m c u) (eqb c 36) _ _
    (λ e. subst (λ x. PartCase d m x u (variable_step (index d) (syntax_of m) u)) (sym (eqb-true c 36 e)) (variable_case d m u i))
    (λ e. if_case (PartCase d m c u) (eqb c 91) _ _
    (λ k. at_bracket (nested_step (nest d) u) (eqb-true c 91 k) (b u))
    (λ k. if_case (PartCase d m c u) (eqb c 92) _ _
    (λ q. let is : c ≡ 92 = eqb-true c 92 q in subst (λ x. PartCase d m x u (escape_step (syntax_of m) (escape u))) (sym is) (escape_case d m u (subst (λ x. ends_parts m x u ≡ false) is s)))
    (λ q. at_char (record { inside = s; plain = rw (k, q) refl; no_variable = λ is. absurd (eqb-false c 36 e is) })))))

abbrev pub PartsOutcome : ℕ → Mode → List ℕ → Option ScriptFault → Parts → List ℕ → Type 0
PartsOutcome d m t None ps v = PartsThen ps d m t v × (ends_parts_at m v ≡ true)
PartsOutcome d m t (Some f) ps v = PartsFail (BracketsFail d) (IndexFails d) d m t f

char_outcome : (d : ℕ) (m : Mode) (c : ℕ) (u : List ℕ) (o : Option ScriptFault) (ps : Parts) (v : List ℕ) → StandsForItself m c u → PartsOutcome d m u o ps v → PartsOutcome d m (c ∷ u) o (char c ps) v
char_outcome d m c u None ps v s h = (inl (u, refl, s, h.0), h.1)
char_outcome d m c u (Some f) ps v s h = (char c h.0, h.1, inl (u, refl, s, h.2), h.3)

escape_outcome : (d : ℕ) (m : Mode) (c x : ℕ) (u w : List ℕ) (o : Option ScriptFault) (ps : Parts) (v : List ℕ) → c ≡ 92 → EscapeThen m x u w → PartsOutcome d m w o ps v → PartsOutcome d m (c ∷ u) o (char x ps) v
escape_outcome d m c x u w None ps v e s h = (inr (u, w, ap (λ y. y ∷ u) e, s, h.0), h.1)
escape_outcome d m c x u w (Some f) ps v e s h = (char x h.0, h.1, inr (u, w, ap (λ y. y ∷ u) e, s, h.2), h.3)

variable_outcome : (d : ℕ) (m : Mode) (c : ℕ) (name u w : List ℕ) (o : Option ScriptFault) (ps : Parts) (v : List ℕ) → c ≡ 36 → ((NameThen name u w × BeginsNot (λ x. eqb x 40) w) ⊎ BracedNameThen name u w) → PartsOutcome d m w o ps v → PartsOutcome d m (c ∷ u) o (variable name ps) v
variable_outcome d m c name u w None ps v e s h = ((u, w, ap (λ y. y ∷ u) e, s, h.0), h.1)
variable_outcome d m c name u w (Some f) ps v e s h = (variable name h.0, h.1, (u, w, ap (λ y. y ∷ u) e, s, h.2), h.3)

nested_outcome : (d : ℕ) (m : Mode) (c : ℕ) (script : Script) (u w : List ℕ) (o : Option ScriptFault) (ps : Parts) (v : List ℕ) → c ≡ 91 → ScriptThen script d Brackets u (93 ∷ w) → PartsOutcome (suc d) m w o ps v → PartsOutcome (suc d) m (c ∷ u) o (nested script ps) v
nested_outcome d m c script u w None ps v e s h = ((u, w, ap (λ y. y ∷ u) e, s, h.0), h.1)
nested_outcome d m c script u w (Some f) ps v e s h = (nested script h.0, h.1, (u, w, ap (λ y. y ∷ u) e, s, h.2), h.3)

element_outcome : (d : ℕ) (m : Mode) (c : ℕ) (name : List ℕ) (parts : Parts) (u s w : List ℕ) (o : Option ScriptFault) (ps : Parts) (v : List ℕ) → c ≡ 36 → NameThen name u (40 ∷ s) → PartsThen parts d (Index (syntax_of m)) s (41 ∷ w) → PartsOutcome (suc d) m w o ps v → PartsOutcome (suc d) m (c ∷ u) o (element name parts ps) v
element_outcome d m c name parts u s w None ps v e n p h = ((u, s, w, ap (λ y. y ∷ u) e, n, p, h.0), h.1)
element_outcome d m c name parts u s w (Some f) ps v e n p h = (element name parts h.0, h.1, (u, s, w, ap (λ y. y ∷ u) e, n, p, h.2), h.3)

abbrev pub PartsTold : ℕ → Mode → List ℕ → List ℕ → Run ScriptFault Parts → Type 0
PartsTold d m t u r = PartsOutcome d m t r.fault r.items (drop r.taken u)

after_bracket : (d : ℕ) (m : Mode) (c : ℕ) (u : List ℕ) (s : Step ScriptFault Parts) (go : ℕ → Run ScriptFault Parts) → c ≡ 91 → BracketCase d u s → ((k : ℕ) → PartsTold d m (drop k u) u (go k)) → PartsTold d m (c ∷ u) (c ∷ u) (after_step no_part s go)
after_bracket _ m c _ _ go e (bracket_is d u script n w h r) ih = nested_outcome d m c script u w (go n).fault (go n).items (drop (go n).taken u) e h (subst (λ x. PartsTold (suc d) m x u (go n)) r (ih n))
after_bracket _ m c _ _ go e (bracket_fails d u f h) ih = (no_part, 91 ∷ u, ap (λ x. x ∷ u) e, PartFails.in_brackets u f h)

pub index_rest : (u s w : List ℕ) (n k : ℕ) → drop n u ≡ 40 ∷ s → drop k s ≡ 41 ∷ w → drop (n + 1 + k + 1) u ≡ w
index_rest u s w n k e r =
    let whole : n + 1 + k + 1 ≡ n + suc (suc k) = omega arith in
    ap (λ i. drop i u) whole ∙ sym (drop-drop (suc (suc k)) n u) ∙ ap (drop (suc (suc k))) e ∙ drop_one k s w 41 r

after_index : (name : List ℕ) (n d : ℕ) (m : Mode) (c : ℕ) (u v : List ℕ) (s : Step ScriptFault Parts) (go : ℕ → Run ScriptFault Parts) → c ≡ 36 → NameThen name u (40 ∷ v) → drop n u ≡ 40 ∷ v → IndexCase (syntax_of m) name n d v s → ((k : ℕ) → PartsTold d m (drop k u) u (go k)) → PartsTold d m (c ∷ u) (c ∷ u) (after_step no_part s go)
after_index name n _ m c u _ _ go e h r (index_is d s parts k w p q) ih =
    let at = n + 1 + k + 1 in
    element_outcome d m c name parts u s w (go at).fault (go at).items (drop (go at).taken u) e h p (subst (λ x. PartsTold (suc d) m x u (go at)) (index_rest u s w n k r q) (ih at))
after_index name n _ m c u _ _ go e h r (index_fails d s f p) ih = (no_part, 36 ∷ u, ap (λ x. x ∷ u) e, PartFails.in_index name u s f h p)

after_part : (d : ℕ) (m : Mode) (c : ℕ) (u : List ℕ) (s : Step ScriptFault Parts) (go : ℕ → Run ScriptFault Parts) → PartCase d m c u s → ((k : ℕ) → PartsTold d m (drop k u) u (go k)) → PartsTold d m (c ∷ u) (c ∷ u) (after_step no_part s go)
after_part d m c u _ go (at_stop s) ih = (refl, s)
after_part d m c u _ go (at_char s) ih = char_outcome d m c u (go 0).fault (go 0).items (drop (go 0).taken u) s (ih 0)
after_part d m c u _ go (at_escape x n w e s r) ih = escape_outcome d m c x u w (go n).fault (go n).items (drop (go n).taken u) e s (subst (λ y. PartsTold d m y u (go n)) r (ih n))
after_part d m c u _ go (at_variable name n w e s r) ih = variable_outcome d m c name u w (go n).fault (go n).items (drop (go n).taken u) e s (subst (λ y. PartsTold d m y u (go n)) r (ih n))
after_part d m c u _ go (at_bracket s e b) ih = after_bracket d m c u s go e b ih
after_part d m c u _ go (at_index s name n v e h r b) ih = after_index name n d m c u v s go e h r b ih
after_part d m c u _ go (at_fault f h) ih = (no_part, c ∷ u, refl, h)

run_parts : (d : ℕ) (m : Mode) → Bracketed d → Indexes d → (k : ℕ) (t : List ℕ) → PartsTold d m (drop k t) t (run no_part (part_step (nest d) (index d) m) k t)
run_parts d m b i zero [] = (refl, refl)
run_parts d m b i (suc k) [] = (refl, refl)
run_parts d m b i (suc k) (c ∷ u) = run_parts d m b i k u
run_parts d m b i zero (c ∷ u) = after_part d m c u (part_step (nest d) (index d) m (c ∷ u)) (λ k. run no_part (part_step (nest d) (index d) m) k u) (part_case d m c u b i) (λ k. run_parts d m b i k u)

pub parts_told : (d : ℕ) (m : Mode) → Bracketed d → Indexes d → (t : List ℕ) → PartsTold d m t t (parts_at (nest d) (index d) m t)
unfolding parts_at
parts_told d m b i t = run_parts d m b i 0 t

-- ---- words

-- what a word came to, from behind `{*}`
data PlainCase (d : ℕ) (place : Place) (expand : Bool) (s : List ℕ) : Step ScriptFault Words → Type 0 where
  plain_is : (ps : Parts) (n : ℕ) (y : List ℕ) → drop (suc n) s ≡ y → WordThen ps (λ m. PartsThen ps d m) place s y → ends_word_at place y ≡ true → PlainCase d place expand s (takes (word expand ps) n)
  plain_fails : (f : ScriptFault) → WordFails (BracketsFail d) (IndexFails d) d place s f → PlainCase d place expand s (fails f)

close_rest : (n : ℕ) (u y : List ℕ) (c : ℕ) → drop n u ≡ c ∷ y → drop (n + 1) u ≡ y
close_rest n u y c e = let one : n + 1 ≡ suc n = omega arith in ap (λ k. drop k u) one ∙ drop_one n u y c e

-- a word in quotes or braces, behind whose close y stands
ended_case : (d : ℕ) (place : Place) (expand : Bool) (c n : ℕ) (u y : List ℕ) (ps : Parts) (f : ScriptFault) → drop n u ≡ y → WordThen ps (λ m. PartsThen ps d m) place (c ∷ u) y → (ends_word_at place y ≡ false → WordFails (BracketsFail d) (IndexFails d) d place (c ∷ u) f) → PlainCase d place expand (c ∷ u) (ended_word place expand f ps n (drop n u))
ended_case d place expand c n u y ps f e w wrong =
    if_case (PlainCase d place expand (c ∷ u)) (ends_word_at place (drop n u)) (takes (word expand ps) n) (fails f)
    (λ k. plain_is ps n y e w (ap (ends_word_at place) (sym e) ∙ k))
    (λ k. plain_fails f (wrong (ap (ends_word_at place) (sym e) ∙ k)))

quoted_case : (d : ℕ) (place : Place) (expand : Bool) (u : List ℕ) (o : Option ScriptFault) (ps : Parts) (n : ℕ) (v : List ℕ) → drop n u ≡ v → PartsOutcome d (Quoted Scripts) u o ps v → PlainCase d place expand (34 ∷ u) (closed_word place expand text_after_close_quote u (elim o [ None ↦ close_text missing_close_quote ps n v | Some f ↦ ended no_part (Some f) ]))
quoted_case d place expand u (Some f) ps n v e h = plain_fails f (WordFails.in_quotes u f h)
quoted_case d place expand u None ps n [] e h = plain_fails missing_close_quote (WordFails.quote_unclosed u ps h.0)
quoted_case d place expand u None ps n (c ∷ z) e h =
    let quote : c ≡ 34 = eqb-true c 34 h.1 in
    let inside = subst (λ x. PartsThen ps d (Quoted Scripts) u (x ∷ z)) quote h.0 in
    ended_case d place expand 34 (n + 1) u z ps text_after_close_quote (close_rest n u z c e) (inl (u, refl, inside)) (λ k. WordFails.behind_quote u z ps inside k)

braced_case : (d : ℕ) (place : Place) (expand : Bool) (u inside : List ℕ) (n : ℕ) (v : List ℕ) → drop n u ≡ v → (v ≡ [] → (inside w : List ℕ) → BracedThen inside u w → ⊥) → ((c : ℕ) (w : List ℕ) → v ≡ c ∷ w → BracedThen inside u w) → PlainCase d place expand (123 ∷ u) (closed_word place expand text_after_close_brace u (close_text missing_close_brace (chars (verbatim inside) no_part) n v))
braced_case d place expand u inside n [] e none some = plain_fails missing_close_brace (WordFails.brace_unclosed u (none refl))
braced_case d place expand u inside n (c ∷ z) e none some =
    let braced = some c z refl in
    ended_case d place expand 123 (n + 1) u z (chars (verbatim inside) no_part) text_after_close_brace (close_rest n u z c e) (inr (inl (u, inside, verbatim inside, refl, braced, verbatim_told inside, refl))) (λ k. WordFails.behind_brace u inside z braced k)

bare_case : (d : ℕ) (place : Place) (expand : Bool) (c : ℕ) (u : List ℕ) (o : Option ScriptFault) (ps : Parts) (n : ℕ) (v : List ℕ) → ends_word_at place (c ∷ u) ≡ false → (eqb c 34 || eqb c 123) ≡ false → drop n (c ∷ u) ≡ v → PartsOutcome d (Bare place) (c ∷ u) o ps v → PlainCase d place expand (c ∷ u) (elim o [ None ↦ takes (word expand ps) (n - 1) | Some f ↦ fails f ])
bare_case d place expand c u None ps n v b q e h =
    let end : ends_word_at place v ≡ true = bare_end place v ∙ h.1 in
    plain_is ps (n - 1) v (pred_drop n c u v (taken_some place n (c ∷ u) v b end e) e) (inr (inr (q, h.0))) end
bare_case d place expand c u (Some f) ps n v b q e h = plain_fails f (WordFails.bare (c ∷ u) f q h)

plain_case : (d : ℕ) (place : Place) (expand : Bool) (s : List ℕ) → Bracketed d → Indexes d → ends_word_at place s ≡ false → PlainCase d place expand s (plain_word (nest d) (index d) place expand s)
unfolding plain_word quoted_at braced_at bare_word
plain_case d place expand [] b i h = absurd cc
plain_case d place expand (c ∷ u) b i h =
    let p = parts_at (nest d) (index d) (Quoted Scripts) u in
    let q = parts_at (nest d) (index d) (Bare place) (c ∷ u) in
    let n = braced_len 0 false u in
    if_case (PlainCase d place expand (c ∷ u)) (eqb c 34) _ _
    (λ k. rw (eqb-true c 34 k) (quoted_case d place expand u p.fault p.items p.taken (drop p.taken u) refl (parts_told d (Quoted Scripts) b i u)))
    (λ k. if_case (PlainCase d place expand (c ∷ u)) (eqb c 123) _ _
    (λ j. rw (eqb-true c 123 j) (braced_case d place expand u (take n u) n (drop n u) refl (λ e. unclosed_told u e) (λ x w e. braced_told u x w e)))
    (λ j. bare_case d place expand c u q.fault q.items q.taken (drop q.taken (c ∷ u)) h (rw (k, j) refl) refl (parts_told d (Bare place) b i (c ∷ u))))

-- what a step over words came to
data WordCase (d : ℕ) (place : Place) (c : ℕ) (u : List ℕ) : Step ScriptFault Words → Type 0 where
  at_blank : is_blank c ≡ true → WordCase d place c u (takes (λ ws. ws) 0)
  at_fold : is_fold c u ≡ true → WordCase d place c u (takes (λ ws. ws) 1)
  at_word_end : ends_command_at place (c ∷ u) ≡ true → WordCase d place c u stop
  at_word : (expand : Bool) (ps : Parts) (n : ℕ) (y : List ℕ) → drop n u ≡ y → ends_word_at place (c ∷ u) ≡ false → is_expanded place (c ∷ u) ≡ expand → WordThen ps (λ m. PartsThen ps d m) place (word_start place (c ∷ u)) y → ends_word_at place y ≡ true → WordCase d place c u (takes (word expand ps) n)
  at_word_fault : (f : ScriptFault) → ends_word_at place (c ∷ u) ≡ false → WordFails (BracketsFail d) (IndexFails d) d place (word_start place (c ∷ u)) f → WordCase d place c u (fails f)

-- a word behind n bytes, which stand before it
from_plain : (d : ℕ) (place : Place) (c : ℕ) (u : List ℕ) (expand : Bool) (k : ℕ) (s : Step ScriptFault Words) → ends_word_at place (c ∷ u) ≡ false → is_expanded place (c ∷ u) ≡ expand → word_start place (c ∷ u) ≡ drop k (c ∷ u) → PlainCase d place expand (drop k (c ∷ u)) s → WordCase d place c u (behind_bytes k s)
from_plain d place c u expand k _ h e is (plain_is ps n y r w end) =
    let one : suc (k + n) ≡ k + suc n = omega arith in
    at_word expand ps (k + n) y (ap (λ i. drop i (c ∷ u)) one ∙ sym (drop-drop (suc n) k (c ∷ u)) ∙ r) h e (subst (λ x. WordThen ps (λ m. PartsThen ps d m) place x y) (sym is) w) end
from_plain d place c u expand k _ h e is (plain_fails f w) =
    at_word_fault f h (subst (λ x. WordFails (BracketsFail d) (IndexFails d) d place x f) (sym is) w)

behind_none : (s : Step ScriptFault Words) → behind_bytes 0 s ≡ s
behind_none stop = refl
behind_none (fails f) = refl
behind_none (takes g k) = let zero' : 0 + k ≡ k = omega arith in ap (takes g) zero'

prefixed_case : (d : ℕ) (place : Place) (c : ℕ) (u : List ℕ) → Bracketed d → Indexes d → ends_word_at place (c ∷ u) ≡ false → WordCase d place c u (prefixed_word (nest d) (index d) place (c ∷ u))
unfolding prefixed_word
prefixed_case d place c u b i h =
    let begins = start_begins place (c ∷ u) h in
    if_case (WordCase d place c u) (is_expanded place (c ∷ u)) _ _
    (λ e. let from : word_start place (c ∷ u) ≡ drop 3 (c ∷ u) = ap (λ (x : Bool). cond x (drop 3 (c ∷ u)) (c ∷ u)) e in
    from_plain d place c u true 3 (plain_word (nest d) (index d) place true (drop 3 (c ∷ u))) h e from (plain_case d place true (drop 3 (c ∷ u)) b i (ap (ends_word_at place) (sym from) ∙ begins)))
    (λ e. let from : word_start place (c ∷ u) ≡ c ∷ u = ap (λ (x : Bool). cond x (drop 3 (c ∷ u)) (c ∷ u)) e in
    let plain = plain_word (nest d) (index d) place false (c ∷ u) in
    subst (WordCase d place c u) (behind_none plain) (from_plain d place c u false 0 plain h e from (plain_case d place false (c ∷ u) b i h)))

word_end : (place : Place) (c : ℕ) → is_blank c ≡ false → ends_word place c ≡ true → (is_separator c || ends_script place c) ≡ true
word_end place c b e = rw b at e

word_case : (d : ℕ) (place : Place) (c : ℕ) (u : List ℕ) → Bracketed d → Indexes d → WordCase d place c u (word_step (nest d) (index d) place (c ∷ u))
unfolding word_step
word_case d place c u b i =
    if_case (WordCase d place c u) (is_blank c) _ _ (λ k. at_blank k)
    (λ k. if_case (WordCase d place c u) (is_fold c u) _ _ (λ f. at_fold f)
    (λ f. if_case (WordCase d place c u) (ends_word place c) _ _ (λ e. at_word_end (word_end place c k e))
    (λ e. prefixed_case d place c u b i (rw (e, f) refl))))

abbrev WordsOutcome : ℕ → Place → List ℕ → Option ScriptFault → Words → List ℕ → Type 0
WordsOutcome d place t None ws v = WordsThen ws d place t v × (ends_command_at place v ≡ true)
WordsOutcome d place t (Some f) ws v = WordsFail (BracketsFail d) (IndexFails d) d place t f

words_front : (ws : Words) (d : ℕ) (place : Place) (t u v : List ℕ) → ((w : List ℕ) → BlanksThen u w → BlanksThen t w) → WordsThen ws d place u v → WordsThen ws d place t v
words_front no_word d place t u v front h = front v h
words_front (word e ps ws) d place t u v front h = (h.0, h.1, front h.0 h.2, h.3, h.4, h.5, h.6, h.7)

-- what stands behind white space
front_outcome : (d : ℕ) (place : Place) (t u : List ℕ) (o : Option ScriptFault) (ws : Words) (v : List ℕ) → ((w : List ℕ) → BlanksThen u w → BlanksThen t w) → WordsOutcome d place u o ws v → WordsOutcome d place t o ws v
front_outcome d place t u None ws v front h = (words_front ws d place t u v front h.0, h.1)
front_outcome d place t u (Some f) ws v front h = (h.0, h.1, words_front h.0 d place t u h.1 front h.2, h.3, h.4)

word_outcome : (d : ℕ) (place : Place) (t : List ℕ) (expand : Bool) (ps : Parts) (y : List ℕ) (o : Option ScriptFault) (ws : Words) (v : List ℕ) → ends_word_at place t ≡ false → is_expanded place t ≡ expand → WordThen ps (λ m. PartsThen ps d m) place (word_start place t) y → ends_word_at place y ≡ true → WordsOutcome d place y o ws v → WordsOutcome d place t o (word expand ps ws) v
word_outcome d place t expand ps y None ws v b e w a h = ((t, y, BlanksThen.no_blank t, b, e, w, a, h.0), h.1)
word_outcome d place t expand ps y (Some f) ws v b e w a h = (word expand ps h.0, h.1, (t, y, BlanksThen.no_blank t, b, e, w, a, h.2), h.3, h.4)

fold_is : (c : ℕ) (u : List ℕ) → is_fold c u ≡ true → (c ≡ 92) × (u ≡ 10 ∷ drop 1 u)
fold_is c [] e = let both = and_cases (eqb c 92) false e in absurd cc
fold_is c (d ∷ u) e = let both = and_cases (eqb c 92) (eqb d 10) e in (eqb-true c 92 both.0, ap (λ x. x ∷ u) (eqb-true d 10 both.1))

fold_blanks : (c : ℕ) (u w : List ℕ) → is_fold c u ≡ true → BlanksThen (drop 1 u) w → BlanksThen (c ∷ u) w
fold_blanks c u w e h = let is = fold_is c u e in rw (is.0, is.1) (BlanksThen.quoted_newline (drop 1 u) w h)

abbrev WordsTold : ℕ → Place → List ℕ → List ℕ → Run ScriptFault Words → Type 0
WordsTold d place t u r = WordsOutcome d place t r.fault r.items (drop r.taken u)

after_word : (d : ℕ) (place : Place) (c : ℕ) (u : List ℕ) (s : Step ScriptFault Words) (go : ℕ → Run ScriptFault Words) → WordCase d place c u s → ((k : ℕ) → WordsTold d place (drop k u) u (go k)) → WordsTold d place (c ∷ u) (c ∷ u) (after_step no_word s go)
after_word d place c u _ go (at_blank b) ih = front_outcome d place (c ∷ u) u (go 0).fault (go 0).items (drop (go 0).taken u) (λ w h. BlanksThen.blank c u w b h) (ih 0)
after_word d place c u _ go (at_fold e) ih = front_outcome d place (c ∷ u) (drop 1 u) (go 1).fault (go 1).items (drop (go 1).taken u) (λ w h. fold_blanks c u w e h) (ih 1)
after_word d place c u _ go (at_word_end e) ih = (BlanksThen.no_blank (c ∷ u), e)
after_word d place c u _ go (at_word expand ps n y r b e w a) ih = word_outcome d place (c ∷ u) expand ps y (go n).fault (go n).items (drop (go n).taken u) b e w a (subst (λ x. WordsTold d place x u (go n)) r (ih n))
after_word d place c u _ go (at_word_fault f b h) ih = (no_word, c ∷ u, BlanksThen.no_blank (c ∷ u), b, h)

run_words : (d : ℕ) (place : Place) → Bracketed d → Indexes d → (k : ℕ) (t : List ℕ) → WordsTold d place (drop k t) t (run no_word (word_step (nest d) (index d) place) k t)
run_words d place b i zero [] = (BlanksThen.no_blank [], refl)
run_words d place b i (suc k) [] = (BlanksThen.no_blank [], refl)
run_words d place b i (suc k) (c ∷ u) = run_words d place b i k u
run_words d place b i zero (c ∷ u) = after_word d place c u (word_step (nest d) (index d) place (c ∷ u)) (λ k. run no_word (word_step (nest d) (index d) place) k u) (word_case d place c u b i) (λ k. run_words d place b i k u)

words_told : (d : ℕ) (place : Place) → Bracketed d → Indexes d → (t : List ℕ) → WordsTold d place t t (words_at (nest d) (index d) place t)
unfolding words_at
words_told d place b i t = run_words d place b i 0 t

-- ---- commands

-- what a step over commands came to
data CommandCase (d : ℕ) (place : Place) (c : ℕ) (u : List ℕ) : Step ScriptFault Script → Type 0 where
  at_white : (is_blank c || is_separator c) ≡ true → CommandCase d place c u (takes (λ s. s) 0)
  at_quoted_newline : is_fold c u ≡ true → CommandCase d place c u (takes (λ s. s) 1)
  at_close : ends_script place c ≡ true → CommandCase d place c u stop
  at_comment : c ≡ 35 → CommandCase d place c u (takes (λ s. s) (comment_len false u))
  at_command : (ws : Words) (n : ℕ) (y : List ℕ) → drop n u ≡ y → BeginsCommand place (c ∷ u) → WordsThen ws d place (c ∷ u) y → ends_command_at place y ≡ true → CommandCase d place c u (takes (command ws) n)
  at_command_fault : (f : ScriptFault) → BeginsCommand place (c ∷ u) → WordsFail (BracketsFail d) (IndexFails d) d place (c ∷ u) f → CommandCase d place c u (fails f)

words_case : (d : ℕ) (place : Place) (c : ℕ) (u : List ℕ) (o : Option ScriptFault) (ws : Words) (n : ℕ) (v : List ℕ) → BeginsCommand place (c ∷ u) → drop n (c ∷ u) ≡ v → WordsOutcome d place (c ∷ u) o ws v → CommandCase d place c u (elim o [ None ↦ takes (command ws) (n - 1) | Some f ↦ fails f ])
words_case d place c u None ws n v b e h = at_command ws (n - 1) v (pred_drop n c u v (taken_some place n (c ∷ u) v b.word (end_at_word place v h.1) e) e) b h.0 h.1
words_case d place c u (Some f) ws n v b e h = at_command_fault f b h

begins_word : (place : Place) (c : ℕ) (u : List ℕ) → (is_blank c || is_separator c) ≡ false → ends_script place c ≡ false → is_fold c u ≡ false → ends_word_at place (c ∷ u) ≡ false
begins_word place c u g e f = rw (g, e, f) refl

command_case : (d : ℕ) (place : Place) (c : ℕ) (u : List ℕ) → Bracketed d → Indexes d → CommandCase d place c u (command_step (nest d) (index d) place (c ∷ u))
unfolding command_step words_command
command_case d place c u b i =
    let w = words_at (nest d) (index d) place (c ∷ u) in
    if_case (CommandCase d place c u) (is_blank c || is_separator c) _ _ (λ g. at_white g)
    (λ g. if_case (CommandCase d place c u) (is_fold c u) _ _ (λ f. at_quoted_newline f)
    (λ f. if_case (CommandCase d place c u) (ends_script place c) _ _ (λ e. at_close e)
    (λ e. if_case (CommandCase d place c u) (eqb c 35) _ _ (λ k. at_comment (eqb-true c 35 k))
    (λ k. words_case d place c u w.fault w.items w.taken (drop w.taken (c ∷ u)) (record { word = begins_word place c u g e f; no_comment = k }) refl (words_told d place b i (c ∷ u))))))

-- a script ends at the end of its text, or before what closes it
abbrev ends_script_at : Place → List ℕ → Bool
ends_script_at place [] = true
ends_script_at place (c ∷ u) = ends_script place c

abbrev ScriptOutcome : ℕ → Place → List ℕ → Option ScriptFault → Script → List ℕ → Type 0
ScriptOutcome d place t None cs v = ScriptThen cs d place t v × (ends_script_at place v ≡ true)
ScriptOutcome d place t (Some f) cs v = ScriptFails (BracketsFail d) (IndexFails d) d place cs t f

script_front : (cs : Script) (d : ℕ) (place : Place) (t u v : List ℕ) → ((w : List ℕ) → GapThen u w → GapThen t w) → ScriptThen cs d place u v → ScriptThen cs d place t v
script_front no_command d place t u v front h = front v h
script_front (faulty f) d place t u v front h = h
script_front (command ws cs) d place t u v front h = (h.0, h.1, front h.0 h.2, h.3, h.4, h.5, h.6)

gap_outcome : (d : ℕ) (place : Place) (t u : List ℕ) (o : Option ScriptFault) (cs : Script) (v : List ℕ) → ((w : List ℕ) → GapThen u w → GapThen t w) → ScriptOutcome d place u o cs v → ScriptOutcome d place t o cs v
gap_outcome d place t u None cs v front h = (script_front cs d place t u v front h.0, h.1)
gap_outcome d place t u (Some f) cs v front h = (h.0, script_front cs d place t u h.0 front h.1, h.2, h.3)

command_outcome : (d : ℕ) (place : Place) (t : List ℕ) (ws : Words) (y : List ℕ) (o : Option ScriptFault) (cs : Script) (v : List ℕ) → BeginsCommand place t → WordsThen ws d place t y → ends_command_at place y ≡ true → ScriptOutcome d place y o cs v → ScriptOutcome d place t o (command ws cs) v
command_outcome d place t ws y None cs v b w a h = ((t, y, GapThen.no_gap t, b, w, a, h.0), h.1)
command_outcome d place t ws y (Some f) cs v b w a h = (h.0, (t, y, GapThen.no_gap t, b, w, a, h.1), h.2, h.3)

fold_gap : (c : ℕ) (u w : List ℕ) → is_fold c u ≡ true → GapThen (drop 1 u) w → GapThen (c ∷ u) w
fold_gap c u w e h = let is = fold_is c u e in rw (is.0, is.1) (GapThen.quoted_newline (drop 1 u) w h)

comment_gap : (c : ℕ) (u w : List ℕ) → c ≡ 35 → GapThen (drop (comment_len false u) u) w → GapThen (c ∷ u) w
comment_gap c u w e h = rw e (GapThen.comment u (drop (comment_len false u) u) w (comment_told u) h)

abbrev ScriptTold : ℕ → Place → List ℕ → List ℕ → Run ScriptFault Script → Type 0
ScriptTold d place t u r = ScriptOutcome d place t r.fault r.items (drop r.taken u)

after_command : (d : ℕ) (place : Place) (c : ℕ) (u : List ℕ) (s : Step ScriptFault Script) (go : ℕ → Run ScriptFault Script) → CommandCase d place c u s → ((k : ℕ) → ScriptTold d place (drop k u) u (go k)) → ScriptTold d place (c ∷ u) (c ∷ u) (after_step no_command s go)
after_command d place c u _ go (at_white g) ih = gap_outcome d place (c ∷ u) u (go 0).fault (go 0).items (drop (go 0).taken u) (λ w h. GapThen.white c u w g h) (ih 0)
after_command d place c u _ go (at_quoted_newline e) ih = gap_outcome d place (c ∷ u) (drop 1 u) (go 1).fault (go 1).items (drop (go 1).taken u) (λ w h. fold_gap c u w e h) (ih 1)
after_command d place c u _ go (at_close e) ih = (GapThen.no_gap (c ∷ u), e)
after_command d place c u _ go (at_comment e) ih =
    let n = comment_len false u in
    gap_outcome d place (c ∷ u) (drop n u) (go n).fault (go n).items (drop (go n).taken u) (λ w h. comment_gap c u w e h) (ih n)
after_command d place c u _ go (at_command ws n y r b w a) ih = command_outcome d place (c ∷ u) ws y (go n).fault (go n).items (drop (go n).taken u) b w a (subst (λ x. ScriptTold d place x u (go n)) r (ih n))
after_command d place c u _ go (at_command_fault f b h) ih = (c ∷ u, GapThen.no_gap (c ∷ u), b, h)

run_commands : (d : ℕ) (place : Place) → Bracketed d → Indexes d → (k : ℕ) (t : List ℕ) → ScriptTold d place (drop k t) t (run no_command (command_step (nest d) (index d) place) k t)
run_commands d place b i zero [] = (GapThen.no_gap [], refl)
run_commands d place b i (suc k) [] = (GapThen.no_gap [], refl)
run_commands d place b i (suc k) (c ∷ u) = run_commands d place b i k u
run_commands d place b i zero (c ∷ u) = after_command d place c u (command_step (nest d) (index d) place (c ∷ u)) (λ k. run no_command (command_step (nest d) (index d) place) k u) (command_case d place c u b i) (λ k. run_commands d place b i k u)

commands_told : (d : ℕ) (place : Place) → Bracketed d → Indexes d → (t : List ℕ) → ScriptTold d place t t (commands_at (nest d) (index d) place t)
unfolding commands_at
commands_told d place b i t = run_commands d place b i 0 t

-- ---- brackets, parentheses, and whole texts

close_case : (d : ℕ) (u : List ℕ) (o : Option ScriptFault) (cs : Script) (n : ℕ) (v : List ℕ) → drop n u ≡ v → ScriptOutcome d Brackets u o cs v → BracketCase (suc d) u (elim o [ None ↦ close_script cs n v | Some f ↦ fails f ])
close_case d u (Some f) cs n v e h = bracket_fails (suc d) u f (cs, inr h)
close_case d u None cs n [] e h = bracket_fails (suc d) u missing_close_bracket (cs, inl (h.0, refl))
close_case d u None cs n (c ∷ w) e h =
    let is : c ≡ 93 = eqb-true c 93 h.1 in
    bracket_is d u cs (n + 1) w (subst (λ x. ScriptThen cs d Brackets u (x ∷ w)) is h.0) (close_rest n u w c e)

index_case : (syntax : Syntax) (name : List ℕ) (n d : ℕ) (s : List ℕ) (o : Option ScriptFault) (ps : Parts) (k : ℕ) (v : List ℕ) → drop k s ≡ v → PartsOutcome d (Index syntax) s o ps v → IndexCase syntax name n (suc d) s (elim o [ None ↦ close_index syntax name ps (n + 1 + k) v | Some f ↦ fails f ])
index_case syntax name n d s (Some f) ps k v e h = index_fails (suc d) s f (inr h)
index_case syntax name n d s None ps k [] e h = index_fails (suc d) s (told syntax missing_close_of_variable) (inl (ps, h.0, refl))
index_case syntax name n d s None ps k (c ∷ w) e h =
    let is : c ≡ 41 = eqb-true c 41 h.1 in
    index_is d s ps k w (subst (λ x. PartsThen ps d (Index syntax) s (x ∷ w)) is h.0) (e ∙ ap (λ x. x ∷ w) is)

mutual
  unfolding nested_step index_step nest

  pub brackets_told : (d : ℕ) → Bracketed d
  brackets_told zero u = bracket_fails zero u too_deeply_nested refl
  brackets_told (suc d) u =
      let r = commands_at (nest d) (index d) Brackets u in
      close_case d u r.fault r.items r.taken (drop r.taken u) refl (commands_told d Brackets (brackets_told d) (indexes_told d) u)

  pub indexes_told : (d : ℕ) → Indexes d
  indexes_told zero syntax name n s = index_fails zero s too_deeply_nested refl
  indexes_told (suc d) syntax name n s =
      let r = parts_at (nest d) (index d) (Index syntax) s in
      index_case syntax name n d s r.fault r.items r.taken (drop r.taken s) refl (parts_told d (Index syntax) (brackets_told d) (indexes_told d) s)

whole : (t : List ℕ) (o : Option ScriptFault) (cs : Script) (v : List ℕ) → ScriptOutcome 32 Alone t o cs v → Spells t (closed cs o)
whole t None cs [] h = inl h.0
whole t None cs (c ∷ v) h = absurd cc
whole t (Some f) cs v h = inr (cs, f, refl, h)

-- each text spells the script that is read
pub script_told : (t : List ℕ) → Spells t (script_of t)
unfolding script_of
script_told t =
    let r = commands_at (nest 32) (index 32) Alone t in
    whole t r.fault r.items (drop r.taken t) (commands_told 32 Alone (brackets_told 32) (indexes_told 32) t)
