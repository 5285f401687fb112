-- The tree of a script, as Tcl(n) speaks of it: commands of words, and words of parts.
use Rattle.std.specs.Prelude.{◌≡◌, ℕ, Bool, ◌+◌, List, [], ◌∷◌, refl}
use base.Stored.{Coded, Gv, gnil, gnum, gcons, coded_ℕ, coded_bool, coded_list}
use Rattle.tks_text.specs.declared.fault.ScriptFault.{ScriptFault}
use Rattle.tks_text.specs.contracts.fault.ScriptFault.{the_row as fault-row}

mutual
  -- commands in order, and at their end nothing more or a fault
  pub data Script : Type 0 where
    no_command : Script
    faulty : ScriptFault → Script
    command : Words → Script → Script

  -- the words of a command in order, each with whether its value is split as a list
  pub data Words : Type 0 where
    no_word : Words
    word : Bool → Parts → Words → Words

  -- the parts of a word in order: characters that stand for themselves, scalars, elements of arrays
  -- with the parts of their index, and scripts whose results stand there
  pub data Parts : Type 0 where
    no_part : Parts
    char : ℕ → Parts → Parts
    variable : List ℕ → Parts → Parts
    element : List ℕ → Parts → Parts → Parts
    nested : Script → Parts → Parts

-- characters that stand for themselves, and the parts behind them
abbrev pub chars : List ℕ → Parts → Parts
chars [] parts = parts
chars (c ∷ cs) parts = char c (chars cs parts)

-- one after the other; behind a fault nothing follows
abbrev pub join_scripts : Script → Script → Script
join_scripts no_command behind = behind
join_scripts (faulty fault) behind = faulty fault
join_scripts (command words rest) behind = command words (join_scripts rest behind)

abbrev pub join_words : Words → Words → Words
join_words no_word behind = behind
join_words (word expand parts rest) behind = word expand parts (join_words rest behind)

abbrev pub join_parts : Parts → Parts → Parts
join_parts no_part behind = behind
join_parts (char c rest) behind = char c (join_parts rest behind)
join_parts (variable name rest) behind = variable name (join_parts rest behind)
join_parts (element name index rest) behind = element name index (join_parts rest behind)
join_parts (nested script rest) behind = nested script (join_parts rest behind)

-- how much there is of a tree, its literal characters not counted
abbrev mutual
  pub script_size : Script → ℕ
  script_size no_command = 0
  script_size (faulty fault) = 0
  script_size (command words rest) = 1 + words_size words + script_size rest

  pub words_size : Words → ℕ
  words_size no_word = 0
  words_size (word expand parts rest) = 1 + parts_size parts + words_size rest

  pub parts_size : Parts → ℕ
  parts_size no_part = 0
  parts_size (char c rest) = parts_size rest
  parts_size (variable name rest) = parts_size rest
  parts_size (element name index rest) = 1 + parts_size index + parts_size rest
  parts_size (nested script rest) = 1 + script_size script + parts_size rest

-- ---- trees as stored values: each tree as a tree of numbers, and two with one code are one

abbrev pub text_code : Coded (List ℕ)
text_code = coded_list coded_ℕ

abbrev mutual
  pub code_script : Script → Gv
  code_script no_command = gnil
  code_script (faulty fault) = gcons (gnum 0) (fault-row.coded.code fault)
  code_script (command words rest) = gcons (gnum 1) (gcons (code_words words) (code_script rest))

  pub code_words : Words → Gv
  code_words no_word = gnil
  code_words (word expand parts rest) = gcons (coded_bool.code expand) (gcons (code_parts parts) (code_words rest))

  pub code_parts : Parts → Gv
  code_parts no_part = gnil
  code_parts (char c rest) = gcons (gnum 0) (gcons (gnum c) (code_parts rest))
  code_parts (variable name rest) = gcons (gnum 1) (gcons (text_code.code name) (code_parts rest))
  code_parts (element name index rest) = gcons (gnum 2) (gcons (text_code.code name) (gcons (code_parts index) (code_parts rest)))
  code_parts (nested script rest) = gcons (gnum 3) (gcons (code_script script) (code_parts rest))

mutual
  pub inj_script : (x y : Script) → code_script x ≡ code_script y → x ≡ y
  inj_script no_command no_command p = refl
  inj_script (faulty f) (faulty g) p = let a = fault-row.coded.inj f g cc in cc
  inj_script (command ws xs) (command vs ys) p = let a = inj_words ws vs cc in let b = inj_script xs ys cc in cc
  inj_script _ _ p = cc

  pub inj_words : (x y : Words) → code_words x ≡ code_words y → x ≡ y
  inj_words no_word no_word p = refl
  inj_words (word e ps ws) (word f qs vs) p = let a = coded_bool.inj e f cc in let b = inj_parts ps qs cc in let c = inj_words ws vs cc in cc
  inj_words _ _ p = cc

  pub inj_parts : (x y : Parts) → code_parts x ≡ code_parts y → x ≡ y
  inj_parts no_part no_part p = refl
  inj_parts (char c ps) (char d qs) p = let a = inj_parts ps qs cc in cc
  inj_parts (variable n ps) (variable m qs) p = let a = text_code.inj n m cc in let b = inj_parts ps qs cc in cc
  inj_parts (element n is ps) (element m js qs) p = let a = text_code.inj n m cc in let b = inj_parts is js cc in let c = inj_parts ps qs cc in cc
  inj_parts (nested s ps) (nested t qs) p = let a = inj_script s t cc in let b = inj_parts ps qs cc in cc
  inj_parts _ _ p = cc

abbrev pub script_code : Coded Script
script_code = record { code = code_script; inj = inj_script }

abbrev pub parts_code : Coded Parts
parts_code = record { code = code_parts; inj = inj_parts }
