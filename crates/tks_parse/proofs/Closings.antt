-- What closes scripts in brackets, indexes and quotes.
use Rattle.std.proofs.Common.{◌≡◌, ℕ, zero, suc, ◌+◌, ◌-◌, ◌<◌, ◌≤◌, List, [], ◌∷◌, length, drop, Option, Some, None, refl, sym, ap, ◌∙◌, arith}
use Rattle.std.proofs.lemmas.List.{length-drop, drop_all}
use Rattle.tks_text.specs.Run.{Step, fails, takes, Run, on_run}
use Rattle.tks_text.specs.declared.fault.ScriptFault.{ScriptFault}
use Rattle.tks_parse.specs.Tree.{Script, Parts, nested, element}
use Rattle.tks_parse.specs.Fault.{missing_close_quote, missing_close_of_variable, told}
use Rattle.tks_parse.specs.Reading.{close_script, close_index, close_text, close_parts, nested_step, index_step, parts_at, quoted_at, commands_at, nest, index, max_depth, closed, script_of}
use Rattle.tks_parse.proofs.Joins.{commands_fault}
use Rattle.tks_parse.specs.View.{script_of_commands}
use Rattle.tks_parse.specs.declared.tree.Command.{Command}
use Rattle.tks_parse.specs.declared.mode.Place.TheVariants.{Alone, Brackets}
use Rattle.tks_parse.specs.declared.mode.Mode.TheVariants.{Index, Quoted}
use Rattle.tks_parse.specs.declared.syntax.Syntax.{Syntax}

byte_behind : (A : Type 0) (P : List ℕ → A) (x : A) (n : ℕ) (t : List ℕ) → n < length t → ((c : ℕ) (u : List ℕ) → P (c ∷ u) ≡ x) → P (drop n t) ≡ x
byte_behind A P x n t h f = elim (drop n t) as (λ u. length u ≡ length t - n → P u ≡ x) [ [] ↦ λ e. absurd (omega (arith, e)) | (c ∷ u) ↦ λ e. f c u ] (length-drop n t)

-- ---- a script in brackets

nested_is : (d : ℕ) (t : List ℕ) (r : Run ScriptFault Script) → 0 < d → commands_at (nest (d - 1)) (index (d - 1)) Brackets t ≡ r → nested_step (nest d) t ≡ on_run r (λ script n. close_script script n (drop n t))
unfolding nested_step nest
nested_is zero t r h e = absurd (omega arith)
nested_is (suc j) t r h e =
    let k : j ≡ suc j - 1 = omega arith in
    let next : Script → ℕ → Step ScriptFault Parts = λ script n. close_script script n (drop n t) in
    ap (λ i. on_run (commands_at (nest i) (index i) Brackets t) next) k ∙ ap (λ (r : Run ScriptFault Script). on_run r next) e

pub nested_fails : (d : ℕ) (t : List ℕ) (script : Script) (fault : Option ScriptFault) (n : ℕ) (f : ScriptFault) → 0 < d → commands_at (nest (d - 1)) (index (d - 1)) Brackets t ≡ record { items = script; fault = fault; taken = n } → fault ≡ Some f → nested_step (nest d) t ≡ fails f
nested_fails d t script fault n f h e is =
    nested_is d t (record { items = script; fault = fault; taken = n }) h e
    ∙ ap (λ (o : Option ScriptFault). on_run (record { items = script; fault = o; taken = n }) (λ script n. close_script script n (drop n t))) is

pub nested_found : (d : ℕ) (t : List ℕ) (script : Script) (fault : Option ScriptFault) (n : ℕ) → 0 < d → commands_at (nest (d - 1)) (index (d - 1)) Brackets t ≡ record { items = script; fault = fault; taken = n } → fault ≡ None → n < length t → nested_step (nest d) t ≡ takes (nested script) (n + 1)
nested_found d t script fault n h e is lt =
    nested_is d t (record { items = script; fault = fault; taken = n }) h e
    ∙ ap (λ (o : Option ScriptFault). on_run (record { items = script; fault = o; taken = n }) (λ script n. close_script script n (drop n t))) is
    ∙ byte_behind (Step ScriptFault Parts) (close_script script n) (takes (nested script) (n + 1)) n t lt (λ c u. refl)

-- ---- an index

index_is : (d : ℕ) (syntax : Syntax) (name t : List ℕ) (parts : Parts) (n : ℕ) → 0 < d → parts_at (nest (d - 1)) (index (d - 1)) (Index syntax) t ≡ record { items = parts; fault = None; taken = n } → index_step (index d) syntax name (length name) t ≡ close_index syntax name parts (length name + 1 + n) (drop n t)
unfolding index_step nest
index_is zero syntax name t parts n h e = absurd (omega arith)
index_is (suc j) syntax name t parts n h e =
    let k : j ≡ suc j - 1 = omega arith in
    let next : Parts → ℕ → Step ScriptFault Parts = λ parts i. close_index syntax name parts (length name + 1 + i) (drop i t) in
    ap (λ i. on_run (parts_at (nest i) (index i) (Index syntax) t) next) k ∙ ap (λ (r : Run ScriptFault Parts). on_run r next) e

pub index_found : (d : ℕ) (syntax : Syntax) (name t : List ℕ) (parts : Parts) (n : ℕ) → 0 < d → parts_at (nest (d - 1)) (index (d - 1)) (Index syntax) t ≡ record { items = parts; fault = None; taken = n } → n < length t → index_step (index d) syntax name (length name) t ≡ takes (element name parts) (length name + 1 + n + 1)
index_found d syntax name t parts n h e lt =
    index_is d syntax name t parts n h e
    ∙ byte_behind (Step ScriptFault Parts) (close_index syntax name parts (length name + 1 + n)) (takes (element name parts) (length name + 1 + n + 1)) n t lt (λ c u. refl)

pub index_missing : (d : ℕ) (syntax : Syntax) (name t : List ℕ) (parts : Parts) (n : ℕ) → 0 < d → parts_at (nest (d - 1)) (index (d - 1)) (Index syntax) t ≡ record { items = parts; fault = None; taken = n } → length t ≤ n → index_step (index d) syntax name (length name) t ≡ fails (told syntax missing_close_of_variable)
index_missing d syntax name t parts n h e le =
    index_is d syntax name t parts n h e ∙ ap (close_index syntax name parts (length name + 1 + n)) (drop_all n t le)

-- ---- quotes

pub quoted_found : (nest : List ℕ → Run ScriptFault Script) (index : Syntax → List ℕ → Run ScriptFault Parts) (syntax : Syntax) (t : List ℕ) (parts : Parts) (n : ℕ) → parts_at nest index (Quoted syntax) t ≡ record { items = parts; fault = None; taken = n } → n < length t → quoted_at nest index syntax t ≡ record { items = parts; fault = None; taken = n + 1 }
unfolding quoted_at
quoted_found nest index syntax t parts n e lt =
    ap (close_parts (told syntax missing_close_quote) t) e
    ∙ byte_behind (Run ScriptFault Parts) (close_text (told syntax missing_close_quote) parts n) (record { items = parts; fault = None; taken = n + 1 }) n t lt (λ c u. refl)

-- ---- a script

closed_commands : (commands : List Command) (fault : Option ScriptFault) → script_of_commands commands fault ≡ closed (script_of_commands commands None) fault
closed_commands commands None = refl
closed_commands commands (Some fault) = commands_fault commands fault

pub script_closed : (t : List ℕ) (commands : List Command) (fault : Option ScriptFault) (n : ℕ) → commands_at (nest max_depth) (index max_depth) Alone t ≡ record { items = script_of_commands commands None; fault = fault; taken = n } → script_of_commands commands fault ≡ script_of t
unfolding script_of
script_closed t commands fault n e = closed_commands commands fault ∙ sym (ap (λ (r : Run ScriptFault Script). closed r.items r.fault) e)
