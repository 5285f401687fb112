-- What holds of each command that has a name, kind by kind.
use Rattle.std.proofs.Common.{ℕ, Bool, true, false, if◌then◌else◌, codes, List, Option, Some, None, option_map, IfSome}
use Rattle.tks_text.specs.Text.{same_text}
use Rattle.tks_tcl.specs.Codes.{code_named}
use Rattle.tks_tcl.specs.Lists.{ListCommand, list_named}
use Rattle.tks_tcl.specs.Strings.{string_does}
use Rattle.tks_tcl.specs.Variables.{VariableCommand, append_does, global_does, incr_does, info_does, lappend_does, set_does, unset_does, variable_named}
use Rattle.tks_tcl.specs.Plain.{Command, of_lists, of_variables, of_code, or_else, command_named}

-- of the command of one name, or of those behind it
pub named_or : {X : Type 0} (P : X → Type 0) (is : Bool) (x : X) (o : Option X) → P x → IfSome o P → IfSome (if is then Some x else o) P
named_or P true x o h k = h
named_or P false x o h k = k

-- of the command on variables of a name, where it holds of each
pub each_variable : (P : VariableCommand → Type 0) → P append_does → P global_does → P incr_does → P info_does → P lappend_does → P set_does
    → P (λ limits. unset_does) → (name : List ℕ) → IfSome (variable_named name) P
each_variable P of_append of_global of_incr of_info of_lappend of_set of_unset name =
    named_or P (same_text name (codes "append")) _ _ of_append
    (named_or P (same_text name (codes "global")) _ _ of_global
    (named_or P (same_text name (codes "incr")) _ _ of_incr
    (named_or P (same_text name (codes "info")) _ _ of_info
    (named_or P (same_text name (codes "lappend")) _ _ of_lappend
    (named_or P (same_text name (codes "set")) _ _ of_set
    (named_or P (same_text name (codes "unset")) _ _ of_unset tt))))))

-- of whatever is there, what holds of all
pub all_so : {X : Type 0} (P : X → Type 0) (o : Option X) → ((x : X) → P x) → IfSome o P
all_so P None h = tt
all_so P (Some x) h = h x

else_so : {X : Type 0} (P : X → Type 0) (o p : Option X) → IfSome o P → IfSome p P → IfSome (or_else o p) P
else_so P None p h k = k
else_so P (Some x) p h k = h

mapped_so : {X Y : Type 0} (P : Y → Type 0) (f : X → Y) (o : Option X) → IfSome o (λ x. P (f x)) → IfSome (option_map f o) P
mapped_so P f None h = tt
mapped_so P f (Some x) h = h

-- of the command of a name: what holds of all on lists and texts, and of those on variables and with a code by name
pub by_kind : (P : Command → Type 0) (name : List ℕ) → ((does : ListCommand) → P (of_lists does))
    → IfSome (variable_named name) (λ does. P (of_variables does)) → IfSome (code_named name) (λ does. P (of_code does)) → IfSome (command_named name) P
by_kind P name of_list of_variable with_code =
    named_or P (same_text name (codes "string")) (of_lists string_does) _ (of_list string_does)
    (else_so P (option_map of_variables (variable_named name)) _ (mapped_so P of_variables (variable_named name) of_variable)
    (else_so P (option_map of_lists (list_named name)) _ (mapped_so P of_lists (list_named name) (all_so _ (list_named name) of_list))
    (mapped_so P of_code (code_named name) with_code)))
