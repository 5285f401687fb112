-- The code's own commands, indices and lists, as the definitions see them.
use Rattle.std.specs.Prelude.{ℕ, List}
use Rattle.tks_tcl.specs.Codes.{CodeCommand, bare_code, raises, returns}
use Rattle.tks_tcl.specs.Lists.{ListCommand, concat_does, join_does, lindex_does, list_does, llength_does, lrange_does, lsearch_does, split_does}
use Rattle.tks_tcl.specs.Strings.{string_does}
use Rattle.tks_tcl.specs.Variables.{VariableCommand, append_does, global_does, incr_does, info_does, lappend_does, set_does, unset_does}
use Rattle.tks_tcl.specs.Plain.{Command, of_lists, of_variables, of_code}
use Rattle.tks_tcl.specs.Index.{Index, FromStart, FromEnd}
use Rattle.tks_tcl.specs.declared.codes.CodeCommand.{CodeCommand as CodedCode}
use Rattle.tks_tcl.specs.declared.codes.CodeCommand.TheVariants as code
use Rattle.tks_tcl.specs.declared.lists.ListCommand.{ListCommand as CodedList}
use Rattle.tks_tcl.specs.declared.lists.ListCommand.TheVariants as list
use Rattle.tks_tcl.specs.declared.variables.VariableCommand.{VariableCommand as CodedVariable}
use Rattle.tks_tcl.specs.declared.variables.VariableCommand.TheVariants as variable
use Rattle.tks_tcl.specs.declared.command.Command.{Command as Coded}
use Rattle.tks_tcl.specs.declared.command.Command.TheVariants as command
use Rattle.tks_tcl.specs.declared.index.Index.{Index as CodedIndex}
use Rattle.tks_tcl.specs.declared.index.Index.TheVariants as index
use Rattle.tks_tcl.specs.declared.lent.Lent.{Lent}
use Rattle.tks_tcl.specs.declared.lent.Lent.TheVariants as lent

-- the commands with a code of their own
abbrev pub code_command_of : CodedCode → CodeCommand
code_command_of code.Break = λ limits. bare_code 3
code_command_of code.Continue = λ limits. bare_code 4
code_command_of code.Error = raises
code_command_of code.Return = returns

-- the commands on lists
abbrev pub list_command_of : CodedList → ListCommand
list_command_of list.Concat = concat_does
list_command_of list.Join = join_does
list_command_of list.Lindex = lindex_does
list_command_of list.List = list_does
list_command_of list.Llength = llength_does
list_command_of list.Lrange = lrange_does
list_command_of list.Lsearch = lsearch_does
list_command_of list.Split = split_does

-- the commands on variables
abbrev pub variable_command_of : CodedVariable → VariableCommand
variable_command_of variable.Append = append_does
variable_command_of variable.Global = global_does
variable_command_of variable.Incr = incr_does
variable_command_of variable.Info = info_does
variable_command_of variable.Lappend = lappend_does
variable_command_of variable.Set = set_does
variable_command_of variable.Unset = λ limits. unset_does

-- all commands that run no script
abbrev pub command_of : Coded → Command
command_of (command.OfCode c) = of_code (code_command_of c)
command_of (command.OfLists c) = of_lists (list_command_of c)
command_of command.OfStrings = of_lists string_does
command_of (command.OfVariables c) = of_variables (variable_command_of c)

-- places in lists and texts
abbrev pub index_of : CodedIndex → Index
index_of (index.Start n) = FromStart n
index_of (index.End n) = FromEnd n

-- the list that a command reads
abbrev pub elements_of : Lent → List (List ℕ)
elements_of (lent.Kept l) = l
elements_of (lent.Read l) = l
