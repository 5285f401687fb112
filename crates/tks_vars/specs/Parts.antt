-- One frame's part of a change of all variables.
use Rattle.std.specs.Prelude.{ℕ, if◌then◌else◌, List, Option, Some, None, Result, Ok, Err}
use Rattle.std.specs.FinMap as map
use Rattle.tks_text.specs.declared.fault.ErrorNumber.{ErrorNumber}
use Rattle.tks_text.specs.declared.fault.ErrorNumber.TheVariants.{NoSuchVariable}
use Rattle.tks_vars.specs.Table.{Map}
use Rattle.tks_vars.specs.Names.{Name}
use Rattle.tks_vars.specs.Variables.{Frame, after, updated, taken}
use Rattle.tks_vars.specs.declared.content.Content.{Content}
use Rattle.tks_vars.specs.declared.content.Local.{Local}
use Rattle.tks_vars.specs.declared.content.Local.TheVariants.{Own, Link}

-- what a name stands for where it is no link
abbrev pub own : Option Local → Option Content
own None = None
own (Some (Own content)) = Some content
own (Some Link) = None

-- the globals after a name was given a value
abbrev pub put_global : Map Content → Name → List ℕ → Result (Map Content) ErrorNumber
put_global globals name value = after (updated (map.get globals name.variable) name.index value) (map.insert globals name.variable)

abbrev pub global_left : Map Content → List ℕ → Option Content → Map Content
global_left globals variable None = map.remove globals variable
global_left globals variable (Some content) = map.insert globals variable content

-- a map without a name that must be there
abbrev pub without_name : {V : Type 0} → Map V → List ℕ → Result (Map V) ErrorNumber
without_name m variable = if map.contains_key m variable then Ok (map.remove m variable) else Err NoSuchVariable

-- the globals without one, or without an element
abbrev pub take_global : Map Content → Name → Result (Map Content) ErrorNumber
take_global globals name = after (taken (map.get globals name.variable) name.index) (global_left globals name.variable)

abbrev pub local_left : Frame → List ℕ → Option Content → Frame
local_left frame variable None = map.remove frame variable
local_left frame variable (Some content) = map.insert frame variable (Own content)

-- the same of a procedure's frame, where the name is no link
abbrev pub take_local : Frame → Name → Result Frame ErrorNumber
take_local frame name = after (taken (own (map.get frame name.variable)) name.index) (local_left frame name.variable)
