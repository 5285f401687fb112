-- The variables and procedures of scripts (set(n), unset(n), global(n), info(n), proc(n)), as finite maps.
use Rattle.std.specs.Prelude.{ℕ, Bool, true, false, if◌then◌else◌, List, [], ◌∷◌, Option, Some, None, is_some, option_map, option_and_then, drop, reverse, Result, Ok, Err, refl}
use Rattle.std.specs.Coded.{Coded, code_by, coded×, coded_list, coded_option, coded_ℕ}
use Rattle.std.specs.FinMap as map
use Rattle.tks_text.specs.declared.fault.ErrorNumber.{ErrorNumber}
use Rattle.tks_text.specs.declared.fault.ErrorNumber.TheVariants.{NoSuchVariable, WrongKindOfVariable, BadName}
use Rattle.tks_text.specs.declared.fault.ScriptFault.{ScriptFault}
use Rattle.tks_text.specs.Fault.{fault_about}
use Rattle.tks_vars.specs.Table.{Map}
use Rattle.tks_vars.specs.Names.{Name, named}
use Rattle.tks_vars.specs.declared.content.Content.{Content}
use Rattle.tks_vars.specs.declared.content.Content.TheVariants.{Scalar, Array}
use Rattle.tks_vars.specs.declared.content.Local.{Local}
use Rattle.tks_vars.specs.declared.content.Local.TheVariants.{Own, Link}
use Rattle.tks_vars.specs.declared.procedure.Argument.{Argument}
use Rattle.tks_vars.specs.declared.procedure.Procedure.{Procedure}
use Rattle.tks_vars.specs.contracts.content.Content as content
use Rattle.tks_vars.specs.contracts.content.Local as local
use Rattle.tks_vars.specs.contracts.procedure.Procedure as procedure

-- a procedure's own variables, and its links to globals of the same names
abbrev pub Frame : Type 0
Frame = Map Local

-- all variables, and the procedures; the frames with the innermost first, of which one that is none has the globals as
-- its variables
pub record Variables : Type 0 where
  pub globals : Map Content
  pub locals : List (Option Frame)
  pub procedures : Map Procedure

abbrev pub map_code : {V : Type 0} → Coded V → Coded (Map V)
map_code code = map.code (coded_list coded_ℕ) code

abbrev pub variables_code : Coded Variables
variables_code =
    code_by (Map Content × (List (Option Frame) × Map Procedure))
    (coded× (map_code content.the_row.coded) (coded× (coded_list (coded_option (map_code local.the_row.coded))) (map_code procedure.the_row.coded)))
    (λ v. (v.globals, (v.locals, v.procedures))) (λ c. record { globals = c.0; locals = c.1.0; procedures = c.1.1 }) (λ _. refl)

-- these globals and procedures, where no frame was begun
abbrev pub at_global_level : Map Content → Map Procedure → Variables
at_global_level globals procedures = record { globals = globals; locals = []; procedures = procedures }

abbrev pub no_variables : Variables
no_variables = record { globals = map.empty; locals = []; procedures = map.empty }

-- What stands under one name.

abbrev pub element_of : Option (List ℕ) → Result (List ℕ) ErrorNumber
element_of None = Err NoSuchVariable
element_of (Some value) = Ok value

-- the value of a whole variable, or of an element of it
abbrev pub value_in : Option Content → Option (List ℕ) → Result (List ℕ) ErrorNumber
value_in None index = Err NoSuchVariable
value_in (Some (Scalar value)) None = Ok value
value_in (Some (Scalar value)) (Some index) = Err WrongKindOfVariable
value_in (Some (Array elements)) None = Err WrongKindOfVariable
value_in (Some (Array elements)) (Some index) = element_of (map.get elements index)

-- what it becomes by a value
abbrev pub updated : Option Content → Option (List ℕ) → List ℕ → Result Content ErrorNumber
updated None None value = Ok (Scalar value)
updated None (Some index) value = Ok (Array (map.insert map.empty index value))
updated (Some (Scalar old)) None value = Ok (Scalar value)
updated (Some (Scalar old)) (Some index) value = Err WrongKindOfVariable
updated (Some (Array elements)) None value = Err WrongKindOfVariable
updated (Some (Array elements)) (Some index) value = Ok (Array (map.insert elements index value))

abbrev pub without_element : Map (List ℕ) → List ℕ → Result (Option Content) ErrorNumber
without_element elements index = if map.contains_key elements index then Ok (Some (Array (map.remove elements index))) else Err NoSuchVariable

-- what is left of it; an array stays without its last element
abbrev pub taken : Option Content → Option (List ℕ) → Result (Option Content) ErrorNumber
taken None index = Err NoSuchVariable
taken (Some content) None = Ok None
taken (Some (Scalar value)) (Some index) = Err WrongKindOfVariable
taken (Some (Array elements)) (Some index) = without_element elements index

-- whether it is there
abbrev pub is_there : Option Content → Option (List ℕ) → Bool
is_there content None = is_some content
is_there (Some (Array elements)) (Some index) = map.contains_key elements index
is_there content (Some index) = false

-- The variables of the present frame: of the innermost procedure, or the globals where there is none and where these
-- were made the present frame.

abbrev pub innermost : List (Option Frame) → Option Frame
innermost [] = None
innermost (frame ∷ below) = frame

-- what a name of a procedure's frame stands for, where the global of that name is this
abbrev pub seen_through : Option Local → Option Content → Option Content
seen_through None global = None
seen_through (Some (Own content)) global = Some content
seen_through (Some Link) global = global

abbrev pub content_in : Map Content → Option Frame → List ℕ → Option Content
content_in globals None variable = map.get globals variable
content_in globals (Some frame) variable = seen_through (map.get frame variable) (map.get globals variable)

-- what stands under a name
abbrev pub content_of : Variables → List ℕ → Option Content
content_of variables variable = content_in variables.globals (innermost variables.locals) variable

abbrev pub is_link : Option Local → Bool
is_link None = false
is_link (Some (Own content)) = false
is_link (Some Link) = true

-- whether a name is that of a global
abbrev pub is_global : Option Frame → List ℕ → Bool
is_global None variable = true
is_global (Some frame) variable = is_link (map.get frame variable)

-- the frames after a change of the innermost
abbrev pub changed : (Frame → Frame) → List (Option Frame) → List (Option Frame)
changed change [] = []
changed change (frame ∷ below) = option_map change frame ∷ below

-- the variables after a name came to stand for this
abbrev pub with_content : Variables → List ℕ → Content → Variables
with_content variables variable content =
    if is_global (innermost variables.locals) variable then record variables { globals = map.insert variables.globals variable content }
    else record variables { locals = changed (λ frame. map.insert frame variable (Own content)) variables.locals }

-- the variables without what a name stands for
abbrev pub without_content : Variables → List ℕ → Variables
without_content variables variable =
    if is_global (innermost variables.locals) variable then record variables { globals = map.remove variables.globals variable }
    else record variables { locals = changed (λ frame. map.remove frame variable) variables.locals }

-- The calls. A fault names the variable as it was given.

abbrev pub about : {X : Type 0} → List ℕ → Result X ErrorNumber → Result X ScriptFault
about name (Ok x) = Ok x
about name (Err number) = Err (fault_about number name)

-- what comes of a name that is one
abbrev pub on_name : {X : Type 0} → Option Name → (Name → Result X ErrorNumber) → Result X ErrorNumber
on_name None next = Err BadName
on_name (Some name) next = next name

-- what follows where there was no error
abbrev pub after : {X Y : Type 0} → Result X ErrorNumber → (X → Y) → Result Y ErrorNumber
after (Ok x) next = Ok (next x)
after (Err number) next = Err number

abbrev pub value_at : Variables → List ℕ → Result (List ℕ) ErrorNumber
value_at variables text = on_name (named text) (λ name. value_in (content_of variables name.variable) name.index)

-- the value of a variable or an element
abbrev pub value_of : Variables → List ℕ → Result (List ℕ) ScriptFault
value_of variables text = about text (value_at variables text)

-- the variables after a name was given a value
abbrev pub with_value : Variables → List ℕ → List ℕ → Result Variables ScriptFault
with_value variables text value =
    about text (on_name (named text) (λ name.
    after (updated (content_of variables name.variable) name.index value) (with_content variables name.variable)))

abbrev pub left_with : Variables → List ℕ → Option Content → Variables
left_with variables variable None = without_content variables variable
left_with variables variable (Some content) = with_content variables variable content

abbrev pub without_at : Variables → List ℕ → Result Variables ErrorNumber
without_at variables text =
    on_name (named text) (λ name. after (taken (content_of variables name.variable) name.index) (left_with variables name.variable))

-- the variables without one, or without an element
abbrev pub without : Variables → List ℕ → Result Variables ScriptFault
without variables text = about text (without_at variables text)

-- whether a variable or an element is there
abbrev pub exists : Variables → List ℕ → Result Bool ScriptFault
exists variables text = about text (on_name (named text) (λ name. Ok (is_there (content_of variables name.variable) name.index)))

abbrev pub link_at : Frame → List ℕ → Option Local → Result Frame ErrorNumber
link_at frame variable None = Ok (map.insert frame variable Link)
link_at frame variable (Some Link) = Ok frame
link_at frame variable (Some (Own content)) = Err BadName

abbrev pub link_by : Frame → List ℕ → Option (List ℕ) → Result Frame ErrorNumber
link_by frame variable None = link_at frame variable (map.get frame variable)
link_by frame variable (Some index) = Err BadName

-- a procedure's frame after a name was made a link
abbrev pub with_link : Frame → List ℕ → Result Frame ErrorNumber
with_link frame text = on_name (named text) (λ name. link_by frame name.variable name.index)

abbrev pub with_link_in : Variables → Option Frame → List ℕ → Result Variables ErrorNumber
with_link_in variables None text = Ok variables
with_link_in variables (Some frame) text =
    after (with_link frame text) (λ linked. record variables { locals = changed (λ _. linked) variables.locals })

-- the variables after a name was made a link to the global of that name; where the globals are the present frame nothing
-- changes
abbrev pub with_global_link : Variables → List ℕ → Result Variables ScriptFault
with_global_link variables text = about text (with_link_in variables (innermost variables.locals) text)

-- the variables with a new frame
abbrev pub pushed : Variables → Variables
pushed variables = record variables { locals = Some map.empty ∷ variables.locals }

-- the variables with the globals as the present frame
abbrev pub pushed_global : Variables → Variables
pushed_global variables = record variables { locals = None ∷ variables.locals }

-- a frame with these scalars in it, one after the other
abbrev pub filled : Frame → List Argument → Frame
filled frame [] = frame
filled frame (x ∷ xs) = filled (map.insert frame x.name (Own (Scalar x.value))) xs

-- the frame of a call: of two arguments with one name the first stays
abbrev pub frame_of : List Argument → Frame
frame_of given = filled map.empty (reverse given)

-- the variables with the frame of a call
abbrev pub pushed_with : List Argument → Variables → Variables
pushed_with given variables = record variables { locals = Some (frame_of given) ∷ variables.locals }

-- how many variables the present frame has
abbrev pub frame_size : Map Content → Option Frame → ℕ
frame_size globals None = map.len globals
frame_size globals (Some frame) = map.len frame

-- the variables without the innermost frame
abbrev pub popped : Variables → Variables
popped variables = record variables { locals = drop 1 variables.locals }

-- The globals, whatever the present frame is: what stands there while they are the present frame.

-- the value of a global or an element of one
abbrev pub global_value_at : Variables → List ℕ → Result (List ℕ) ErrorNumber
global_value_at variables text = value_at (pushed_global variables) text

abbrev pub global_value_of : Variables → List ℕ → Result (List ℕ) ScriptFault
global_value_of variables text = value_of (pushed_global variables) text

-- the variables once the globals are no longer the present frame
abbrev pub back : Result Variables ScriptFault → Result Variables ScriptFault
back (Ok variables) = Ok (popped variables)
back (Err fault) = Err fault

-- the variables after a global was given a value
abbrev pub with_global_value : Variables → List ℕ → List ℕ → Result Variables ScriptFault
with_global_value variables text value = back (with_value (pushed_global variables) text value)

-- the variables after a procedure was put under a name
abbrev pub with_procedure : Variables → List ℕ → Procedure → Variables
with_procedure variables name procedure = record variables { procedures = map.insert variables.procedures name procedure }

-- What a change adds to: how many members the list has that would grow, or none where nothing would.

abbrev pub size_in : Map Content → Option Frame → List ℕ → ℕ
size_in globals None variable = map.len globals
size_in globals (Some frame) variable = if is_link (map.get frame variable) then map.len globals else map.len frame

abbrev pub grown_inside : Content → Option (List ℕ) → Option ℕ
grown_inside (Array elements) (Some index) = if map.contains_key elements index then None else Some (map.len elements)
grown_inside content index = None

abbrev pub grown : Option Content → Option (List ℕ) → ℕ → Option ℕ
grown None index size = Some size
grown (Some content) index size = grown_inside content index

-- by giving a name a value: the variables, where it is new, or else the elements of its array
abbrev pub grown_by_value : Variables → List ℕ → Option ℕ
grown_by_value variables text =
    option_and_then (λ name. grown (content_of variables name.variable) name.index (size_in variables.globals (innermost variables.locals) name.variable)) (named text)

-- by giving a global a value
abbrev pub grown_by_global_value : Variables → List ℕ → Option ℕ
grown_by_global_value variables text = grown_by_value (pushed_global variables) text

abbrev pub grown_by_name : Frame → List ℕ → Option (List ℕ) → Option ℕ
grown_by_name frame variable None = if map.contains_key frame variable then None else Some (map.len frame)
grown_by_name frame variable (Some index) = None

abbrev pub grown_in : Option Frame → Option Name → Option ℕ
grown_in None name = None
grown_in (Some frame) None = None
grown_in (Some frame) (Some name) = grown_by_name frame name.variable name.index

-- by making a name a link: the variables of the procedure
abbrev pub grown_by_link : Variables → List ℕ → Option ℕ
grown_by_link variables text = grown_in (innermost variables.locals) (named text)
