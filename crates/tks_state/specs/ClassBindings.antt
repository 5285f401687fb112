-- The bindings of classes that a world has before any input, in the order in which they are made (this project's own
-- choice).
use Rattle.std.specs.Prelude.{ℕ, List, [], ◌∷◌, codes, Result, Ok, Err}
use Rattle.tks_text.specs.declared.fault.ScriptFault.{ScriptFault}
use Rattle.tks_event.specs.Reading.{sequence_of}
use Rattle.tks_event.specs.declared.pattern.Pattern.{Pattern}
use Rattle.tks_bind.specs.Binding.{Content, nothing, bound}

-- a tag, a sequence as scripts write it, and the script that is bound to it
pub record FirstBinding : Type 0 where
  pub tag : List ℕ
  pub sequence : List ℕ
  pub script : List ℕ

abbrev pub first_binding : List ℕ → List ℕ → List ℕ → FirstBinding
first_binding tag sequence script = record { tag = tag; sequence = sequence; script = script }

-- a press gives the focus
abbrev pub presses : List FirstBinding
presses =
    first_binding (codes "Entry") (codes "<ButtonPress-1>") (codes "focus %W")
    ∷ first_binding (codes "Listbox") (codes "<ButtonPress-1>") (codes "focus %W; %W activate [%W nearest %y]; %W selection clear 0 end; %W selection set active")
    ∷ first_binding (codes "Text") (codes "<ButtonPress-1>") (codes "focus %W")
    ∷ first_binding (codes "Button") (codes "<ButtonPress-1>") (codes "focus %W")
    ∷ first_binding (codes "Checkbutton") (codes "<ButtonPress-1>") (codes "focus %W")
    ∷ []

-- keys that print are typed
abbrev pub typing : List ℕ → List FirstBinding
typing tag =
    first_binding tag (codes "<KeyPress>") (codes "if {[string length %A] == 1} {%W insert insert %A}")
    ∷ first_binding tag (codes "<Control-KeyPress>") (codes "continue")
    ∷ first_binding tag (codes "<Mod1-KeyPress>") (codes "continue")
    ∷ []

-- keys that edit an entry, and a text
abbrev pub entry_keys : List FirstBinding
entry_keys =
    first_binding (codes "Entry") (codes "<KeyPress-BackSpace>") (codes "if {[%W index insert] > 0} {%W delete [expr {[%W index insert] - 1}]}")
    ∷ first_binding (codes "Entry") (codes "<KeyPress-Delete>") (codes "%W delete insert")
    ∷ first_binding (codes "Entry") (codes "<KeyPress-Left>") (codes "%W icursor [expr {[%W index insert] - 1}]")
    ∷ first_binding (codes "Entry") (codes "<KeyPress-Right>") (codes "%W icursor [expr {[%W index insert] + 1}]")
    ∷ []

abbrev pub text_keys : List FirstBinding
text_keys =
    first_binding (codes "Text") (codes "<KeyPress-BackSpace>") (codes "if {[%W index insert] ne \"1.0\"} {%W delete {insert -1c}}")
    ∷ first_binding (codes "Text") (codes "<KeyPress-Return>") (codes "%W insert insert \\n")
    ∷ first_binding (codes "Text") (codes "<KeyPress-Left>") (codes "%W mark set insert {insert -1c}")
    ∷ first_binding (codes "Text") (codes "<KeyPress-Right>") (codes "%W mark set insert {insert +1c}")
    ∷ []

-- buttons are invoked
abbrev pub invoking : List ℕ → List FirstBinding
invoking tag = first_binding tag (codes "<ButtonRelease-1>") (codes "%W invoke") ∷ first_binding tag (codes "<KeyPress-space>") (codes "%W invoke") ∷ []

-- the focus goes round
abbrev pub traversal : List FirstBinding
traversal =
    first_binding (codes "all") (codes "<KeyPress-Tab>") (codes "focus [tk_focusNext %W]")
    ∷ first_binding (codes "all") (codes "<Shift-KeyPress-Tab>") (codes "focus [tk_focusPrev %W]")
    ∷ []

-- ---- the bindings that these make

abbrev pub bound_read : List ℕ → Result (List Pattern) ScriptFault → List ℕ → Content → Content
bound_read tag (Ok sequence) script c = bound tag sequence script c
bound_read tag (Err fault) script c = c

abbrev pub one_bound : FirstBinding → Content → Content
one_bound w c = bound_read w.tag (sequence_of w.sequence) w.script c

-- one after the other
abbrev pub all_bound : List FirstBinding → Content → Content
all_bound [] c = c
all_bound (w ∷ ws) c = all_bound ws (one_bound w c)

abbrev pub for_typing : Content → Content
for_typing c = all_bound (typing (codes "Text")) (all_bound (typing (codes "Entry")) c)

abbrev pub for_buttons : Content → Content
for_buttons c = all_bound (invoking (codes "Checkbutton")) (all_bound (invoking (codes "Button")) c)

unfoldable pub first_bindings : Content
first_bindings = all_bound traversal (for_buttons (all_bound text_keys (all_bound entry_keys (for_typing (all_bound presses nothing)))))
