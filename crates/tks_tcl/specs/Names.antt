-- The names of the commands that are built in.
use Rattle.std.specs.Prelude.{ℕ, Bool, ◌||◌, List, codes, is_some}
use Rattle.tks_text.specs.Text.{same_text}
use Rattle.tks_tcl.specs.Plain.{command_named}

-- the names of the commands that run scripts
abbrev pub runs_scripts : List ℕ → Bool
runs_scripts name =
    same_text name (codes "catch") || same_text name (codes "eval") || same_text name (codes "expr") || same_text name (codes "for")
    || same_text name (codes "foreach") || same_text name (codes "if") || same_text name (codes "proc") || same_text name (codes "while")

-- the names of the commands that make windows
abbrev pub makes_window : List ℕ → Bool
makes_window name =
    same_text name (codes "button") || same_text name (codes "checkbutton") || same_text name (codes "entry") || same_text name (codes "frame")
    || same_text name (codes "label") || same_text name (codes "listbox") || same_text name (codes "text")

-- the names of the other commands on windows and events
abbrev pub acts_on_windows : List ℕ → Bool
acts_on_windows name =
    same_text name (codes "after") || same_text name (codes "bind") || same_text name (codes "bindtags") || same_text name (codes "destroy")
    || same_text name (codes "event") || same_text name (codes "focus") || same_text name (codes "pack") || same_text name (codes "tk_focusNext")
    || same_text name (codes "tk_focusPrev")

-- whether a name is that of a built-in command
abbrev pub is_built_in : List ℕ → Bool
is_built_in name = is_some (command_named name) || runs_scripts name || makes_window name || acts_on_windows name
