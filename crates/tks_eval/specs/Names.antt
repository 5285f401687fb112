-- The commands that run scripts, and their names.
use Rattle.std.specs.Prelude.{ℕ, if◌then◌else◌, codes, List, Option, Some, None}
use Rattle.tks_text.specs.Text.{same_text}

-- the commands that run scripts, and `proc`
pub data Control : Type 0 where
  Catch : Control
  Eval : Control
  Expr : Control
  For : Control
  Foreach : Control
  If : Control
  Proc : Control
  While : Control

-- the command of this name that runs scripts
abbrev pub control_named : List ℕ → Option Control
control_named name =
    if same_text name (codes "catch") then Some Catch
    else (if same_text name (codes "eval") then Some Eval
    else (if same_text name (codes "expr") then Some Expr
    else (if same_text name (codes "for") then Some For
    else (if same_text name (codes "foreach") then Some Foreach
    else (if same_text name (codes "if") then Some If
    else (if same_text name (codes "proc") then Some Proc
    else (if same_text name (codes "while") then Some While
    else None)))))))
