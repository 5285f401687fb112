-- Braces (Tcl(n), rule 6), and comments (rule 10), read from left to right. In both a backslash takes the
-- character behind it with it.
use Rattle.std.specs.Prelude.{ℕ, suc, ◌+◌, ◌-◌, Bool, ◌&&◌, ◌==◌, not, List, [], ◌∷◌, if◌then◌else◌}
use Rattle.std.specs.List.{prefix_len}
use Rattle.tks_text.specs.Run.{Step, stop, takes, run}
use Rattle.tks_text.specs.declared.fault.ScriptFault.{ScriptFault}
use Rattle.tks_text.specs.Backslash.{is_blank}

-- whether c is a backslash that quotes what follows, where `quoted` says whether c itself is quoted
abbrev pub quotes : Bool → ℕ → Bool
quotes quoted c = not quoted && (c == 92)

abbrev pub ends_comment : Bool → ℕ → Bool
ends_comment quoted c = not quoted && (c == 10)

-- the length of a comment's rest: up to a newline that no backslash quotes
abbrev pub comment_len : Bool → List ℕ → ℕ
comment_len quoted [] = 0
comment_len quoted (c ∷ u) = if ends_comment quoted c then 0 else suc (comment_len (quotes quoted c) u)

-- the close of the outer braces, inside which `held` more are open
abbrev pub ends_braces : ℕ → Bool → ℕ → Bool
ends_braces held quoted c = not quoted && (c == 125) && (held == 0)

abbrev pub held_behind : ℕ → Bool → ℕ → ℕ
held_behind held quoted c =
    if not quoted && (c == 123) then held + 1
    else (if not quoted && (c == 125) then held - 1
    else held)

-- the length of what stands in braces
abbrev pub braced_len : ℕ → Bool → List ℕ → ℕ
braced_len held quoted [] = 0
braced_len held quoted (c ∷ u) = if ends_braces held quoted c then 0 else suc (braced_len (held_behind held quoted c) (quotes quoted c) u)

-- behind a backslash in braces: a newline and blanks are a space
abbrev pub braced_escape : List ℕ → Step ScriptFault (List ℕ)
braced_escape [] = takes (λ x. 92 ∷ x) 0
braced_escape (c ∷ u) = if c == 10 then takes (λ x. 32 ∷ x) (1 + prefix_len is_blank u) else takes (λ x. 92 ∷ c ∷ x) 1

unfoldable pub verbatim_step : List ℕ → Step ScriptFault (List ℕ)
verbatim_step [] = stop
verbatim_step (c ∷ u) = if c == 92 then braced_escape u else takes (λ x. c ∷ x) 0

-- the value of what stands in braces
unfoldable pub verbatim : List ℕ → List ℕ
verbatim t = (run [] verbatim_step 0 t).items
