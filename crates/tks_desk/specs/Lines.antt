-- The line at the front of what is read (this project's own rule). A newline ends a line; the last may lack it.
use Rattle.std.specs.Prelude.{ℕ, ◌==◌, if◌then◌else◌, List, [], ◌∷◌}

-- the line at the front, without its newline
abbrev pub first_line : List ℕ → List ℕ
first_line [] = []
first_line (b ∷ bytes) = if b == 10 then [] else b ∷ first_line bytes

-- what stands behind that line and its newline
abbrev pub after_line : List ℕ → List ℕ
after_line [] = []
after_line (b ∷ bytes) = if b == 10 then bytes else after_line bytes

-- what stands behind a newline, where one stands at the front
abbrev pub past_newline : List ℕ → List ℕ
past_newline [] = []
past_newline (b ∷ bytes) = if b == 10 then bytes else b ∷ bytes
