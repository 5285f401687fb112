-- The commands that end with a code of their own (break(n), continue(n), return(n), error(n)).
use Rattle.std.specs.Prelude.{ℕ, if◌then◌else◌, List, [], ◌∷◌, codes, Option, Some, None, Result, Ok}
use Rattle.tks_text.specs.Text.{same_text}
use Rattle.tks_text.specs.declared.limits.Limits.{Limits}
use Rattle.tks_tcl.specs.Cause.{Cause, after, wrong_words, within}

-- a code, without words
abbrev pub bare_code : ℕ → List ℕ → List (List ℕ) → Result (ℕ × List ℕ) Cause
bare_code code command [] = Ok (code, [])
bare_code code command (word ∷ words) = wrong_words command

module _ (limits : Limits) where
  -- a code and a text
  abbrev pub says : ℕ → List ℕ → Result (ℕ × List ℕ) Cause
  says code text = after (within limits text) (λ text. Ok (code, text))

  -- return ?v?
  abbrev pub returns : List ℕ → List (List ℕ) → Result (ℕ × List ℕ) Cause
  returns command [] = Ok (2, [])
  returns command (value ∷ []) = says 2 value
  returns command words = wrong_words command

  -- error t
  abbrev pub raises : List ℕ → List (List ℕ) → Result (ℕ × List ℕ) Cause
  raises command (text ∷ []) = says 1 text
  raises command words = wrong_words command

-- a command with a code of its own: what it ends with, given the limits, its first word and the others
abbrev pub CodeCommand : Type 0
CodeCommand = Limits → List ℕ → List (List ℕ) → Result (ℕ × List ℕ) Cause

-- the one of this name
abbrev pub code_named : List ℕ → Option CodeCommand
code_named name =
    if same_text name (codes "break") then Some (λ limits. bare_code 3)
    else (if same_text name (codes "continue") then Some (λ limits. bare_code 4)
    else (if same_text name (codes "error") then Some raises
    else (if same_text name (codes "return") then Some returns
    else None)))
