-- Procedures as bytes (this project's own format): parameters and a body.
use Rattle.std.specs.Prelude.{ℕ, List, [], ◌∷◌}
use Rattle.tks_vars.specs.declared.procedure.Parameter.{Parameter}
use Rattle.tks_vars.specs.declared.procedure.Procedure.{Procedure}
use Rattle.tks_spelling.specs.Spelling.{Read, Spelling, text, list, option, field, through}

-- a parameter's name, and its default if it has one
abbrev pub parameter : Spelling Parameter
parameter =
    field (λ p. p.name) text (λ name.
    through (λ p. p.default) (λ default. record { name = name; default = default }) (option text))

-- the spellings of its parts
abbrev pub parameter_parts : Parameter → List (List ℕ)
parameter_parts p = text.write p.name ∷ (option text).write p.default ∷ []

-- the parameter at the front of bytes, and what stands behind it
unfoldable pub parameter_at : List ℕ → Read Parameter
parameter_at bytes = parameter.read bytes

-- the parameters, the body
abbrev pub procedure : Spelling Procedure
procedure =
    field (λ p. p.params) (list parameter) (λ params.
    through (λ p. p.body) (λ body. record { params = params; body = body }) text)

-- the spellings of its parts
abbrev pub procedure_parts : Procedure → List (List ℕ)
procedure_parts p = (list parameter).write p.params ∷ text.write p.body ∷ []

-- the procedure at the front of bytes, and what stands behind it
unfoldable pub procedure_at : List ℕ → Read Procedure
procedure_at bytes = procedure.read bytes
