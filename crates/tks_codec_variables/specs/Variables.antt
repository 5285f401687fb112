-- Variables and procedures as bytes (this project's own format), where no frame was begun.
use Rattle.std.specs.Prelude.{ℕ, List, [], ◌∷◌}
use Rattle.tks_vars.specs.Table.{Map}
use Rattle.tks_vars.specs.Variables.{Variables, at_global_level}
use Rattle.tks_vars.specs.declared.content.Content.{Content}
use Rattle.tks_vars.specs.declared.procedure.Procedure.{Procedure}
use Rattle.tks_spelling.specs.Spelling.{Read, Spelling, field, through}
use Rattle.tks_codec_variables.specs.Table.{table}
use Rattle.tks_codec_variables.specs.Globals.{content}
use Rattle.tks_codec_variables.specs.Procedures.{procedure}

-- the globals
abbrev pub globals : Spelling (Map Content)
globals = table content

-- the procedures
abbrev pub procedures : Spelling (Map Procedure)
procedures = table procedure

-- the globals, and the procedures behind them
abbrev pub variables : Spelling Variables
variables =
    field (λ v. v.globals) globals (λ globals.
    through (λ v. v.procedures) (at_global_level globals) procedures)

-- the spellings of these parts
abbrev pub variables_parts : Variables → List (List ℕ)
variables_parts v = globals.write v.globals ∷ procedures.write v.procedures ∷ []

-- those at the front of bytes, and what stands behind them
unfoldable pub variables_at : List ℕ → Read Variables
variables_at bytes = variables.read bytes
