-- Globals as bytes (this project's own format): under each name a scalar or an array.
use Rattle.std.specs.Prelude.{ℕ, ◌==◌, List, []}
use Rattle.std.specs.FinMap as map
use Rattle.tks_vars.specs.Table.{Map}
use Rattle.tks_vars.specs.declared.content.Content.{Content}
use Rattle.tks_vars.specs.declared.content.Content.TheVariants.{Scalar, Array}
use Rattle.tks_spelling.specs.Spelling.{Read, Spelling, byte, text, such_that, is_flag, field, through, which, none}
use Rattle.tks_codec_variables.specs.Table.{table}

-- 0 for a scalar, 1 for an array
abbrev pub tag_of : Content → ℕ
tag_of (Scalar value) = 0
tag_of (Array elements) = 1

-- a scalar's value; an array has none
abbrev pub value_of : Content → List ℕ
value_of (Scalar value) = value
value_of (Array elements) = []

-- an array's elements; a scalar has none
abbrev pub elements_of : Content → Map (List ℕ)
elements_of (Scalar value) = map.empty
elements_of (Array elements) = elements

abbrev pub scalar : Spelling Content
scalar = through value_of (λ value. Scalar value) text

abbrev pub array : Spelling Content
array = through elements_of (λ elements. Array elements) (table text)

-- what stands behind this tag
abbrev pub behind_tag : ℕ → Spelling Content
behind_tag tag = which (tag == 0) scalar (which (tag == 1) array none)

-- a scalar or an array
abbrev pub content : Spelling Content
content = field tag_of (such_that is_flag byte) behind_tag

-- the one at the front of bytes, and what stands behind it
unfoldable pub content_at : List ℕ → Read Content
content_at bytes = content.read bytes
