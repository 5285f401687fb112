-- The numbers by which bytes tell a side and a way of filling (this project's own).
use Rattle.std.specs.Prelude.{ℕ, List, [], ◌∷◌, Option, slice_get}
use Rattle.tks_pack.specs.declared.settings.Side.{Side}
use Rattle.tks_pack.specs.declared.settings.Side.TheVariants as side
use Rattle.tks_pack.specs.declared.settings.Fill.{Fill}
use Rattle.tks_pack.specs.declared.settings.Fill.TheVariants as fill

-- sides, each in the place of its number
abbrev pub sides_in_order : List Side
sides_in_order = side.Top ∷ side.Bottom ∷ side.Left ∷ side.Right ∷ []

abbrev pub side_numbered : ℕ → Option Side
side_numbered number = slice_get sides_in_order number

abbrev pub side_number : Side → ℕ
side_number side.Top = 0
side_number side.Bottom = 1
side_number side.Left = 2
side_number side.Right = 3

-- ways of filling, each in the place of its number
abbrev pub fills_in_order : List Fill
fills_in_order = fill.Neither ∷ fill.X ∷ fill.Y ∷ fill.Both ∷ []

abbrev pub fill_numbered : ℕ → Option Fill
fill_numbered number = slice_get fills_in_order number

abbrev pub fill_number : Fill → ℕ
fill_number fill.Neither = 0
fill_number fill.X = 1
fill_number fill.Y = 2
fill_number fill.Both = 3
