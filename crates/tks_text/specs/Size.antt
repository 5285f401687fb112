-- The grid's size (this project's own rule).
use Rattle.std.specs.Prelude.{ℕ, ◌≤◌}

-- a size in cells
pub record Extent : Type 0 where
  pub width : ℕ
  pub height : ℕ

-- what a grid may have
abbrev pub IsGridSize : ℕ → ℕ → Type 0
IsGridSize width height = (1 ≤ width) × (width ≤ 200) × (1 ≤ height) × (height ≤ 100)
