-- A part of a text.
use Rattle.std.specs.Prelude.{ℕ, ◌-◌, List, take, drop}

-- what stands from one place up to another
abbrev pub part : {X : Type 0} → ℕ → ℕ → List X → List X
part first last xs = take (last - first) (drop first xs)
