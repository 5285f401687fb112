-- By which index the code finds a packed window.
use Rattle.std.specs.Prelude.{ℕ, suc, ◌==◌, ◌≤◌, if◌then◌else◌, List, [], ◌∷◌}
use Rattle.std.specs.List.{AllByRecursion}
use Rattle.tks_pack.specs.declared.packing.Content.{Content}

-- the index of a window among contents, or the end
abbrev pub index_of : ℕ → List Content → ℕ
index_of window [] = 0
index_of window (c ∷ rest) = if c.window == window then 0 else suc (index_of window rest)

-- no packed window has a greater number
abbrev pub AllUpTo : ℕ → List Content → Type 0
AllUpTo newest contents = AllByRecursion (λ c. c.window ≤ newest) contents
