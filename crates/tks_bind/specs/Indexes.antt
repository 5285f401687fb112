-- By which index the code finds a binding.
use Rattle.std.specs.Prelude.{ℕ, suc, if◌then◌else◌, List, [], ◌∷◌}
use Rattle.tks_event.specs.declared.pattern.Pattern.{Pattern}
use Rattle.tks_bind.specs.declared.binding.Binding.{Binding}
use Rattle.tks_bind.specs.Binding.{is_for}

-- the index of the binding of a tag and a sequence, or the end
abbrev pub index_of : List ℕ → List Pattern → List Binding → ℕ
index_of tag sequence [] = 0
index_of tag sequence (b ∷ bs) = if is_for tag sequence b then 0 else suc (index_of tag sequence bs)
