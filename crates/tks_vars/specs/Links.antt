-- Names that are made links one after the other (global(n)).
use Rattle.std.specs.Prelude.{◌≡◌, ◌<◌, ℕ, false, List, [], ◌∷◌, Some, Ok, IfSome}
use Rattle.std.specs.FinMap as map
use Rattle.tks_vars.specs.Few.{Entry, Lacks}
use Rattle.tks_vars.specs.Names.{named, whole}
use Rattle.tks_vars.specs.Variables.{Variables, Frame, with_link, with_global_link, grown_by_link}

-- the name is that of a whole variable, and stands neither among the first ones nor in the rest
pub record IsNew (name : List ℕ) (first : List Entry) (rest : Frame) : Type 0 where
  pub is_whole : named name ≡ Some (whole name)
  pub lacking : Lacks name first
  pub absent : map.contains_key rest name ≡ false

-- a procedure's frame became another by links of these names, each made while it had fewer than so many names
abbrev pub IsLinked : ℕ → List (List ℕ) → Frame → Frame → Type 0
IsLinked most [] old new = new ≡ old
IsLinked most (name ∷ names) old new = (next : Frame) × (map.len old < most) × (with_link old name ≡ Ok next) × IsLinked most names next new

-- the same of all variables: each link that joined those of the present frame was made while these were fewer than so many
abbrev pub AreLinked : ℕ → List (List ℕ) → Variables → Variables → Type 0
AreLinked most [] old new = new ≡ old
AreLinked most (name ∷ names) old new = (next : Variables) × IfSome (grown_by_link old name) (λ n. n < most) × (with_global_link old name ≡ Ok next) × AreLinked most names next new
