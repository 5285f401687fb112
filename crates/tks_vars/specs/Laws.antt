-- What holds of variables, in the words of scripts (set(n), unset(n), global(n), proc(n)).
use Rattle.std.specs.Prelude.{◌≡◌, ◌≢◌, ◌⊎◌, ◌==◌, true, not, ℕ, List, [], ◌++◌, length, drop, codes, Option, Some, None, Ok, Err}
use Rattle.std.specs.List.{list_all}
use Rattle.tks_text.specs.declared.fault.ErrorNumber.TheVariants.{NoSuchVariable}
use Rattle.tks_text.specs.Fault.{fault_about}
use Rattle.tks_vars.specs.Names.{Name, named}
use Rattle.tks_vars.specs.Variables.{Variables, value_of, with_value, without, with_global_link, global_value_of, with_global_value}

-- of two indices, that they are of different elements
abbrev pub OfOtherElements : Option (List ℕ) → Option (List ℕ) → Type 0
OfOtherElements None j = ⊥
OfOtherElements (Some i) None = ⊥
OfOtherElements (Some i) (Some j) = i ≢ j

-- two names of different variables, or of different elements of one
abbrev pub Apart : Name → Name → Type 0
Apart n o = (n.variable ≢ o.variable) ⊎ OfOtherElements n.index o.index

-- what two texts name is apart
pub record NameApart (text other : List ℕ) : Type 0 where
  pub first : Name
  pub second : Name
  pub is_first : named text ≡ Some first
  pub is_second : named other ≡ Some second
  pub apart : Apart first second

-- what was set is got
abbrev pub SetIsGot : Variables → List ℕ → List ℕ → Variables → Type 0
SetIsGot v name value new = with_value v name value ≡ Ok new → value_of new name ≡ Ok value

-- what is apart stays as it was
abbrev pub SetLeavesOthers : Variables → List ℕ → List ℕ → Variables → Type 0
SetLeavesOthers v name value new = (other : List ℕ) → NameApart name other → with_value v name value ≡ Ok new → value_of new other ≡ value_of v other

-- what was unset is gone
abbrev pub UnsetIsGone : Variables → List ℕ → Variables → Type 0
UnsetIsGone v name new = without v name ≡ Ok new → value_of new name ≡ Err (fault_about NoSuchVariable name)

abbrev pub UnsetLeavesOthers : Variables → List ℕ → Variables → Type 0
UnsetLeavesOthers v name new = (other : List ℕ) → NameApart name other → without v name ≡ Ok new → value_of new other ≡ value_of v other

-- a link has the value of the global
abbrev pub LinkReads : Variables → List ℕ → Variables → Type 0
LinkReads v name new = with_global_link v name ≡ Ok new → value_of new name ≡ global_value_of new name

-- what a link is given the global is given
abbrev pub LinkWrites : Variables → List ℕ → Variables → Type 0
LinkWrites v name new = (value : List ℕ) → with_global_link v name ≡ Ok new → with_value new name value ≡ with_global_value new name value

-- a text names an element: the variable, `(`, the index, `)`, and no `(` in the variable, which has a name
pub record NamesElement (text variable index : List ℕ) : Type 0 where
  pub spelled : text ≡ variable ++ (codes "(" ++ (index ++ codes ")"))
  pub some : variable ≢ []
  pub first : list_all (λ b. not (b == 40)) variable ≡ true

-- the frames below the innermost stay, and there are as many
pub record FramesStay (before after : Variables) : Type 0 where
  pub below : drop 1 after.locals ≡ drop 1 before.locals
  pub count : length after.locals ≡ length before.locals
