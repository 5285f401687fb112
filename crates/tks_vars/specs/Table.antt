-- Maps from names.
use Rattle.std.specs.Prelude.{◌≡◌, ℕ, true, List}
use Rattle.std.specs.Ordering.{nat_cmp}
use Rattle.std.specs.Cmp.Lexicographic.{slice_cmp}
use Rattle.std.specs.Coded.{Coded-set, coded_bool, le_prop}
use Rattle.std.specs.FinMap as fin
use Rattle.std.specs.List.{AllByRecursion-prop}
use Rattle.tks_text.specs.Short.{IsShort}
use Rattle.tks_text.specs.Text.{IsText, IsTextByte}

-- finite maps from names to values
abbrev pub Map : Type 0 → Type 0
Map V = fin.FinMap (slice_cmp nat_cmp) V

-- what stands in a table as a name: a text
pub record IsName (name : List ℕ) : Type 0 where
  pub text : IsText name
  pub short : IsShort name

-- there is one proof at most that a list is a name
pub IsName-prop : (name : List ℕ) → IsProp (IsName name)
IsName-prop name x y =
    λ i. record {
      text = AllByRecursion-prop IsTextByte (λ b. Coded-set coded_bool _ _) name x.text y.text i;
      short = le_prop x.short y.short i;
    }

-- each name in a table is one
abbrev pub AreNames : {V : Type 0} → Map V → Type 0
AreNames m = (name : List ℕ) → fin.contains_key m name ≡ true → IsName name

-- the same of an entry
abbrev pub HasName : {V : Type 0} → List ℕ × V → Type 0
HasName e = IsName e.0
