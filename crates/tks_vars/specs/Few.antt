-- Names with what stands under them, in a list.
use Rattle.std.specs.Prelude.{◌≡◌, ◌≢◌, ℕ, List, [], ◌∷◌, length, Some, slice_get, slice_set}
use Rattle.std.specs.Coded.{Coded, coded×, coded_list, coded_ℕ}
use Rattle.std.specs.FinMap as fin
use Rattle.tks_vars.specs.Table.{Map}
use Rattle.tks_vars.specs.declared.content.Content.TheVariants.{Scalar, Array}
use Rattle.tks_vars.specs.declared.content.Local.{Local}
use Rattle.tks_vars.specs.declared.content.Local.TheVariants.{Own, Link}
use Rattle.tks_vars.specs.declared.procedure.Argument.{Argument}
use Rattle.tks_vars.specs.contracts.content.Local as local

-- a name, and what stands under it
abbrev pub Entry : Type 0
Entry = List ℕ × Local

abbrev pub entries_code : Coded (List Entry)
entries_code = coded_list (coded× (coded_list coded_ℕ) local.the_row.coded)

module _ {V : Type 0} where
  -- entries put in one after the other, the last one first
  abbrev pub put_behind : Map V → List (List ℕ × V) → Map V
  put_behind m [] = m
  put_behind m (e ∷ es) = fin.insert (put_behind m es) e.0 e.1

  -- each entry has a name of its own
  abbrev pub AreApart : List (List ℕ × V) → Type 0
  AreApart es = length es ≡ fin.len (put_behind fin.empty es)

  -- no entry has the name
  abbrev pub Lacks : List ℕ → List (List ℕ × V) → Type 0
  Lacks name [] = Unit {0}
  Lacks name (e ∷ es) = (e.0 ≢ name) × Lacks name es

  -- what stands at a place was changed, the change gave this answer, and nothing else is new
  pub record IsChangedAt {A : Type 0} (gives : V → V → A → Type 0) (place : ℕ) (old new : List (List ℕ × V)) (answer : A) : Type 0 where
    pub name : List ℕ
    pub before : V
    pub after : V
    pub found : slice_get old place ≡ Some (name, before)
    pub given : gives before after answer
    pub now : new ≡ slice_set old place (name, after)

-- The arguments of a call.

-- the value of a scalar
abbrev pub value_held : Local → List ℕ
value_held (Own (Scalar value)) = value
value_held (Own (Array elements)) = []
value_held Link = []

-- what the frame of the call holds of an argument
abbrev pub entry_of : Argument → Entry
entry_of x = (x.name, Own (Scalar x.value))

-- the argument of which it holds this
abbrev pub argument_of : Entry → Argument
argument_of e = record { name = e.0; value = value_held e.1 }
