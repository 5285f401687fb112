-- The entries of a map that are still to come.
use Rattle.std.specs.Prelude.{ℕ, List}
use Rattle.tks_share.specs.Names.{behind}
use Rattle.tks_share.specs.declared.iter.Ahead.{Ahead}
use Rattle.tks_share.specs.declared.iter.Ahead.TheVariants as ahead

module _ {V : Type 0} where
  abbrev pub those_ahead : Ahead → List (List ℕ × V) → List (List ℕ × V)
  those_ahead ahead.All all = all
  those_ahead (ahead.Behind name) all = behind name all
