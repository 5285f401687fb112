-- What a text may know of itself as a list.
use Rattle.std.specs.Prelude.{◌≡◌, ℕ, Bool, true, List, ◌++◌, Option, Some, IfSome}
use Rattle.tks_list.specs.Growing.{IsSpelled}
use Rattle.tks_list.specs.Reading.{list_of}

-- that it is spelled as lists are, and the list that it splits into
pub record Knows (is_spelled : Bool) (list : Option (List (List ℕ))) (text : List ℕ) : Type 0 where
  pub spelled : is_spelled ≡ true → IsSpelled text
  pub kept : IfSome list (λ l. list_of text ≡ Some l)

-- a list, and then the one with the elements of a text behind it
pub record IsLonger (before : List (List ℕ)) (text : List ℕ) (after : List (List ℕ)) : Type 0 where
  pub elements : List (List ℕ)
  pub is_read : list_of text ≡ Some elements
  pub now : after ≡ before ++ elements

-- the same of a list that was kept, of which the elements join it
pub record GrowsSo (list : Option (List (List ℕ))) (joins : Bool) (text : List ℕ) (after : List (List ℕ)) : Type 0 where
  pub before : List (List ℕ)
  pub was : list ≡ Some before
  pub joined : joins ≡ true
  pub longer : IsLonger before text after
