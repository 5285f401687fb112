-- The form of `if` (if(n)): conditions in turn, each with the body that runs where it is the first that
-- holds, and the body that runs where none holds. That `then`, `elseif` and `else` are never conditions or
-- bodies is this project's own rule.
use Rattle.std.specs.Prelude.{ℕ, Bool, ◌||◌, if◌then◌else◌, codes, List, [], ◌∷◌, ◌++◌, Option, Some, None}
use Rattle.tks_text.specs.Text.{same_text}

-- a condition, and the body that runs where it is the first that holds
pub record Test : Type 0 where
  pub condition : List ℕ
  pub body : List ℕ

-- what an `if` may yet run: its tests, and the body for where none holds
pub record Branches : Type 0 where
  pub tests : List Test
  pub otherwise : Option (List ℕ)

abbrev pub is_keyword : List ℕ → Bool
is_keyword word = same_text word (codes "then") || same_text word (codes "elseif") || same_text word (codes "else")

abbrev pub with_test : List Test → List ℕ → List ℕ → List Test
with_test tests condition body = tests ++ record { condition = condition; body = body } ∷ []

-- words of another form
abbrev pub no_branches : Option Branches
no_branches = None

-- the body behind `else`, or where that is left out
abbrev pub with_last : List Test → List (List ℕ) → Option Branches
with_last tests (body ∷ []) = if is_keyword body then None else Some (record { tests = tests; otherwise = Some body })
with_last tests words = None

-- what an `if` may have next: a condition; behind one, `then` or a body; a body; or behind one, `elseif`, `else`, the
-- last body or the end
pub data Place : Type 0 where
  Condition : Place
  BehindCondition : (condition : List ℕ) → Place
  Body : (condition : List ℕ) → Place
  BehindBody : Place

-- condition ?then? body ?elseif condition ?then? body ..? ?else? ?body?, at such a place behind the tests that are there
abbrev pub branches : Place → List Test → List (List ℕ) → Option Branches
branches BehindBody tests [] = Some (record { tests = tests; otherwise = None })
branches place tests [] = None
branches Condition tests (word ∷ words) = if is_keyword word then None else branches (BehindCondition word) tests words
branches (BehindCondition condition) tests (word ∷ words) =
    if same_text word (codes "then") then branches (Body condition) tests words
    else (if is_keyword word then None else branches BehindBody (with_test tests condition word) words)
branches (Body condition) tests (word ∷ words) = if is_keyword word then None else branches BehindBody (with_test tests condition word) words
branches BehindBody tests (word ∷ words) =
    if same_text word (codes "elseif") then branches Condition tests words
    else (if same_text word (codes "else") then with_last tests words else with_last tests (word ∷ words))
