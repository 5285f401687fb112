-- Texts that lie one behind the other in one.
use Rattle.std.specs.Prelude.{ℕ, ◌≤◌, List, take, drop}
use Rattle.std.specs.List.{AllByRecursion}
use Rattle.tks_list.specs.declared.elements.Span.{Span}

-- the bytes of a text that stand in a span
abbrev pub cut : List ℕ → Span → List ℕ
cut text span = drop span.start (take span.end text)

-- spans that end within so many bytes
abbrev pub AllEnd : ℕ → List Span → Type 0
AllEnd len spans = AllByRecursion (λ (s : Span). s.end ≤ len) spans

-- a text that is being cut into elements, and those so far
pub record CutSoFar : Type 0 where
  pub text : List ℕ
  pub list : List (List ℕ)
