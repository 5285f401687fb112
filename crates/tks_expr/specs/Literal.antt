-- Operands that stand for themselves (expr(n), "Operands"): integers and truth words.
use Rattle.std.specs.Prelude.{ℕ, ◌+◌, Bool, ◌==◌, List, [], ◌∷◌, is_some, take, if◌then◌else◌}
use Rattle.std.specs.Char.{is_digit}
use Rattle.std.specs.List.{prefix_len}
use Rattle.tks_text.specs.Truth.{truth_of_word}
use Rattle.tks_expr.specs.Sign.{is_letter}

-- how many digits of a base a text begins with
abbrev pub digits_len : ℕ → List ℕ → ℕ
digits_len base t = prefix_len (λ c. is_digit c base) t

-- behind a `0`: `x` and hex digits, of which there is one, or octal digits
abbrev pub behind_zero_len : List ℕ → ℕ
behind_zero_len [] = 1
behind_zero_len (c ∷ u) = if c == 120 then (if digits_len 16 u == 0 then 0 else 2 + digits_len 16 u) else 1 + digits_len 8 (c ∷ u)

-- how many bytes the integer takes that a text begins with, 0 where it begins with none
unfoldable pub numeral_len : List ℕ → ℕ
numeral_len [] = 0
numeral_len (c ∷ u) = if c == 48 then behind_zero_len u else digits_len 10 (c ∷ u)

abbrev pub is_truth_word : List ℕ → Bool
is_truth_word t = is_some (truth_of_word t)

-- how many bytes the truth word takes that a text begins with
unfoldable pub word_len : List ℕ → ℕ
word_len t = let n = prefix_len is_letter t in if is_truth_word (take n t) then n else 0

-- how many bytes the literal takes that a text begins with, 0 where it begins with none
unfoldable pub literal_len : List ℕ → ℕ
literal_len t = if numeral_len t == 0 then word_len t else numeral_len t
