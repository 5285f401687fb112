-- Integers of any size: quotients that are rounded down, and bits in two's complement without end
-- (expr(n), "OPERATORS").
use Rattle.std.specs.Prelude.{◌⊎◌, ℕ, suc, ◌-◌, ◌/◌, ℤ, pos, negsuc, neg_ℤ, ◌-ℤ◌, ◌*ℤ◌, ◌≤ℤ◌, ◌<ℤ◌, bit_and, bit_or, bit_xor}
use Rattle.std.specs.Int.{bit_at}

-- an integer divided by a number, rounded down
abbrev pub divided : ℤ → ℕ → ℤ
divided (pos a) n = pos (a / n)
divided (negsuc a) n = negsuc (a / n)

-- the quotient of two integers, rounded down
abbrev pub quotient : ℤ → ℤ → ℤ
quotient x (pos n) = divided x n
quotient x (negsuc n) = divided (neg_ℤ x) (suc n)

-- what a division leaves
abbrev pub remainder : ℤ → ℤ → ℤ
remainder x y = x -ℤ quotient x y *ℤ y

-- r lies from 0 to y, without y
abbrev pub LiesBefore : ℤ → ℤ → Type 0
LiesBefore y r = ((pos 0 ≤ℤ r) × (r <ℤ y)) ⊎ ((r ≤ℤ pos 0) × (y <ℤ r))

-- ---- bits

-- bit k of an integer, 0 or 1
abbrev pub bit : ℤ → ℕ → ℕ
bit (pos n) k = bit_at n k
bit (negsuc n) k = 1 - bit_at n k

-- the bits of a that b doesn't have
abbrev pub bits_without : ℕ → ℕ → ℕ
bits_without a b = bit_xor a (bit_and a b)

-- each bit turned
abbrev pub complement : ℤ → ℤ
complement (pos n) = negsuc n
complement (negsuc n) = pos n

-- the bits that both have
abbrev pub bits_of_both : ℤ → ℤ → ℤ
bits_of_both (pos a) (pos b) = pos (bit_and a b)
bits_of_both (pos a) (negsuc b) = pos (bits_without a b)
bits_of_both (negsuc a) (pos b) = pos (bits_without b a)
bits_of_both (negsuc a) (negsuc b) = negsuc (bit_or a b)

-- the bits that one of them has, or both
abbrev pub bits_of_any : ℤ → ℤ → ℤ
bits_of_any x y = complement (bits_of_both (complement x) (complement y))

-- the bits that just one of them has
abbrev pub bits_of_one : ℤ → ℤ → ℤ
bits_of_one (pos a) (pos b) = pos (bit_xor a b)
bits_of_one (pos a) (negsuc b) = negsuc (bit_xor a b)
bits_of_one (negsuc a) (pos b) = negsuc (bit_xor a b)
bits_of_one (negsuc a) (negsuc b) = pos (bit_xor a b)
