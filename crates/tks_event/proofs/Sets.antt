-- Sets of modifiers as numbers.
use Rattle.std.proofs.Common.{◌≡◌, ℕ, ◌<◌, max, sym, ap, ◌∙◌, arith}
use Rattle.std.specs.Prelude.{bit_or}
use Rattle.std.specs.Int.{bit_at}
use Rattle.std.proofs.lemmas.Nat.{or_lt}
use Rattle.std.proofs.lemmas.Nat.Bits.{bit_at_or, same_from_bits}

pub or_within : (a b : ℕ) → a < 8_192 → b < 8_192 → bit_or a b < 8_192
or_within a b h k = or_lt 13 a b h k

max_assoc : (a b c : ℕ) → max (max a b) c ≡ max a (max b c)
max_assoc a b c = omega arith

pub or_assoc : (a b c : ℕ) → bit_or (bit_or a b) c ≡ bit_or a (bit_or b c)
or_assoc a b c =
    same_from_bits (bit_or (bit_or a b) c) (bit_or a (bit_or b c))
    (λ i. bit_at_or (bit_or a b) c i ∙ ap (λ n. max n (bit_at c i)) (bit_at_or a b i) ∙ max_assoc (bit_at a i) (bit_at b i) (bit_at c i)
    ∙ sym (ap (λ n. max (bit_at a i) n) (bit_at_or b c i)) ∙ sym (bit_at_or a (bit_or b c) i))
