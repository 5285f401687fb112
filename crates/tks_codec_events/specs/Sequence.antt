-- Sequences of events as bytes (this project's own format).
use Rattle.std.specs.Prelude.{ℕ, Bool, List, [], ◌∷◌, nat_lt}
use Rattle.std.specs.Int.{w16}
use Rattle.tks_event.specs.Modifiers.{all_bits}
use Rattle.tks_event.specs.Sequences.{is_sequence}
use Rattle.tks_event.specs.declared.pattern.Pattern.{Pattern}
use Rattle.tks_spelling.specs.Spelling.{Read, Spelling, number, such_that, field, through, flag, list, text}
use Rattle.tks_codec_events.specs.Kind.{kind}

-- sets of modifiers
abbrev pub is_set : ℕ → Bool
is_set bits = nat_lt bits all_bits

-- a set of modifiers: its bits
abbrev pub modifiers : Spelling ℕ
modifiers = such_that is_set (number w16)

-- a pattern: whether it is close behind the one before, the kind, the modifiers, the detail
abbrev pub pattern : Spelling Pattern
pattern =
    field (λ p. p.near) flag (λ near.
    field (λ p. p.kind) kind (λ k.
    field (λ p. p.modifiers) modifiers (λ set.
    through (λ p. p.detail) (λ detail. record { near = near; kind = k; modifiers = set; detail = detail }) text)))

-- the spellings of its parts
abbrev pub pattern_parts : Pattern → List (List ℕ)
pattern_parts p = flag.write p.near ∷ kind.write p.kind ∷ modifiers.write p.modifiers ∷ text.write p.detail ∷ []

-- the pattern at the front of bytes, and what stands behind it
unfoldable pub pattern_at : List ℕ → Read Pattern
pattern_at bytes = pattern.read bytes

-- patterns that are a sequence
abbrev pub sequence : Spelling (List Pattern)
sequence = such_that is_sequence (list pattern)

-- the sequence at the front of bytes, and what stands behind it
unfoldable pub sequence_at : List ℕ → Read (List Pattern)
sequence_at bytes = sequence.read bytes
