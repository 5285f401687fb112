-- Bindings as bytes (this project's own format).
use Rattle.std.specs.Prelude.{ℕ, ◌==◌, Bool, not, List, [], ◌∷◌}
use Rattle.std.specs.Int.{w64}
use Rattle.tks_event.specs.declared.pattern.Pattern.{Pattern}
use Rattle.tks_bind.specs.declared.binding.Binding.{Binding}
use Rattle.tks_bind.specs.Binding.{is_for}
use Rattle.tks_bind.specs.WellFormed.{are_bindings}
use Rattle.tks_spelling.specs.Spelling.{Read, Spelling, number, such_that, field, through, pair, list, text}
use Rattle.tks_codec_events.specs.Sequence.{sequence}

-- a binding: its number, its tag, its sequence, its script
abbrev pub binding : Spelling Binding
binding =
    field (λ b. b.number) (number w64) (λ n.
    field (λ b. b.tag) text (λ tag.
    field (λ b. b.sequence) sequence (λ s.
    through (λ b. b.script) (λ script. record { number = n; tag = tag; sequence = s; script = script }) text)))

-- the spellings of its parts
abbrev pub binding_parts : Binding → List (List ℕ)
binding_parts b = (number w64).write b.number ∷ text.write b.tag ∷ sequence.write b.sequence ∷ text.write b.script ∷ []

-- whether two have other numbers
abbrev pub numbers_differ : Binding → Binding → Bool
numbers_differ b c = not (b.number == c.number)

-- whether they have other tags or other sequences
abbrev pub tags_or_sequences_differ : Binding → Binding → Bool
tags_or_sequences_differ b c = not (is_for b.tag b.sequence c)

-- a tag and a sequence, which have one binding at most
abbrev pub tag_and_sequence : Spelling (List ℕ × List Pattern)
tag_and_sequence = pair text sequence

-- the binding at the front of bytes, and what stands behind it
unfoldable pub binding_at : List ℕ → Read Binding
binding_at bytes = binding.read bytes

-- bindings in the order in which they were made, given the next number
abbrev pub bindings : ℕ → Spelling (List Binding)
bindings next = such_that (are_bindings next) (list binding)

-- those at the front of bytes, and what stands behind them
unfoldable pub bindings_at : ℕ → List ℕ → Read (List Binding)
bindings_at next bytes = (bindings next).read bytes
