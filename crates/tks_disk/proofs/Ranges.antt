-- Ranges of bytes that were written and not synced.
use Rattle.std.proofs.Common.{◌≡◌, ◌⊎◌, inl, inr, ◌<◌, ◌≤◌, ℕ, ◌+◌, Bool, true, false, ◌||◌, List, [], ◌∷◌, ◌++◌, length, slice_index, refl, arith}
use Rattle.std.proofs.lemmas.Bool.Decides.{nat_tests}
use Rattle.tks_disk.specs.DiskModel.{Torn}
use Rattle.tks_disk.specs.MemorySide.{within, touched}
use Rattle.tks_disk.specs.declared.span.Span.{Span}

or_none : (a : Bool) → (a || false) ≡ a
or_none true = refl
or_none false = refl

or_assoc : (a b c : Bool) → (a || (b || c)) ≡ ((a || b) || c)
or_assoc true b c = refl
or_assoc false b c = refl

-- one range more
pub touched_more : (spans : List Span) (s : Span) (k : ℕ) → touched (spans ++ s ∷ []) k ≡ (touched spans k || within s k)
touched_more [] s k = or_none (within s k)
touched_more (r ∷ spans) s k = rw (touched_more spans s k) (or_assoc (within r k) (touched spans k) (within s k))

-- a place that isn't in the range is before it or behind it
pub not_within : (s : Span) (k : ℕ) → within s k ≡ false → (k < s.at) ⊎ (s.at + s.len ≤ k)
not_within s k e = grind (arith, nat_tests)

pub neither_true : (a b : Bool) → (a || b) ≡ false → (a ≡ false) × (b ≡ false)
neither_true false b e = (refl, e)
neither_true true b e = absurd (grind (arith, nat_tests))

-- a place that a write doesn't touch keeps its byte
pub write_keeps : (at n : ℕ) (old new : List ℕ) (s : Span) (k : ℕ) → s.at ≡ at → s.len ≡ n → Torn at n old new → k < length old → within s k ≡ false → slice_index new k ≡ slice_index old k
write_keeps at n old new s k e f torn lt e' = beside (not_within s k e')
  where
    beside : (k < s.at) ⊎ (s.at + s.len ≤ k) → slice_index new k ≡ slice_index old k
    beside (inl before) = torn.below k lt (omega arith)
    beside (inr behind) = torn.above k lt (omega arith)
