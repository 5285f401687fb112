-- What a crash may leave of a side after a write.
use Rattle.std.proofs.Common.{◌≡◌, ◌⊎◌, inl, inr, ◌<◌, ◌≤◌, ℕ, ◌+◌, min, Bool, true, false, ◌||◌, if◌then◌else◌, List, length, map, slice_index, refl, sym, ◌∙◌, ap, arith}
use Rattle.std.specs.List.{range_with_len}
use Rattle.std.proofs.lemmas.List.FromFn.{length-map-range_with_len, get_or-map-range_with_len}
use Rattle.std.proofs.lemmas.Grind.{same_number_lists}
use Rattle.std.proofs.lemmas.Bool.Decides.{nat_tests}
use Rattle.tks_disk.specs.DiskModel.{Torn}
use Rattle.tks_disk.specs.MemorySide.{SideState, settled, within, touched, SideLeaves, SideWritten, left_of}
use Rattle.tks_disk.specs.declared.left.Left.{Left}
use Rattle.tks_disk.specs.declared.left.Left.TheVariants.{Old, New, Fill}
use Rattle.tks_disk.specs.declared.span.Span.{Span}
use Rattle.tks_disk.proofs.Ranges.{touched_more, neither_true, write_keeps}

-- what a side reads as is one of the images that a crash may leave
abbrev pub Consistent : SideState → Type 0
Consistent side = SideLeaves side side.bytes

-- a place before the range or behind it isn't in it
pub outside : (s : Span) (k : ℕ) → (k < s.at) ⊎ (s.at + s.len ≤ k) → within s k ≡ false
outside s k (inl before) = grind (arith, nat_tests)
outside s k (inr behind) = grind (arith, nat_tests)

-- a write may tear whatever might have been left before
pub tears : (at : ℕ) (bytes : List ℕ) (old new : SideState) (before after : List ℕ) → SideWritten at bytes old new → SideLeaves old before → Torn at (length bytes) before after → SideLeaves new after
tears at bytes old new before after written left torn =
    let size = written.holds.size in
    record {
      no_shorter = omega (arith, ap length written.synced, left.no_shorter, torn.no_shorter);
      no_longer = omega (arith, size, left.no_longer, torn.no_longer);
      kept = λ k lt e.
          let s : Span = record { at = at; len = length bytes } in
          let lt' : k < length old.synced = omega (arith, ap length written.synced) in
          let both = neither_true (touched old.unsynced k) (within s k) (sym (ap (λ us. touched us k) written.noted ∙ touched_more old.unsynced s k) ∙ e) in
          write_keeps at (length bytes) before after s k refl refl torn (omega (arith, left.no_shorter)) both.1 ∙ left.kept k lt' both.0 ∙ ap (λ (l : List ℕ). slice_index l k) (sym written.synced);
    }

module _ (at : ℕ) (bytes : List ℕ) (old new : SideState) (after : List ℕ) where
  range : Span
  range = record { at = at; len = length bytes }

  abbrev byte_before : ℕ → ℕ
  byte_before k = if within (record { at = at; len = length bytes }) k then slice_index old.synced k else slice_index after k

  -- what might have been left before the write, where this is left after it
  abbrev before : List ℕ
  before = map byte_before (range_with_len 0 (min (length after) (length old.bytes)))

  before_long : length before ≡ min (length after) (length old.bytes)
  before_long = length-map-range_with_len byte_before 0 (min (length after) (length old.bytes))

  before_at : (k : ℕ) → k < min (length after) (length old.bytes) → slice_index before k ≡ byte_before k
  before_at k lt = get_or-map-range_with_len byte_before 0 (min (length after) (length old.bytes)) k k 0 lt (omega arith)

  before_in : (k : ℕ) → k < min (length after) (length old.bytes) → within (record { at = at; len = length bytes }) k ≡ true → slice_index before k ≡ slice_index old.synced k
  before_in k lt e = before_at k lt ∙ ap (λ (b : Bool). if b then slice_index old.synced k else slice_index after k) e

  before_out : (k : ℕ) → k < min (length after) (length old.bytes) → within (record { at = at; len = length bytes }) k ≡ false → slice_index before k ≡ slice_index after k
  before_out k lt e = before_at k lt ∙ ap (λ (b : Bool). if b then slice_index old.synced k else slice_index after k) e

  or_both : (a b : Bool) → a ≡ false → b ≡ false → (a || b) ≡ false
  or_both a b e f = rw (e, f) refl

  left_before : Consistent old → SideWritten at bytes old new → SideLeaves new after → SideLeaves old before
  left_before consistent written left = record {
    no_shorter = omega (arith, before_long, ap length written.synced, left.no_shorter, consistent.no_shorter);
    no_longer = omega (arith, before_long);
    kept = λ k lt e.
        let short : k < min (length after) (length old.bytes) = omega (arith, ap length written.synced, left.no_shorter, consistent.no_shorter) in
        by_place k lt short e (within (record { at = at; len = length bytes }) k) refl;
  }
    where
      by_place : (k : ℕ) → k < length old.synced → k < min (length after) (length old.bytes) → touched old.unsynced k ≡ false → (b : Bool) → within (record { at = at; len = length bytes }) k ≡ b → slice_index before k ≡ slice_index old.synced k
      by_place k lt short e true f = before_in k short f
      by_place k lt short e false f =
          let untouched : touched new.unsynced k ≡ false =
          ap (λ us. touched us k) written.noted ∙ touched_more old.unsynced (record { at = at; len = length bytes }) k ∙ or_both (touched old.unsynced k) (within (record { at = at; len = length bytes }) k) e f in
          before_out k short f ∙ left.kept k (omega (arith, ap length written.synced)) untouched ∙ ap (λ (l : List ℕ). slice_index l k) written.synced

  torn_before : SideWritten at bytes old new → SideLeaves new after → Torn at (length bytes) before after
  torn_before written left =
      let size = written.holds.size in
      record {
        no_shorter = omega (arith, before_long);
        no_longer = omega (arith, before_long, size, left.no_longer);
        below = λ k lt le. sym (before_out k (omega (arith, before_long)) (outside (record { at = at; len = length bytes }) k (inl le)));
        above = λ k lt le. sym (before_out k (omega (arith, before_long)) (outside (record { at = at; len = length bytes }) k (inr le)));
      }

-- what may be left after a write is torn from what might have been left before
pub untears : (at : ℕ) (bytes : List ℕ) (old new : SideState) (after : List ℕ) → Consistent old → SideWritten at bytes old new → SideLeaves new after
    → (before : List ℕ) × SideLeaves old before × Torn at (length bytes) before after
untears at bytes old new after consistent written left =
    (before at bytes old new after, left_before at bytes old new after consistent written left, torn_before at bytes old new after written left)

-- of a side that is all synced a crash leaves just that
pub settled_leaves : (bytes left : List ℕ) → SideLeaves (settled bytes) left → left ≡ bytes
settled_leaves bytes left leaves = same_number_lists left bytes (omega (arith, leaves.no_shorter, leaves.no_longer)) (λ k lt. leaves.kept k (omega (arith, leaves.no_shorter, leaves.no_longer)) refl)

pub settled_consistent : (bytes : List ℕ) → Consistent (settled bytes)
settled_consistent bytes = record { no_shorter = omega arith; no_longer = omega arith; kept = λ k lt e. refl }

-- what is left where it was asked for is one of the images
pub left_leaves : (left : Left) (side : SideState) → Consistent side → SideLeaves side (left_of left side)
left_leaves Old side was = record { no_shorter = omega arith; no_longer = was.no_shorter; kept = λ k lt e. refl }
left_leaves New side was = was
left_leaves (Fill byte) side was =
    let long = length-map-range_with_len (λ k. if touched side.unsynced k then byte else slice_index side.bytes k) 0 (length side.bytes) in
    record {
      no_shorter = omega (arith, long, was.no_shorter);
      no_longer = omega (arith, long);
      kept = λ k lt e.
          get_or-map-range_with_len (λ j. if touched side.unsynced j then byte else slice_index side.bytes j) 0 (length side.bytes) k k 0 (omega (arith, was.no_shorter)) (omega arith)
          ∙ ap (λ (b : Bool). if b then byte else slice_index side.bytes k) e ∙ was.kept k lt e;
    }
