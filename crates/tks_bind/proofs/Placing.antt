-- Bindings by their index.
use Rattle.std.specs.List.{remove}
use Rattle.std.proofs.Common.{◌≡◌, ◌≤◌, ◌<◌, ℕ, zero, suc, Bool, true, false, List, [], ◌∷◌, ◌++◌, length, slice_get, slice_set, Some, refl, ap, arith}
use Rattle.tks_event.specs.declared.pattern.Pattern.{Pattern}
use Rattle.tks_bind.specs.declared.binding.Binding.{Binding}
use Rattle.tks_bind.specs.Binding.{is_for, placed, without}
use Rattle.tks_bind.specs.Indexes.{index_of}

-- where it is there, it is replaced
pub placed_there : (b : Binding) (bs : List Binding) → index_of b.tag b.sequence bs < length bs → slice_set bs (index_of b.tag b.sequence bs) b ≡ placed b bs
placed_there b [] h = absurd (omega arith)
placed_there b (c ∷ cs) h = by (is_for b.tag b.sequence c) refl h (placed_there b cs)
  where
    by : (t : Bool) → is_for b.tag b.sequence c ≡ t → index_of b.tag b.sequence (c ∷ cs) < suc (length cs)
        → (index_of b.tag b.sequence cs < length cs → slice_set cs (index_of b.tag b.sequence cs) b ≡ placed b cs)
        → slice_set (c ∷ cs) (index_of b.tag b.sequence (c ∷ cs)) b ≡ placed b (c ∷ cs)
    by true e i rest = rw e refl
    by false e i rest = rw e (let j : suc (index_of b.tag b.sequence cs) < suc (length cs) = rw e at i in ap (λ r. c ∷ r) (rest (omega arith)))

-- where it isn't, it comes last
pub placed_last : (b : Binding) (bs : List Binding) → length bs ≤ index_of b.tag b.sequence bs → bs ++ b ∷ [] ≡ placed b bs
placed_last b [] h = refl
placed_last b (c ∷ cs) h = by (is_for b.tag b.sequence c) refl h (placed_last b cs)
  where
    by : (t : Bool) → is_for b.tag b.sequence c ≡ t → suc (length cs) ≤ index_of b.tag b.sequence (c ∷ cs)
        → (length cs ≤ index_of b.tag b.sequence cs → cs ++ b ∷ [] ≡ placed b cs) → (c ∷ cs) ++ b ∷ [] ≡ placed b (c ∷ cs)
    by true e i rest = absurd (let j : suc (length cs) ≤ 0 = rw e at i in omega arith)
    by false e i rest = rw e (let j : suc (length cs) ≤ suc (index_of b.tag b.sequence cs) = rw e at i in ap (λ r. c ∷ r) (rest (omega arith)))

pub taken_there : (tag : List ℕ) (s : List Pattern) (bs : List Binding) → index_of tag s bs < length bs → remove bs (index_of tag s bs) ≡ without tag s bs
taken_there tag s [] h = absurd (omega arith)
taken_there tag s (c ∷ cs) h = by (is_for tag s c) refl h (taken_there tag s cs)
  where
    by : (t : Bool) → is_for tag s c ≡ t → index_of tag s (c ∷ cs) < suc (length cs) → (index_of tag s cs < length cs → remove cs (index_of tag s cs) ≡ without tag s cs)
        → remove (c ∷ cs) (index_of tag s (c ∷ cs)) ≡ without tag s (c ∷ cs)
    by true e i rest = rw e refl
    by false e i rest = rw e (let j : suc (index_of tag s cs) < suc (length cs) = rw e at i in ap (λ r. c ∷ r) (rest (omega arith)))

pub none_taken : (tag : List ℕ) (s : List Pattern) (bs : List Binding) → length bs ≤ index_of tag s bs → bs ≡ without tag s bs
none_taken tag s [] h = refl
none_taken tag s (c ∷ cs) h = by (is_for tag s c) refl h (none_taken tag s cs)
  where
    by : (t : Bool) → is_for tag s c ≡ t → suc (length cs) ≤ index_of tag s (c ∷ cs) → (length cs ≤ index_of tag s cs → cs ≡ without tag s cs)
        → c ∷ cs ≡ without tag s (c ∷ cs)
    by true e i rest = absurd (let j : suc (length cs) ≤ 0 = rw e at i in omega arith)
    by false e i rest = rw e (let j : suc (length cs) ≤ suc (index_of tag s cs) = rw e at i in ap (λ r. c ∷ r) (rest (omega arith)))

-- what was placed is there
pub there_set : (b : Binding) (bs : List Binding) (i : ℕ) → i < length bs → slice_get (slice_set bs i b) i ≡ Some b
there_set b [] i h = absurd (omega arith)
there_set b (c ∷ cs) zero h = refl
there_set b (c ∷ cs) (suc i) h = there_set b cs i (omega arith)

pub there_last : (b : Binding) (bs : List Binding) → length bs ≤ index_of b.tag b.sequence bs → slice_get (bs ++ b ∷ []) (index_of b.tag b.sequence bs) ≡ Some b
there_last b [] h = refl
there_last b (c ∷ cs) h = by (is_for b.tag b.sequence c) refl h (there_last b cs)
  where
    by : (t : Bool) → is_for b.tag b.sequence c ≡ t → suc (length cs) ≤ index_of b.tag b.sequence (c ∷ cs)
        → (length cs ≤ index_of b.tag b.sequence cs → slice_get (cs ++ b ∷ []) (index_of b.tag b.sequence cs) ≡ Some b)
        → slice_get ((c ∷ cs) ++ b ∷ []) (index_of b.tag b.sequence (c ∷ cs)) ≡ Some b
    by true e i rest = absurd (let j : suc (length cs) ≤ 0 = rw e at i in omega arith)
    by false e i rest = rw e (let j : suc (length cs) ≤ suc (index_of b.tag b.sequence cs) = rw e at i in rest (omega arith))
