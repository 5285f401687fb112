-- Numbers that differ, told one by one from the front: each is none of those that were seen before.
use Rattle.std.proofs.Common.{◌≡◌, ℕ, Bool, true, false, not, ◌&&◌, ◌||◌, ◌==◌, List, [], ◌∷◌, refl, ap, ◌∙◌}
use Rattle.tks_state.specs.Restoring.{is_among, are_distinct}

-- none of them was seen, nor is one there twice
abbrev pub are_new : (ℕ → Bool) → List ℕ → Bool
are_new seen [] = true
are_new seen (n ∷ ns) = not (seen n) && are_new (λ m. n == m || seen m) ns

swapped : (a b c : Bool) → (a || (b || c)) ≡ (b || (a || c))
swapped true true c = refl
swapped true false c = refl
swapped false b c = refl

shuffled : (a b c d : Bool) → (not (a || b) && (not c && d)) ≡ (not (a || c) && (not b && d))
shuffled true b c d = refl
shuffled false true true d = refl
shuffled false true false d = refl
shuffled false false c d = refl

-- what was seen counts alone by which numbers are there
pub same_new : (f g : ℕ → Bool) → ((n : ℕ) → f n ≡ g n) → (ns : List ℕ) → are_new f ns ≡ are_new g ns
same_new f g e [] = refl
same_new f g e (n ∷ ns) =
    ap (λ b. not b && are_new (λ m. n == m || f m) ns) (e n)
    ∙ ap (λ b. not (g n) && b) (same_new (λ m. n == m || f m) (λ m. n == m || g m) (λ m. ap (λ b. n == m || b) (e m)) ns)

-- one more that was seen is none of them
one_more : (n : ℕ) (f : ℕ → Bool) (ns : List ℕ) → are_new (λ m. n == m || f m) ns ≡ (not (is_among n ns) && are_new f ns)
one_more n f [] = refl
one_more n f (m ∷ ms) =
    ap (λ b. not (n == m || f m) && b)
    (same_new (λ k. m == k || (n == k || f k)) (λ k. n == k || (m == k || f k)) (λ k. swapped (m == k) (n == k) (f k)) ms
    ∙ one_more n (λ k. m == k || f k) ms)
    ∙ shuffled (n == m) (f m) (is_among n ms) (are_new (λ k. m == k || f k) ms)

-- where none was seen before, they differ
pub all_new : (f : ℕ → Bool) → ((n : ℕ) → f n ≡ false) → (ns : List ℕ) → are_new f ns ≡ are_distinct ns
all_new f e [] = refl
all_new f e (n ∷ ns) =
    ap (λ b. not b && are_new (λ m. n == m || f m) ns) (e n)
    ∙ one_more n f ns
    ∙ ap (λ b. not (is_among n ns) && b) (all_new f e ns)
