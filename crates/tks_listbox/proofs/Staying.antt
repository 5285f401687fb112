-- The active item stays on its item.
use Rattle.std.proofs.Common.{◌≡◌, ℕ, zero, suc, ◌+◌, ◌-◌, ◌<◌, ◌≤◌, ◌&&◌, nat_le, nat_lt, Bool, true, false, if◌then◌else◌, List, ◌++◌, length, drop, map, refl, sym, ap, subst, ◌∙◌, arith}
use Rattle.std.specs.Prelude.{slice_get}
use Rattle.std.proofs.lemmas.Bool.Decides.{nat_tests}
use Rattle.std.proofs.lemmas.List.{length-map}
use Rattle.tks_listbox.specs.Listbox.{Listbox, is_editable, new_item, moved_on, moved_back, put_in, taken_out, inserted, deleted}
use Rattle.tks_listbox.specs.Laws.{SameActive, TakesOut}
use Rattle.tks_listbox.proofs.Places.{kept_before, kept_behind, moved_behind}

moved_among_some : (n place count active : ℕ) → active < n → moved_on n place count active ≡ (if nat_le place active then active + count else active)
moved_among_some zero place count active h = absurd (omega arith)
moved_among_some (suc n) place count active h = refl

stays_in : (l : Listbox) (place : ℕ) (texts : List (List ℕ)) → l.active < length l.items → place ≤ length l.items → SameActive l (put_in place texts l)
stays_in l place texts inside within =
    ap (slice_get (put_in place texts l).items) (moved_among_some (length l.items) place (length texts) l.active inside) ∙ by (nat_le place l.active) refl
  where
    by : (b : Bool) → nat_le place l.active ≡ b → slice_get (put_in place texts l).items (if b then l.active + length texts else l.active) ≡ slice_get l.items l.active
    by true e =
        let long : l.active + length texts ≡ l.active + length (map new_item texts) = omega (arith, length-map texts new_item) in
        let far : place ≤ l.active = grind (arith, nat_tests) in
        ap (slice_get (put_in place texts l).items) long ∙ moved_behind place (map new_item texts) l.items l.active within far
    by false e =
        let near : l.active < place = grind (arith, nat_tests) in
        kept_before place l.items (map new_item texts ++ drop place l.items) l.active within near

pub stays_by_insertion : (l : Listbox) (place : ℕ) (texts : List (List ℕ)) → l.active < length l.items → place ≤ length l.items → SameActive l (inserted place texts l)
stays_by_insertion l place texts inside within = by (is_editable l)
  where
    by : (b : Bool) → SameActive l (if b then put_in place texts l else l)
    by true = stays_in l place texts inside within
    by false = refl

some_of : (front behind : ℕ) (b : Bool) → (nat_lt front behind && b) ≡ true → front < behind
some_of front behind b e = grind (arith, nat_tests)

goes_back : (front behind len active : ℕ) → front < behind → behind ≤ active → moved_back front behind len active ≡ front + (active - behind)
goes_back front behind len active some far = grind (arith, nat_tests)

stands : (front behind len active : ℕ) → active < front → moved_back front behind len active ≡ active
stands front behind len active near = grind (arith, nat_tests)

pub stays_by_deletion_before : (l : Listbox) (front behind : ℕ) → behind ≤ length l.items → behind ≤ l.active → SameActive l (deleted front behind l)
stays_by_deletion_before l front behind within far = by (nat_lt front behind && is_editable l) refl
  where
    by : (b : Bool) → (nat_lt front behind && is_editable l) ≡ b → SameActive l (if b then taken_out front behind l else l)
    by false e = refl
    by true e =
        let some = some_of front behind (is_editable l) e in
        let there : behind + (l.active - behind) ≡ l.active = omega arith in
        ap (slice_get (taken_out front behind l).items) (goes_back front behind (length l.items) l.active some far)
        ∙ kept_behind front behind l.items (l.active - behind) (omega arith)
        ∙ ap (slice_get l.items) there

pub stays_by_deletion_behind : (l : Listbox) (front behind : ℕ) → behind ≤ length l.items → l.active < front → SameActive l (deleted front behind l)
stays_by_deletion_behind l front behind within near = by (nat_lt front behind && is_editable l) refl
  where
    by : (b : Bool) → (nat_lt front behind && is_editable l) ≡ b → SameActive l (if b then taken_out front behind l else l)
    by false e = refl
    by true e =
        let some = some_of front behind (is_editable l) e in
        ap (slice_get (taken_out front behind l).items) (stands front behind (length l.items) l.active near)
        ∙ kept_before front l.items (drop behind l.items) l.active (omega arith) near

-- ---- the others

pub others_stay : (l : Listbox) (front behind : ℕ) → is_editable l ≡ true → front ≤ behind → behind ≤ length l.items → TakesOut front behind l (deleted front behind l)
others_stay l front behind free ordered within = by (nat_lt front behind) refl
  where
    none : front ≡ behind → TakesOut front behind l l
    none e = record { before = λ i h. refl; after = λ i. ap (λ n. slice_get l.items (n + i)) e }

    some : TakesOut front behind l (taken_out front behind l)
    some = record { before = λ i h. kept_before front l.items (drop behind l.items) i (omega arith) h; after = λ i. kept_behind front behind l.items i (omega arith) }

    by : (b : Bool) → nat_lt front behind ≡ b → TakesOut front behind l (if b && is_editable l then taken_out front behind l else l)
    by false e = none (grind (arith, nat_tests))
    by true e = subst (λ b. TakesOut front behind l (if b then taken_out front behind l else l)) (sym free) some
