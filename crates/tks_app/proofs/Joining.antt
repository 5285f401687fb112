-- A command that joins others, in the place of its name.
use Rattle.std.proofs.Common.{◌≡◌, ℕ, zero, suc, Bool, true, false, ◌||◌, if◌then◌else◌, List, [], ◌∷◌, insert, length, Ordering, Less, Equal, Greater, refl, sym, ap, ◌∙◌, true≢false}
use Rattle.std.specs.Ordering.{is_lt, nat_cmp, ordering_reverse}
use Rattle.std.specs.Cmp.Lexicographic.{slice_cmp, bytes_decides}
use Rattle.std.proofs.lemmas.Cmp.{nat_list_cmp_total}
use Rattle.std.proofs.lemmas.Map.Lookups.{exact_bytes}
use Rattle.tks_text.specs.Text.{same_text}
use Rattle.tks_app.specs.Applications.{has, comes_before, place_for, in_place, Leads, AreNames, Joins}

either_false : (b c : Bool) → (b || c) ≡ false → (b ≡ false) × (c ≡ false)
either_false false c h = (refl, h)
either_false true c h = absurd (true≢false h)

-- of two names that aren't the same, the one comes before the other
pub other_way : (a b : List ℕ) → comes_before a b ≡ false → same_text b a ≡ false → comes_before b a ≡ true
other_way a b late differ = by (slice_cmp nat_cmp a b) refl
  where
    by : (o : Ordering) → slice_cmp nat_cmp a b ≡ o → comes_before b a ≡ true
    by Less e = absurd (true≢false (sym (ap is_lt e) ∙ late))
    by Equal e = absurd (true≢false (sym ((bytes_decides b a).1 (sym (exact_bytes a b e))) ∙ differ))
    by Greater e = ap is_lt (nat_list_cmp_total.antisymm b a ∙ ap ordering_reverse e)

-- what comes before the first of names comes before the first of them with one more
still_leads : (other name : List ℕ) (names : List (List ℕ)) → comes_before other name ≡ true → Leads other names → Leads other (in_place name names)
still_leads other name [] h leads = h
still_leads other name (next ∷ names) h leads = by (comes_before name next)
  where
    by : (b : Bool) → Leads other (if b then name ∷ next ∷ names else next ∷ in_place name names)
    by true = h
    by false = leads

pub joined : (names : List (List ℕ)) (name : List ℕ) → AreNames names → Joins names name → AreNames (in_place name names)
joined [] name are joins = (joins.0, tt, tt)
joined (other ∷ names) name are joins =
    let both = either_false (same_text other name) (has names name) joins.1 in
    by (comes_before name other) refl both.0 (joined names name are.2 (joins.0, both.1))
  where
    by : (b : Bool) → comes_before name other ≡ b → same_text other name ≡ false → AreNames (in_place name names)
        → AreNames (if b then name ∷ other ∷ names else other ∷ in_place name names)
    by true h differ rest = (joins.0, h, are)
    by false h differ rest = (are.0, still_leads other name names (other_way name other h differ) are.1, rest)

-- what is put in that place is in its place
pub put_in_place : (names : List (List ℕ)) (name : List ℕ) → insert names (place_for name names) name ≡ in_place name names
put_in_place [] name = refl
put_in_place (other ∷ names) name = by (comes_before name other) (put_in_place names name)
  where
    by : (b : Bool) → insert names (place_for name names) name ≡ in_place name names
        → insert (other ∷ names) (if b then zero else suc (place_for name names)) name ≡ (if b then name ∷ other ∷ names else other ∷ in_place name names)
    by true rest = refl
    by false rest = ap (λ ns. other ∷ ns) rest

-- there is one more then
pub longer : (name : List ℕ) (names : List (List ℕ)) → length (in_place name names) ≡ suc (length names)
longer name [] = refl
longer name (other ∷ names) = by (comes_before name other) (longer name names)
  where
    by : (b : Bool) → length (in_place name names) ≡ suc (length names) → length (if b then name ∷ other ∷ names else other ∷ in_place name names) ≡ suc (suc (length names))
    by true rest = refl
    by false rest = ap suc rest
