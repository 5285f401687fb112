-- The first memories of names that rise stand under just these names.
use Rattle.std.proofs.Common.{◌≡◌, ℕ, true, List, [], ◌∷◌, map, Ordering, Less, Equal, Greater, refl, sym, ap, ◌∙◌, true≢false}
use Rattle.std.specs.Ordering.{is_lt, nat_cmp}
use Rattle.std.specs.Cmp.Lexicographic.{slice_cmp, nat_list_cmp_total}
use Rattle.std.specs.FinMap as fin
use Rattle.std.specs.FinMap.Entries.{put, by_order}
use Rattle.std.proofs.lemmas.List.{nil_from_length}
use Rattle.tks_app.specs.Applications.{Leads, AreNames}
use Rattle.tks_app.specs.Memories.{first_memories}

-- an empty text under each name
abbrev pub firsts : List (List ℕ) → List (List ℕ × List ℕ)
firsts [] = []
firsts (name ∷ names) = (name, []) ∷ firsts names

less : (o : Ordering) → is_lt o ≡ true → o ≡ Less
less Less h = refl
less Equal h = absurd (true≢false (sym h))
less Greater h = absurd (true≢false (sym h))

put_first : (name : List ℕ) (names : List (List ℕ)) → Leads name names → put (slice_cmp nat_cmp) name [] (firsts names) ≡ (name, []) ∷ firsts names
put_first name [] leads = refl
put_first name (other ∷ names) leads =
    ap (λ o. by_order o ((name, []) ∷ (other, []) ∷ firsts names) ((other, []) ∷ firsts names) ((other, []) ∷ put (slice_cmp nat_cmp) name [] (firsts names))) (less (slice_cmp nat_cmp name other) leads)

pub entries_first : (names : List (List ℕ)) → AreNames names → fin.entries (first_memories names) ≡ firsts names
entries_first [] are = nil_from_length (fin.entries (first_memories [])) (sym (fin.len-entries (first_memories [])) ∙ fin.len-empty (slice_cmp nat_cmp) (List ℕ))
entries_first (name ∷ names) are =
    fin.entries-insert nat_list_cmp_total (first_memories names) name []
    ∙ ap (put (slice_cmp nat_cmp) name []) (entries_first names are.2)
    ∙ put_first name names are.1

names_of_firsts : (names : List (List ℕ)) → map (λ e. e.0) (firsts names) ≡ names
names_of_firsts [] = refl
names_of_firsts (name ∷ names) = ap (λ ns. name ∷ ns) (names_of_firsts names)

pub first_names : (names : List (List ℕ)) → AreNames names → fin.keys (first_memories names) ≡ names
first_names names are = ap (λ (es : List (List ℕ × List ℕ)). map (λ e. e.0) es) (entries_first names are) ∙ names_of_firsts names
