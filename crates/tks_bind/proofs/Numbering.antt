-- Bindings by their index and by their numbers.
use Rattle.std.specs.List.{filter, find, list_all}
use Rattle.std.specs.Cmp.Lexicographic.{bytes_decides}
use Rattle.std.proofs.Common.{◌≡◌, ℕ, zero, suc, ◌==◌, Bool, true, false, cond, not, List, [], ◌∷◌, ◌++◌, length, slice_get, Option, Some, None, refl, sym, ap, ◌∙◌, arith}
use Rattle.std.specs.Prelude.{nat_lt, option_map, option_copied}
use Rattle.std.specs.Borrow.{Bor}
use Rattle.std.specs.Slice.{IsItemAt}
use Rattle.std.proofs.lemmas.Option.{slice_get_past, slice_get-get_or}
use Rattle.std.proofs.lemmas.Bool.{and_from}
use Rattle.std.proofs.lemmas.Bool.Decides.{nat_tests}
use Rattle.tks_text.specs.Text.{same_text}
use Rattle.tks_text.proofs.Texts.{both}
use Rattle.tks_event.specs.declared.pattern.Pattern.{Pattern}
use Rattle.tks_bind.specs.declared.binding.Binding.{Binding}
use Rattle.tks_bind.specs.Binding.{is_for, placed, script_for}
use Rattle.tks_bind.specs.Distinct.{all_differ}
use Rattle.tks_bind.specs.Endings.{same_ending, ending_of, is_under}
use Rattle.tks_bind.specs.Indexes.{index_of}
use Rattle.tks_bind.specs.Places.{numbers_of, put_at}
use Rattle.tks_bind.specs.WellFormed.{differ, are_bindings}
use Rattle.tks_bind.proofs.Differing.{join}
use Rattle.tks_bind.proofs.Grouped.{found_alike}

-- what is lent of the item at a place is that item
pub got_at : {X : Type 0} (xs : List X) (i : ℕ) (r : Option (Bor X)) → IsItemAt xs i r → option_copied r ≡ slice_get xs i
got_at xs i None is = sym (slice_get_past xs i is.3)
got_at xs i (Some x) is = ap Some (is.3.1 x.now) ∙ sym (slice_get-get_or xs i x.now is.3.0)

module _ (tag : List ℕ) (q : List Pattern) where
  -- what stands at the index of a tag and a sequence is what is found by them
  pub stands_there : (bs : List Binding) → slice_get bs (index_of tag q bs) ≡ find (is_for tag q) bs
  stands_there [] = refl
  stands_there (b ∷ bs) = by (is_for tag q b) (stands_there bs)
    where
      by : (v : Bool) → slice_get bs (index_of tag q bs) ≡ find (is_for tag q) bs
          → slice_get (b ∷ bs) (cond v 0 (suc (index_of tag q bs))) ≡ cond v (Some b) (find (is_for tag q) bs)
      by true rest = refl
      by false rest = rest

  pub nowhere : (bs : List Binding) → find (is_for tag q) bs ≡ None → index_of tag q bs ≡ length bs
  nowhere [] none = refl
  nowhere (b ∷ bs) none = by (is_for tag q b) none (nowhere bs)
    where
      by : (v : Bool) → cond v (Some b) (find (is_for tag q) bs) ≡ None → (find (is_for tag q) bs ≡ None → index_of tag q bs ≡ length bs)
          → cond v 0 (suc (index_of tag q bs)) ≡ suc (length bs)
      by true e rest = cc
      by false e rest = ap suc (rest e)

  number_stands : (bs : List Binding) (i : ℕ) (b : Binding) → slice_get bs i ≡ Some b → slice_get (numbers_of bs) i ≡ Some b.number
  number_stands [] i b is = cc
  number_stands (c ∷ bs) zero b is = let same : c ≡ b = cc in ap (λ d. Some d.number) same
  number_stands (c ∷ bs) (suc i) b is = number_stands bs i b is

  pub number_there : (bs : List Binding) (b : Binding) → find (is_for tag q) bs ≡ Some b → slice_get (numbers_of bs) (index_of tag q bs) ≡ Some b.number
  number_there bs b found = number_stands bs (index_of tag q bs) b (stands_there bs ∙ found)

  pub script_found : (bs : List Binding) → script_for tag q bs ≡ option_map (λ b. b.script) (find (is_for tag q) bs)
  script_found [] = refl
  script_found (b ∷ bs) = by (is_for tag q b) (script_found bs)
    where
      by : (v : Bool) → script_for tag q bs ≡ option_map (λ b. b.script) (find (is_for tag q) bs)
          → cond v (Some b.script) (script_for tag q bs) ≡ option_map (λ b. b.script) (cond v (Some b) (find (is_for tag q) bs))
      by true rest = refl
      by false rest = rest

  -- it is found among those of its tag and its ending
  pub found_under : (bs : List Binding) → find (is_for tag q) (filter (is_under tag (ending_of q)) bs) ≡ find (is_for tag q) bs
  found_under [] = refl
  found_under (b ∷ bs) = by (is_for tag q b) (is_under tag (ending_of q) b) refl refl (found_under bs)
    where
      by : (v u : Bool) → is_for tag q b ≡ v → is_under tag (ending_of q) b ≡ u → find (is_for tag q) (filter (is_under tag (ending_of q)) bs) ≡ find (is_for tag q) bs
          → find (is_for tag q) (cond u (b ∷ filter (is_under tag (ending_of q)) bs) (filter (is_under tag (ending_of q)) bs)) ≡ cond v (Some b) (find (is_for tag q) bs)
      by true true e h rest = rw e refl
      by true false e h rest =
          let e_is = ending_of q in
          let kinds = (bytes_decides e_is.kind e_is.kind).1 refl in
          let details = (bytes_decides e_is.detail e_is.detail).1 refl in
          let itself = and_from (same_text tag tag) (same_ending e_is e_is) ((bytes_decides tag tag).1 refl) (and_from (same_text e_is.kind e_is.kind) (same_text e_is.detail e_is.detail) kinds details) in
          absurd (let g : false ≡ true = sym h ∙ (found_alike tag e_is tag q b e ∙ itself) in cc)
      by false true e h rest = rw e rest
      by false false e h rest = rest

-- the numbers of bindings of which one is set
pub numbers_placed : (b : Binding) (bs : List Binding) → numbers_of (placed b bs) ≡ put_at (index_of b.tag b.sequence bs) b.number (numbers_of bs)
numbers_placed b [] = refl
numbers_placed b (c ∷ cs) = by (is_for b.tag b.sequence c) (numbers_placed b cs)
  where
    by : (v : Bool) → numbers_of (placed b cs) ≡ put_at (index_of b.tag b.sequence cs) b.number (numbers_of cs)
        → numbers_of (cond v (b ∷ cs) (c ∷ placed b cs)) ≡ put_at (cond v 0 (suc (index_of b.tag b.sequence cs))) b.number (numbers_of (c ∷ cs))
    by true rest = refl
    by false rest = ap (λ ns. c.number ∷ ns) rest

-- the next number is new
below_next : (next : ℕ) (bs : List Binding) → list_all (λ b. nat_lt b.number next) bs ≡ true → list_all (λ n. not (n == next)) (numbers_of bs) ≡ true
below_next next [] h = refl
below_next next (b ∷ bs) h =
    let two = both (nat_lt b.number next) (list_all (λ b. nat_lt b.number next) bs) h in
    let other : not (b.number == next) ≡ true = let lt = two.0 in grind (arith, nat_tests) in
    join (not (b.number == next)) (list_all (λ n. not (n == next)) (numbers_of bs)) other (below_next next bs two.1)

pub next_is_new : (next : ℕ) (bs : List Binding) → are_bindings next bs ≡ true → list_all (λ n. not (n == next)) (numbers_of bs) ≡ true
next_is_new next bs h = below_next next bs (both (list_all (λ b. nat_lt b.number next) bs) (all_differ differ bs) h).0

-- and so is that of one which differs from those before it
pub differs_is_new : (done : List Binding) (b : Binding) (rest : List Binding) → all_differ differ (done ++ b ∷ rest) ≡ true → list_all (λ n. not (n == b.number)) (numbers_of done) ≡ true
differs_is_new [] b rest h = refl
differs_is_new (c ∷ done) b rest h =
    let two = both (list_all (differ c) (done ++ b ∷ rest)) (all_differ differ (done ++ b ∷ rest)) h in
    let apart = both (not (c.number == b.number)) (not (is_for c.tag c.sequence b)) (Rattle.tks_bind.proofs.Members.all_at (differ c) done b rest two.0) in
    join (not (c.number == b.number)) (list_all (λ n. not (n == b.number)) (numbers_of done)) apart.0 (differs_is_new done b rest two.1)
