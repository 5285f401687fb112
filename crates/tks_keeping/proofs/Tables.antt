-- Tables from names in which each name, and what stands under it, passes no limit.
use Rattle.std.proofs.Common.{◌≡◌, ℕ, map, suc, ◌+◌, ◌-◌, Bool, true, false, cond, ◌&&◌, List, [], ◌∷◌, length, Some, IfSome, Ordering, Less, Equal, Greater, refl, sym, ap, subst, ◌∙◌, arith}
use Rattle.std.specs.Prelude.{nat_lt}
use Rattle.std.specs.List.{list_all}
use Rattle.std.specs.Ordering.{eq_by_cmp}
use Rattle.std.specs.Cmp.Lexicographic.{nat_list_cmp_total}
use Rattle.std.specs.FinMap as fin
use Rattle.std.specs.FinMap.Entries.{find, put, by_order}
use Rattle.std.proofs.lemmas.Bool.{and_parts, and_from}
use Rattle.std.proofs.lemmas.Bool.Decides.{nat_tests}
use Rattle.std.proofs.lemmas.List.{nil_from_length}
use Rattle.tks_share.specs.Names.{order, without}
use Rattle.tks_share.proofs.Mapped.{sorted_out, removed}
use Rattle.tks_text.specs.declared.limits.Limits.{Limits}
use Rattle.tks_text.specs.Limits.{fits}
use Rattle.tks_vars.specs.Table.{Map}
use Rattle.tks_limits.specs.Within.{may_hold}
use Rattle.tks_keeping.proofs.Lists.{one_so, filtered_so, AllSo}
use Rattle.tks_keeping.proofs.Texts.{TextFits}

module _ (limits : Limits) {V : Type 0} (p : V → Bool) where
  -- whether a name and what stands under it pass no limit
  abbrev pub entry_fits : List ℕ × V → Bool
  entry_fits e = fits limits e.0 && p e.1

  -- the same of a table, which has no more names than it may have
  abbrev pub table_fits : Map V → Bool
  table_fits m = may_hold limits (fin.len m) && list_all entry_fits (fin.entries m)

  few_names : (m : Map V) → table_fits m ≡ true → may_hold limits (fin.len m) ≡ true
  few_names m h = (and_parts (may_hold limits (fin.len m)) (list_all entry_fits (fin.entries m)) h).0

  entries_of : (m : Map V) → table_fits m ≡ true → AllSo entry_fits (fin.entries m)
  entries_of m h = (and_parts (may_hold limits (fin.len m)) (list_all entry_fits (fin.entries m)) h).1

  -- a table may have a name: it has it, or may have one more
  abbrev pub HasRoom : Map V → List ℕ → Type 0
  HasRoom m k = fin.contains_key m k ≡ false → nat_lt (fin.len m) limits.items ≡ true

  put_by : (o : Ordering) (k : List ℕ) (v : V) (e : List ℕ × V) (es rest : List (List ℕ × V)) → entry_fits (k, v) ≡ true → AllSo entry_fits (e ∷ es)
      → AllSo entry_fits rest → AllSo entry_fits (by_order o ((k, v) ∷ e ∷ es) ((e.0, v) ∷ es) (e ∷ rest))
  put_by Less k v e es rest h all r = and_from (entry_fits (k, v)) (list_all entry_fits (e ∷ es)) h all
  put_by Equal k v e es rest h all r =
      let both = and_parts (entry_fits e) (list_all entry_fits es) all in
      let new = and_from (fits limits e.0) (p v) (and_parts (fits limits e.0) (p e.1) both.0).0 (and_parts (fits limits k) (p v) h).1 in
      and_from (entry_fits (e.0, v)) (list_all entry_fits es) new both.1
  put_by Greater k v e es rest h all r = and_from (entry_fits e) (list_all entry_fits rest) (and_parts (entry_fits e) (list_all entry_fits es) all).0 r

  put_all : (k : List ℕ) (v : V) (es : List (List ℕ × V)) → entry_fits (k, v) ≡ true → AllSo entry_fits es → AllSo entry_fits (put order k v es)
  put_all k v [] h all = and_from (entry_fits (k, v)) true h refl
  put_all k v (e ∷ es) h all = put_by (order k e.0) k v e es (put order k v es) h all (put_all k v es h (and_parts (entry_fits e) (list_all entry_fits es) all).1)

  insert_count : (m : Map V) (k : List ℕ) (v : V) (b : Bool) → fin.contains_key m k ≡ b → HasRoom m k → may_hold limits (fin.len m) ≡ true
      → may_hold limits (fin.len (fin.insert m k v)) ≡ true
  insert_count m k v true e room h =
      subst (λ n. may_hold limits n ≡ true) (sym (fin.len-insert nat_list_cmp_total m k v ∙ ap (λ b. cond b (fin.len m) (fin.len m + 1)) e)) h
  insert_count m k v false e room h =
      let lt : nat_lt (fin.len m) limits.items ≡ true = room e in
      let more : may_hold limits (fin.len m + 1) ≡ true = grind (arith, nat_tests) in
      subst (λ n. may_hold limits n ≡ true) (sym (fin.len-insert nat_list_cmp_total m k v ∙ ap (λ b. cond b (fin.len m) (fin.len m + 1)) e)) more

  -- what is put under a name
  pub insert_fits : (m : Map V) (k : List ℕ) (v : V) → TextFits limits k → p v ≡ true → HasRoom m k → table_fits m ≡ true → table_fits (fin.insert m k v) ≡ true
  insert_fits m k v name value room h =
      let all : AllSo entry_fits (put order k v (fin.entries m)) =
      put_all k v (fin.entries m) (and_from (fits limits k) (p v) name value) (entries_of m h) in
      and_from (may_hold limits (fin.len (fin.insert m k v))) (list_all entry_fits (fin.entries (fin.insert m k v)))
      (insert_count m k v (fin.contains_key m k) refl room (few_names m h))
      (subst (λ es. AllSo entry_fits es) (sym (fin.entries-insert nat_list_cmp_total m k v)) all)

  entries_removed : (m : Map V) (k : List ℕ) → fin.entries (fin.remove m k) ≡ without k (fin.entries m)
  entries_removed m k =
      let sorted = fin.entries_sorted m in
      let seen : fin.from_sorted {R = order} (fin.entries m) ≡ m = fin.same_entries_map _ m (fin.entries-from_sorted order (fin.entries m) sorted) in
      ap (λ (n : Map V). fin.entries n) (sym (removed (fin.entries m) m seen sorted k (without k (fin.entries m)) refl))
      ∙ fin.entries-from_sorted order (without k (fin.entries m)) (sorted_out (fin.entries m) m seen sorted k (without k (fin.entries m)) refl)

  remove_count : (m : Map V) (k : List ℕ) (b : Bool) → fin.contains_key m k ≡ b → may_hold limits (fin.len m) ≡ true → may_hold limits (fin.len (fin.remove m k)) ≡ true
  remove_count m k true e h =
      let fewer : may_hold limits (fin.len m - 1) ≡ true = grind (arith, nat_tests) in
      subst (λ n. may_hold limits n ≡ true) (sym (fin.len-remove nat_list_cmp_total m k ∙ ap (λ b. cond b (fin.len m - 1) (fin.len m)) e)) fewer
  remove_count m k false e h = subst (λ n. may_hold limits n ≡ true) (sym (fin.len-remove nat_list_cmp_total m k ∙ ap (λ b. cond b (fin.len m - 1) (fin.len m)) e)) h

  -- what is left without a name
  pub remove_fits : (m : Map V) (k : List ℕ) → table_fits m ≡ true → table_fits (fin.remove m k) ≡ true
  remove_fits m k h =
      and_from (may_hold limits (fin.len (fin.remove m k))) (list_all entry_fits (fin.entries (fin.remove m k)))
      (remove_count m k (fin.contains_key m k) refl (few_names m h))
      (subst (λ es. AllSo entry_fits es) (sym (entries_removed m k))
      (filtered_so entry_fits _ (fin.entries m) (entries_of m h)))

  -- a table without names
  pub no_name_fits : table_fits fin.empty ≡ true
  no_name_fits =
      let none : fin.len (fin.empty {X = V} {R = order}) ≡ 0 = fin.len-empty order V in
      let count : may_hold limits 0 ≡ true = grind (arith, nat_tests) in
      let nothing : fin.entries (fin.empty {X = V} {R = order}) ≡ [] = nil_from_length (fin.entries fin.empty) (sym (fin.len-entries fin.empty) ∙ none) in
      and_from (may_hold limits (fin.len fin.empty)) (list_all entry_fits (fin.entries fin.empty)) (subst (λ n. may_hold limits n ≡ true) (sym none) count)
      (subst (λ es. AllSo entry_fits es) (sym nothing) refl)

  found_in : (q : List ℕ) (es : List (List ℕ × V)) → AllSo entry_fits es → IfSome (find order q es) (λ v. p v ≡ true)
  found_in q [] all = tt
  found_in q (e ∷ es) all =
      let both = and_parts (entry_fits e) (list_all entry_fits es) all in
      one_so (λ o. IfSome o (λ v. p v ≡ true)) (eq_by_cmp order q e.0) (Some e.1) (find order q es) (and_parts (fits limits e.0) (p e.1) both.0).1 (found_in q es both.1)

  -- what stands under a name
  pub found_fits : (m : Map V) (q : List ℕ) → table_fits m ≡ true → IfSome (fin.get m q) (λ v. p v ≡ true)
  found_fits m q h =
      subst (λ o. IfSome o (λ v. p v ≡ true)) (sym (fin.get-entries m q)) (found_in q (fin.entries m) (entries_of m h))

-- ---- names

-- where a key is put and the entries are no more, the keys are the same
same_keys : (k : List ℕ) (v : List ℕ) (es : List (List ℕ × List ℕ)) → length (put order k v es) ≡ length es → map (λ e. e.0) (put order k v es) ≡ map (λ e. e.0) es
same_keys k v [] h = absurd (omega (arith, h))
same_keys k v (e ∷ es) h = by (order k e.0) h (λ g. same_keys k v es g)
  where
    by : (o : Ordering) → length (by_order o ((k, v) ∷ e ∷ es) ((e.0, v) ∷ es) (e ∷ put order k v es)) ≡ suc (length es)
        → (length (put order k v es) ≡ length es → map (λ x. x.0) (put order k v es) ≡ map (λ x. x.0) es)
        → map (λ x. x.0) (by_order o ((k, v) ∷ e ∷ es) ((e.0, v) ∷ es) (e ∷ put order k v es)) ≡ e.0 ∷ map (λ x. x.0) es
    by Less h others = absurd (omega (arith, h))
    by Equal h others = refl
    by Greater h others = ap (λ (ks : List (List ℕ)). e.0 ∷ ks) (others (omega (arith, h)))

-- another under a name that is there leaves the names
pub keys_stay : (m : Map (List ℕ)) (k v : List ℕ) → fin.contains_key m k ≡ true → fin.keys (fin.insert m k v) ≡ fin.keys m
keys_stay m k v there =
    let len_same : fin.len (fin.insert m k v) ≡ fin.len m = fin.len-insert nat_list_cmp_total m k v ∙ ap (λ b. cond b (fin.len m) (fin.len m + 1)) there in
    let entries = fin.entries-insert nat_list_cmp_total m k v in
    let as_long : length (put order k v (fin.entries m)) ≡ length (fin.entries m) =
    ap (λ (es : List (List ℕ × List ℕ)). length es) (sym entries) ∙ sym (fin.len-entries (fin.insert m k v)) ∙ len_same ∙ fin.len-entries m in
    ap (λ (es : List (List ℕ × List ℕ)). map (λ e. e.0) es) entries ∙ same_keys k v (fin.entries m) as_long
