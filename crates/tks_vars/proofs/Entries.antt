-- The entries of a map of names.
use Rattle.std.proofs.Common.{◌≡◌, ℕ, Bool, true, false, ◌&&◌, T, List, [], ◌∷◌, ◌++◌, Ordering, Less, refl, sym, subst, ap, ◌∙◌}
use Rattle.std.specs.Ordering.{is_lt, nat_cmp}
use Rattle.std.specs.Cmp.Lexicographic.{slice_cmp, nat_list_cmp_total}
use Rattle.std.specs.FinMap as fin
use Rattle.std.specs.FinMap.Entries.{is_sorted}
use Rattle.tks_vars.specs.Table.{Map}
use Rattle.tks_vars.specs.Few.{put_behind}

abbrev pub order : List ℕ → List ℕ → Ordering
order = slice_cmp nat_cmp

pub both : (a b : Bool) → T a → T b → T (a && b)
both true b p q = q
both false b p q = p

pub less : (x y : List ℕ) → order x y ≡ Less → T (is_lt (order x y))
less x y e = subst (λ o. T (is_lt o)) (sym e) tt

module _ {V : Type 0} where
  -- Entries whose names rise are those of their map.
  pub entries_are : (es : List (List ℕ × V)) → T (is_sorted order es) → fin.entries (fin.from_entries {R = order} es) ≡ es
  entries_are es h =
      ap (λ (m : Map V). fin.entries m) (fin.same_map nat_list_cmp_total (fin.slice_cmp-IsAntisymmetric fin.nat_cmp-IsAntisymmetric) _ _ (λ q.
      fin.get-from_entries nat_list_cmp_total es q ∙ sym (fin.get-from_sorted order es q h)))
      ∙ fin.entries-from_sorted order es h

  -- A map is that of its entries.
  pub map_of_entries : (m : Map V) → fin.from_entries (fin.entries m) ≡ m
  map_of_entries m =
      fin.same_map nat_list_cmp_total (fin.slice_cmp-IsAntisymmetric fin.nat_cmp-IsAntisymmetric) _ _ (λ q.
      fin.get-from_entries nat_list_cmp_total (fin.entries m) q ∙ sym (fin.get-entries m q))

  pub put_in_nothing : (es : List (List ℕ × V)) → put_behind fin.empty es ≡ fin.from_entries es
  put_in_nothing [] = refl
  put_in_nothing (e ∷ es) = ap (λ (m : Map V). fin.insert m e.0 e.1) (put_in_nothing es)

  pub put_last : (m : Map V) (es : List (List ℕ × V)) (e : List ℕ × V) → put_behind m (es ++ e ∷ []) ≡ put_behind (fin.insert m e.0 e.1) es
  put_last m [] e = refl
  put_last m (f ∷ es) e = ap (λ (n : Map V). fin.insert n f.0 f.1) (put_last m es e)
