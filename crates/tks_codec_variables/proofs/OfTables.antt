-- What holds of the spellings of maps from names.
use Rattle.std.proofs.Common.{◌≡◌, ℕ, ◌<◌, ◌^◌, Bool, true, false, ◌&&◌, T, List, [], ◌∷◌, length, Option, Some, None, Ordering, Less, Equal, Greater, refl, sym, arith}
use Rattle.std.specs.List.{AllByRecursion}
use Rattle.std.specs.Ordering.{is_lt}
use Rattle.std.specs.Cmp.Lexicographic.{nat_list_cmp_total}
use Rattle.std.specs.FinMap as map
use Rattle.std.specs.FinMap.Entries.{below_all, is_sorted}
use Rattle.tks_vars.specs.Table.{Map}
use Rattle.tks_vars.proofs.Entries.{order, both, less, entries_are, map_of_entries}
use Rattle.tks_spelling.specs.Spelling.{Spelling, Lawful, text, AreLegal, Rise}
use Rattle.tks_spelling.proofs.Loop.{each_is_legal, rising_legal}
use Rattle.tks_spelling.proofs.EachKind.{pair_lawful, rising_lawful, through_lawful, text_lawful}
use Rattle.tks_codec_variables.specs.Table.{entry, next, entries, table}

first : (a b : Bool) → T (a && b) → T a
first true b p = tt
first false b p = absurd p

second : (a b : Bool) → T (a && b) → T b
second true b p = p
second false b p = absurd p

is_true : (b : Bool) → T b → b ≡ true
is_true true p = refl
is_true false p = absurd p

is_less : (o : Ordering) → is_lt o ≡ true → o ≡ Less
is_less Less e = refl
is_less Equal e = absurd cc
is_less Greater e = absurd cc

module _ {X : Type 0} where
  abbrev name : List ℕ × X → List ℕ
  name e = e.0

  -- ---- names that rise are in order, and the other way round

  below : (k : List ℕ) (f : List ℕ × X) (es : List (List ℕ × X)) → order k f.0 ≡ Less → Rise name (Some f) es → T (below_all order k es)
  below k f [] lt h = tt
  below k f (g ∷ es) lt h =
      let further = nat_list_cmp_total.trans k f.0 g.0 lt (is_less (order f.0 g.0) h.0) in
      both (is_lt (order k g.0)) (below_all order k es) (less k g.0 further) (below k g es further h.1)

  below_first : (e : List ℕ × X) (es : List (List ℕ × X)) → Rise name (Some e) es → T (below_all order e.0 es)
  below_first e [] h = tt
  below_first e (f ∷ es) h =
      let lt = is_less (order e.0 f.0) h.0 in
      both (is_lt (order e.0 f.0)) (below_all order e.0 es) (less e.0 f.0 lt) (below e.0 f es lt h.1)

  in_order : (before : Option (List ℕ × X)) (es : List (List ℕ × X)) → Rise name before es → T (is_sorted order es)
  in_order before [] h = tt
  in_order before (e ∷ es) h = both (below_all order e.0 es) (is_sorted order es) (below_first e es h.1) (in_order (Some e) es h.1)

  rise_behind : (e : List ℕ × X) (es : List (List ℕ × X)) → T (below_all order e.0 es) → T (is_sorted order es) → Rise name (Some e) es
  rise_behind e [] b s = tt
  rise_behind e (f ∷ es) b s = (
    is_true (is_lt (order e.0 f.0)) (first (is_lt (order e.0 f.0)) (below_all order e.0 es) b),
    rise_behind f es (first (below_all order f.0 es) (is_sorted order es) s) (second (below_all order f.0 es) (is_sorted order es) s),
  )

  rises : (es : List (List ℕ × X)) → T (is_sorted order es) → Rise name None es
  rises [] s = tt
  rises (e ∷ es) s = (refl, rise_behind e es (first (below_all order e.0 es) (is_sorted order es) s) (second (below_all order e.0 es) (is_sorted order es) s))

  -- ---- spellings

  module _ (value : Spelling X) where
    rise_of : (before : Option (List ℕ × X)) (es : List (List ℕ × X)) → AreLegal (next value) before es → Rise name before es
    rise_of before [] h = tt
    rise_of before (e ∷ es) h = (h.0.1, rise_of (Some e) es h.1)

    entries_told : (es : List (List ℕ × X)) → (entries value).Legal es → map.entries (map.from_entries {R = order} es) ≡ es
    entries_told es h = entries_are es (in_order None es (rise_of None es h.1))

    -- a map with few entries, each of which has a spelling
    pub table_legal : (m : Map X) → length (map.entries m) < 2 ^ 32 → AllByRecursion ((entry value).Legal) (map.entries m) → (table value).Legal m
    table_legal m few h = ((few, rising_legal name (entry value) None None (map.entries m) (each_is_legal (entry value) None (map.entries m) h) (rises (map.entries m) (map.entries_sorted m))), sym (map_of_entries m))

    pub table_lawful : Lawful value → Lawful (table value)
    table_lawful l = through_lawful map.entries map.from_entries (entries value) entries_told (rising_lawful name (entry value) (λ e h. omega arith) (pair_lawful text value text_lawful l))
