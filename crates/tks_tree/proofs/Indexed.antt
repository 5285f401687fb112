-- Windows by their numbers, and by their paths.
use Rattle.std.proofs.Common.{◌≡◌, ℕ, ◌+◌, ◌≤◌, Bool, true, false, cond, not, List, [], ◌∷◌, ◌++◌, length, Option, Some, None, is_some, refl, sym, ap, ◌∙◌, true≢false, arith}
use Rattle.std.specs.Prelude.{◌==◌, nat_lt}
use Rattle.std.specs.List.{find, position, position_or_len}
use Rattle.std.specs.Option.{option_map}
use Rattle.std.specs.Cmp.Lexicographic.{bytes_decides, nat_list_cmp_total}
use Rattle.std.specs.FinMap as fin
use Rattle.std.proofs.lemmas.Bool.{ne_eqb, eq-eqb, le-ltb}
use Rattle.tks_share.specs.Names.{order}
use Rattle.tks_share.specs.Maps.{Map}
use Rattle.tks_share.specs.Lists.{Rises}
use Rattle.tks_share.proofs.Alike.{names_alike}
use Rattle.tks_text.specs.Text.{same_text}
use Rattle.tks_tree.specs.Windows.{Window, of_path, of_number, has_path, number_at}
use Rattle.tks_tree.specs.View.{Indexes}
use Rattle.tks_tree.specs.WellFormed.{Rise}
use Rattle.tks_tree.proofs.Trees.{from_some, some_is_none}

-- ---- numbers

pub numbers_rise : (low : ℕ) (ws : List Window) (high : ℕ) → Rise low ws high → Rises (λ (w : Window). w.number) low ws
numbers_rise low [] high r = tt
numbers_rise low (w ∷ ws) high r = (r.0, numbers_rise (w.number + 1) ws high r.1)

-- a window that some test finds is the one that its number finds, and both at one place
pub record Found (test : Window → Bool) (low : ℕ) (ws : List Window) (v : Window) : Type 0 where
  pub from : low ≤ v.number
  pub numbered : of_number ws v.number ≡ Some v
  pub place : position_or_len (λ w. w.number == v.number) ws ≡ position_or_len test ws

pub found : (test : Window → Bool) (low : ℕ) (ws : List Window) (high : ℕ) (v : Window) → Rise low ws high → find test ws ≡ Some v → Found test low ws v
found test low [] high v r is = absurd (some_is_none (sym is))
found test low (w ∷ ws) high v r is = by (test w) refl is (found test (w.number + 1) ws high v r.1)
  where
    by : (b : Bool) → test w ≡ b → cond b (Some w) (find test ws) ≡ Some v → (find test ws ≡ Some v → Found test (w.number + 1) ws v) → Found test low (w ∷ ws) v
    by true t is rest =
        let same : w ≡ v = ap (from_some w) is in
        let number : w.number ≡ v.number = ap (λ u. u.number) same in
        let equal : (w.number == v.number) ≡ true = eq-eqb w.number v.number number in
        record {
          from = omega (arith, r.0, number);
          numbered = ap (λ b. cond b (Some w) (of_number ws v.number)) equal ∙ is;
          place =
              ap (λ b. cond (not b) (1 + position_or_len (λ u. u.number == v.number) ws) 0) equal
              ∙ sym (ap (λ b. cond (not b) (1 + position_or_len test ws) 0) t);
        }
    by false t is rest =
        let later = rest is in
        let differ : (w.number == v.number) ≡ false = ne_eqb w.number v.number (λ e. omega (arith, e, later.from)) in
        record {
          from = omega (arith, r.0, later.from);
          numbered = ap (λ b. cond b (Some w) (of_number ws v.number)) differ ∙ later.numbered;
          place =
              ap (λ b. cond (not b) (1 + position_or_len (λ u. u.number == v.number) ws) 0) differ
              ∙ ap (λ n. 1 + n) later.place
              ∙ sym (ap (λ b. cond (not b) (1 + position_or_len test ws) 0) t);
        }

-- the window that the number of a path's window finds
pub by_path : (ws : List Window) (high id : ℕ) (path : List ℕ) → Rise 0 ws high → Some id ≡ number_at ws (Some path) → of_number ws id ≡ of_path ws path
by_path ws high id path r is = by (of_path ws path) refl is
  where
    by : (o : Option Window) → of_path ws path ≡ o → Some id ≡ option_map (λ (w : Window). w.number) o → of_number ws id ≡ o
    by None e is = absurd (some_is_none is)
    by (Some v) e is = ap (of_number ws) (ap (from_some 0) is) ∙ (found (λ w. same_text path w.path) 0 ws high v r e).numbered

pub no_path : (ws : List Window) (path : List ℕ) → None ≡ number_at ws (Some path) → of_path ws path ≡ None
no_path ws path is = by (of_path ws path) is
  where
    by : (o : Option Window) → None ≡ option_map (λ (w : Window). w.number) o → o ≡ None
    by None is = refl
    by (Some v) is = absurd (some_is_none (sym is))

-- what isn't found has no place
pub no_place : (test : Window → Bool) (ws : List Window) → find test ws ≡ None → None ≡ position test ws
no_place test ws is =
    sym (ap (λ n. cond (nat_lt n (length ws)) (Some n) None) (all_passed ws is) ∙ ap (λ b. cond b (Some (length ws)) None) (le-ltb (length ws) (length ws) (omega arith)))
  where
    all_passed : (ws : List Window) → find test ws ≡ None → position_or_len test ws ≡ length ws
    all_passed [] is = refl
    all_passed (w ∷ ws) is = by (test w) is (all_passed ws) ∙ omega arith
      where
        by : (b : Bool) → cond b (Some w) (find test ws) ≡ None → (find test ws ≡ None → position_or_len test ws ≡ length ws) → cond (not b) (1 + position_or_len test ws) 0 ≡ 1 + length ws
        by true is rest = absurd (some_is_none is)
        by false is rest = ap (λ n. 1 + n) (rest is)

-- the place of that window
pub place_by_path : (ws : List Window) (high id : ℕ) (path : List ℕ) → Rise 0 ws high → Some id ≡ number_at ws (Some path)
    → position (λ (w : Window). w.number == id) ws ≡ position (λ (w : Window). same_text path w.path) ws
place_by_path ws high id path r is = by (of_path ws path) refl is
  where
    by : (o : Option Window) → of_path ws path ≡ o → Some id ≡ option_map (λ (w : Window). w.number) o
        → position (λ (w : Window). w.number == id) ws ≡ position (λ (w : Window). same_text path w.path) ws
    by None e is = absurd (some_is_none is)
    by (Some v) e is =
        ap (λ n. position (λ (w : Window). w.number == n) ws) (ap (from_some 0) is)
        ∙ ap (λ n. cond (nat_lt n (length ws)) (Some n) None) (found (λ w. same_text path w.path) 0 ws high v r e).place

-- ---- paths

-- no path of no window
pub none_indexed : Indexes fin.empty []
none_indexed q = fin.get-empty order q

-- a window of a new path
pub one_more : (index : Map ℕ) (ws : List Window) (w : Window) → Indexes index ws → has_path ws w.path ≡ false → Indexes (fin.insert index w.path w.number) (ws ++ w ∷ [])
one_more index ws w is new = λ q.
    fin.get-insert nat_list_cmp_total index w.path w.number q
    ∙ ap (λ b. cond b (Some w.number) (fin.get index q)) (names_alike q w.path)
    ∙ ap (cond (same_text q w.path) (Some w.number)) (is q)
    ∙ at q (same_text q w.path) refl (of_path ws q) refl
    ∙ sym (ap (option_map (λ (v : Window). v.number)) (found_more ws q))
  where
    or_else : Option Window → Option Window → Option Window
    or_else None o = o
    or_else (Some v) o = Some v

    found_more : (ws : List Window) (q : List ℕ) → of_path (ws ++ w ∷ []) q ≡ or_else (of_path ws q) (cond (same_text q w.path) (Some w) None)
    found_more [] q = refl
    found_more (v ∷ ws) q = on (same_text q v.path) (found_more ws q)
      where
        on : (b : Bool) → of_path (ws ++ w ∷ []) q ≡ or_else (of_path ws q) (cond (same_text q w.path) (Some w) None)
            → cond b (Some v) (of_path (ws ++ w ∷ []) q) ≡ or_else (cond b (Some v) (of_path ws q)) (cond (same_text q w.path) (Some w) None)
        on true rest = refl
        on false rest = rest

    at : (q : List ℕ) (b : Bool) → same_text q w.path ≡ b → (o : Option Window) → of_path ws q ≡ o
        → cond b (Some w.number) (option_map (λ (v : Window). v.number) o) ≡ option_map (λ (v : Window). v.number) (or_else o (cond b (Some w) None))
    at q true s None e = refl
    at q true s (Some v) e = absurd (true≢false (sym (ap is_some e) ∙ ap (has_path ws) ((bytes_decides q w.path).0 s) ∙ new))
    at q false s None e = refl
    at q false s (Some v) e = refl
