-- The preorder holds each window once.
use Rattle.std.proofs.Common.{◌≡◌, ℕ, suc, ◌+◌, ◌≤◌, Bool, true, false, cond, ◌||◌, List, [], ◌∷◌, ◌++◌, Option, Some, None, is_some, refl, sym, ap, subst, ◌∙◌, true≢false, arith, if◌then◌else◌}
use Rattle.std.specs.Prelude.{◌==◌}
use Rattle.std.specs.Cmp.Lexicographic.{bytes_decides}
use Rattle.std.proofs.lemmas.Bool.{eqb-true}
use Rattle.std.proofs.lemmas.List.{map-append}
use Rattle.tks_text.specs.Text.{same_text}
use Rattle.tks_tree.specs.Path.{parent_of, is_text, is_child}
use Rattle.tks_tree.specs.Windows.{Window, Windows, root, of_path, of_number, has_path, numbers, inside, preorder, times}
use Rattle.tks_tree.specs.WellFormed.{Rise, StandsIn, Follows, AllFollow, WellFormed}
use Rattle.tks_tree.proofs.Trees.{has_more, true_or, all_end}

abbrev one_if : Bool → ℕ
one_if b = if b then 1 else 0

abbrev add_if : Bool → ℕ → ℕ
add_if b k = if b then suc k else k

add_is : (b : Bool) (k : ℕ) → add_if b k ≡ one_if b + k
add_is true k = omega arith
add_is false k = omega arith

times_more : (n : ℕ) (ms ns : List ℕ) → times n (ms ++ ns) ≡ times n ms + times n ns
times_more n [] ns = omega arith
times_more n (m ∷ ms) ns =
    let h = times_more n ms ns in let j = add_is (m == n) (times n (ms ++ ns)) in let k = add_is (m == n) (times n ms) in omega (arith, h, j, k)

-- ---- a number stands once among numbers that rise

above : (m n : ℕ) → n + 1 ≤ m → (m == n) ≡ false
above m n le = by (m == n) refl
  where
    by : (b : Bool) → (m == n) ≡ b → b ≡ false
    by false e = refl
    by true e = absurd (omega (arith, le, eqb-true m n e))

not_above : (low : ℕ) (ws : List Window) (high n : ℕ) → Rise low ws high → n + 1 ≤ low → times n (numbers ws) ≡ 0
not_above low [] high n r le = refl
not_above low (w ∷ ws) high n r le =
    ap (λ b. add_if b (times n (numbers ws))) (above w.number n (omega (arith, le, r.0))) ∙ not_above (w.number + 1) ws high n r.1 (omega (arith, le, r.0))

once_where_rising : (low : ℕ) (ws : List Window) (high n : ℕ) → Rise low ws high → times n (numbers ws) ≡ one_if (is_some (of_number ws n))
once_where_rising low [] high n r = refl
once_where_rising low (w ∷ ws) high n r = by (w.number == n) refl (once_where_rising (w.number + 1) ws high n r.1)
  where
    by : (b : Bool) → (w.number == n) ≡ b → times n (numbers ws) ≡ one_if (is_some (of_number ws n))
        → add_if b (times n (numbers ws)) ≡ one_if (is_some (cond b (Some w) (of_number ws n)))
    by true e rest = ap suc (not_above (w.number + 1) ws high n r.1 (omega (arith, eqb-true w.number n e)))
    by false e rest = rest

-- ---- a window stands in one

-- how many windows have the path
abbrev having : List Window → List ℕ → ℕ
having [] path = 0
having (w ∷ ws) path = add_if (same_text w.path path) (having ws path)

turned : (p q : List ℕ) → same_text p q ≡ true → same_text q p ≡ true
turned p q h = (bytes_decides q p).1 (sym ((bytes_decides p q).0 h))

having_no_more : (before ws : List Window) (path : List ℕ) → AllFollow before ws → has_path before path ≡ true → having ws path ≡ 0
having_no_more before [] path all has = refl
having_no_more before (w ∷ ws) path all has =
    ap (λ b. add_if b (having ws path)) (by (same_text w.path path) refl)
    ∙ having_no_more (before ++ w ∷ []) ws path all.1 (has_more before (w ∷ []) path ∙ true_or (has_path before path) (has_path (w ∷ []) path) has)
  where
    by : (b : Bool) → same_text w.path path ≡ b → b ≡ false
    by false e = refl
    by true e = absurd (true≢false (sym has ∙ sym (ap (has_path before) ((bytes_decides w.path path).0 e)) ∙ all.0.new))

having_one : (before ws : List Window) (path : List ℕ) → AllFollow before ws → has_path before path ≡ false → has_path ws path ≡ true → having ws path ≡ 1
having_one before [] path all gone there = absurd (true≢false (sym there))
having_one before (w ∷ ws) path all gone there = by (same_text path w.path) refl (having_one (before ++ w ∷ []) ws path all.1) there
  where
    more : (b : Bool) → same_text path w.path ≡ b → has_path (before ++ w ∷ []) path ≡ b
    more b e = has_more before (w ∷ []) path ∙ ap (λ (c : Bool). c || has_path (w ∷ []) path) gone ∙ ap (λ c. is_some (cond c (Some w) None)) e ∙ plain b
      where
        plain : (b : Bool) → is_some (cond b (Some w) None) ≡ b
        plain true = refl
        plain false = refl

    by : (b : Bool) → same_text path w.path ≡ b → (has_path (before ++ w ∷ []) path ≡ false → has_path ws path ≡ true → having ws path ≡ 1)
        → is_some (cond b (Some w) (of_path ws path)) ≡ true → add_if (same_text w.path path) (having ws path) ≡ 1
    by true e rest there = ap (λ c. add_if c (having ws path)) (turned path w.path e) ∙ ap suc (having_no_more (before ++ w ∷ []) ws path all.1 (more true e))
    by false e rest there = ap (λ c. add_if c (having ws path)) (other (same_text w.path path) refl) ∙ rest (more false e) there
      where
        other : (c : Bool) → same_text w.path path ≡ c → c ≡ false
        other false k = refl
        other true k = absurd (true≢false (sym (turned w.path path k) ∙ e))

-- how many windows one stands right in
abbrev parents : List Window → List ℕ → ℕ
parents [] path = 0
parents (k ∷ known) path = add_if (is_child k.path path) (parents known path)

parents_by : (known : List Window) (path parent : List ℕ) → parent_of path ≡ Some parent → parents known path ≡ having known parent
parents_by [] path parent e = refl
parents_by (k ∷ known) path parent e = λ i. add_if (is_text k.path (e i)) (parents_by known path parent e i)

one_parent : (k : Window) (known : List Window) (w : Window) → AllFollow [] (k ∷ known) → Follows (k ∷ known) w → parents (k ∷ known) w.path ≡ 1
one_parent k known w all f = by (parent_of w.path) refl f.parent
  where
    by : (o : Option (List ℕ)) → parent_of w.path ≡ o → StandsIn o (k ∷ known) → parents (k ∷ known) w.path ≡ 1
    by None e s = absurd s
    by (Some parent) e s = parents_by (k ∷ known) w.path parent e ∙ having_one [] (k ∷ known) parent all refl s

-- ---- so it is counted once

-- how often a number stands in the preorder of those in known windows
abbrev counted : ℕ → List Window → List Window → ℕ
counted n [] ws = 0
counted n (k ∷ known) ws = times n (numbers (inside k.path ws)) + counted n known ws

counted_nothing : (n : ℕ) (known : List Window) → counted n known [] ≡ 0
counted_nothing n [] = refl
counted_nothing n (k ∷ known) = let h = counted_nothing n known in omega (arith, h)

counted_end : (n : ℕ) (known : List Window) (w : Window) (ws : List Window) → counted n (known ++ w ∷ []) ws ≡ counted n known ws + times n (numbers (inside w.path ws))
counted_end n [] w ws = omega arith
counted_end n (k ∷ known) w ws = let h = counted_end n known w ws in omega (arith, h)

module _ (n : ℕ) (w : Window) (later : List Window) where
  inside_child : (path : List ℕ) → is_child path w.path ≡ true
      → times n (numbers (inside path (w ∷ later))) ≡ one_if (w.number == n) + times n (numbers (inside w.path later)) + times n (numbers (inside path later))
  inside_child path e =
      let h = times_more n (numbers (inside w.path later)) (numbers (inside path later)) in
      ap (λ (b : Bool). times n (numbers (if b then w ∷ (inside w.path later ++ inside path later) else inside path later))) e
      ∙ add_is (w.number == n) _ ∙ ap (λ ns. one_if (w.number == n) + times n ns) (map-append (λ (v : Window). v.number) (inside w.path later) (inside path later))
      ∙ omega (arith, h)

  inside_other : (path : List ℕ) → is_child path w.path ≡ false → times n (numbers (inside path (w ∷ later))) ≡ times n (numbers (inside path later))
  inside_other path e = ap (λ (b : Bool). times n (numbers (if b then w ∷ (inside w.path later ++ inside path later) else inside path later))) e

  counted_without : (known : List Window) → parents known w.path ≡ 0 → counted n known (w ∷ later) ≡ counted n known later
  counted_without [] none = refl
  counted_without (k ∷ known) none = by (is_child k.path w.path) refl none (counted_without known)
    where
      by : (b : Bool) → is_child k.path w.path ≡ b → add_if b (parents known w.path) ≡ 0 → (parents known w.path ≡ 0 → counted n known (w ∷ later) ≡ counted n known later)
          → counted n (k ∷ known) (w ∷ later) ≡ counted n (k ∷ known) later
      by true e none rest = absurd (omega (arith, none))
      by false e none rest = let h = rest none in let k = inside_other k.path e in omega (arith, h, k)

  counted_with : (known : List Window) → parents known w.path ≡ 1
      → counted n known (w ∷ later) ≡ one_if (w.number == n) + times n (numbers (inside w.path later)) + counted n known later
  counted_with [] one = absurd (omega (arith, one))
  counted_with (k ∷ known) one = by (is_child k.path w.path) refl one (counted_with known)
    where
      by : (b : Bool) → is_child k.path w.path ≡ b → add_if b (parents known w.path) ≡ 1
          → (parents known w.path ≡ 1 → counted n known (w ∷ later) ≡ one_if (w.number == n) + times n (numbers (inside w.path later)) + counted n known later)
          → counted n (k ∷ known) (w ∷ later) ≡ one_if (w.number == n) + times n (numbers (inside w.path later)) + counted n (k ∷ known) later
      by true e one rest = let h = counted_without known (omega (arith, one)) in let k = inside_child k.path e in omega (arith, h, k)
      by false e one rest = let h = rest one in let k = inside_other k.path e in omega (arith, h, k)

counted_all : (n : ℕ) (k : Window) (known ws : List Window) → AllFollow [] (k ∷ known) → AllFollow (k ∷ known) ws → counted n (k ∷ known) ws ≡ times n (numbers ws)
counted_all n k known [] before all = counted_nothing n (k ∷ known)
counted_all n k known (w ∷ later) before all =
    let own = add_is (w.number == n) (times n (numbers later)) in
    let one = counted_with n w later (k ∷ known) (one_parent k known w before all.0) in
    let rest = counted_all n k (known ++ w ∷ []) later (all_end [] (k ∷ known) w before all.0) all.1 in
    let end = counted_end n (k ∷ known) w later in
    omega (arith, own, one, rest, end)

-- the number of each window stands in the preorder once, and no other does
pub each_once : (t : Windows) (n : ℕ) → WellFormed t → times n (preorder t) ≡ one_if (is_some (of_number t.windows n))
each_once t n w =
    let later = w.first.0 in
    let founded : AllFollow [] (root ∷ later) = subst (AllFollow []) w.first.1 w.founded in
    let all = counted_all n root [] later (founded.0, tt) founded.1 in
    ap (λ ws. times n (preorder (record t { windows = ws }))) w.first.1
    ∙ ap (add_if (0 == n)) (omega (arith, all))
    ∙ sym (ap (λ ws. times n (numbers ws)) w.first.1)
    ∙ once_where_rising 0 t.windows t.next n w.numbered
