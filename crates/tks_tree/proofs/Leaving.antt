-- Lists and the index without the windows of some numbers.
use Rattle.std.specs.Prelude.{◌==◌}
use Rattle.std.specs.FinMap as fin
use Rattle.std.specs.List.{AllByRecursion, filter}
use Rattle.std.specs.Option.{option_map}
use Rattle.std.specs.Cmp.Lexicographic.{bytes_decides, nat_list_cmp_total}
use Rattle.std.proofs.Common.{◌≡◌, ℕ, ◌+◌, ◌<◌, ◌≤◌, length, drop, get_or, drop-cons, add-one, Bool, true, false, cond, not, ◌||◌, ◌&&◌, List, [], ◌∷◌, Option, Some, None, Ok, Err, if◌then◌else◌, refl, sym, ap, subst, ◌∙◌, true≢false, arith}
use Rattle.std.proofs.lemmas.Bool.{eqb-true, eq-eqb}
use Rattle.tks_share.specs.Lists.{Rises}
use Rattle.tks_text.specs.declared.fault.ErrorNumber.TheVariants.{NotAllowedOnRoot}
use Rattle.tks_share.specs.Maps.{Map}
use Rattle.tks_share.proofs.Alike.{names_alike}
use Rattle.tks_text.specs.Text.{same_text}
use Rattle.tks_tree.specs.Path.{is_within}
use Rattle.tks_tree.specs.Windows.{Window, Windows, on_window, of_path, of_number, number_at, without, destroyed}
use Rattle.tks_tree.specs.View.{Indexes}
use Rattle.tks_tree.specs.WellFormed.{WellFormed}
use Rattle.tks_tree.specs.Within.{is_one_of, is_in, AreThoseIn}
use Rattle.tks_tree.proofs.Parents.{own_path}
use Rattle.tks_tree.proofs.Removals.{found_passes, well_without}
use Rattle.tks_tree.proofs.Trees.{from_some}
use Rattle.tks_tree.proofs.Within.{each_own, all_so}

-- ---- lists

module _ {X : Type 0} where
  pub none_gone : (xs : List X) → filter (λ x. true) xs ≡ xs
  none_gone [] = refl
  none_gone (x ∷ xs) = ap (λ l. x ∷ l) (none_gone xs)

  pub same_left : (p q : X → Bool) (xs : List X) → AllByRecursion (λ x. p x ≡ q x) xs → filter p xs ≡ filter q xs
  same_left p q [] h = refl
  same_left p q (x ∷ xs) h = ap (λ b. cond b (x ∷ filter p xs) (filter p xs)) h.0 ∙ ap (λ l. cond (q x) (x ∷ l) l) (same_left p q xs h.1)

  -- what two tests leave, one after the other
  pub twice : (p q : X → Bool) (xs : List X) → filter (λ x. not (p x)) (filter (λ x. not (q x)) xs) ≡ filter (λ x. not (q x || p x)) xs
  twice p q [] = refl
  twice p q (x ∷ xs) = by (q x) (twice p q xs)
    where
      by : (b : Bool) → filter (λ y. not (p y)) (filter (λ y. not (q y)) xs) ≡ filter (λ y. not (q y || p y)) xs
          → filter (λ y. not (p y)) (cond (not b) (x ∷ filter (λ y. not (q y)) xs) (filter (λ y. not (q y)) xs))
          ≡ cond (not (b || p x)) (x ∷ filter (λ y. not (q y || p y)) xs) (filter (λ y. not (q y || p y)) xs)
      by true rest = rest
      by false rest = ap (λ l. cond (not (p x)) (x ∷ l) l) rest

  both_left : (p q : X → Bool) (xs : List X) → filter q (filter p xs) ≡ filter (λ x. p x && q x) xs
  both_left p q [] = refl
  both_left p q (x ∷ xs) = by (p x) (both_left p q xs)
    where
      by : (b : Bool) → filter q (filter p xs) ≡ filter (λ y. p y && q y) xs
          → filter q (cond b (x ∷ filter p xs) (filter p xs)) ≡ cond (b && q x) (x ∷ filter (λ y. p y && q y) xs) (filter (λ y. p y && q y) xs)
      by true rest = ap (λ l. cond (q x) (x ∷ l) l) rest
      by false rest = rest

  all_left : (P : X → Type 0) (p : X → Bool) (xs : List X) → AllByRecursion P xs → AllByRecursion P (filter p xs)
  all_left P p [] h = tt
  all_left P p (x ∷ xs) h = by (p x) (all_left P p xs h.1)
    where
      by : (b : Bool) → AllByRecursion P (filter p xs) → AllByRecursion P (cond b (x ∷ filter p xs) (filter p xs))
      by true rest = (h.0, rest)
      by false rest = rest

  module _ (number_of : X → ℕ) where
    lower : (low n : ℕ) (xs : List X) → low ≤ n → Rises number_of n xs → Rises number_of low xs
    lower low n [] le r = tt
    lower low n (x ∷ xs) le r = (omega (arith, le, r.0), r.1)

    pub rises_left : (p : X → Bool) (low : ℕ) (xs : List X) → Rises number_of low xs → Rises number_of low (filter p xs)
    rises_left p low [] r = tt
    rises_left p low (x ∷ xs) r = by (p x) (rises_left p (number_of x + 1) xs r.1)
      where
        by : (b : Bool) → Rises number_of (number_of x + 1) (filter p xs) → Rises number_of low (cond b (x ∷ filter p xs) (filter p xs))
        by true rest = (r.0, rest)
        by false rest = lower low (number_of x + 1) (filter p xs) (omega (arith, r.0)) rest

    -- the items without those of some numbers
    abbrev pub without_numbers : List ℕ → List X → List X
    without_numbers ns xs = filter (λ x. not (is_one_of (number_of x) ns)) xs

    turned : (m n : ℕ) → (m == n) ≡ (n == m)
    turned m n = by (m == n) (n == m) refl refl
      where
        by : (a b : Bool) → (m == n) ≡ a → (n == m) ≡ b → a ≡ b
        by true true x y = refl
        by false false x y = refl
        by true false x y = absurd (true≢false (sym (eq-eqb n m (sym (eqb-true m n x))) ∙ y))
        by false true x y = absurd (true≢false (sym (eq-eqb m n (sym (eqb-true n m y))) ∙ x))

    -- one of the numbers is taken out
    pub one_out : (n : ℕ) (ns : List ℕ) (xs : List X) → without_numbers ns (filter (λ x. not (number_of x == n)) xs) ≡ without_numbers (n ∷ ns) xs
    one_out n ns xs i =
        (twice (λ x. is_one_of (number_of x) ns) (λ x. number_of x == n) xs ∙ (λ j. filter (λ x. not (turned (number_of x) n j || is_one_of (number_of x) ns)) xs)) i

-- those from one on are that one, and those behind it
pub drop_next : {X : Type 0} (xs : List X) (n : ℕ) (x : X) → n < length xs → x ≡ get_or xs n x → drop n xs ≡ x ∷ drop (n + 1) xs
drop_next xs n x h e = drop-cons xs n x h ∙ (λ i. sym e i ∷ drop (sym (add-one n) i) xs)

-- ---- the index

-- a window's number is that of just the windows of its path
Alone : Window → Window → Type 0
Alone w v = (v.number == w.number) ≡ same_text w.path v.path

alone : (t : Windows) (id : ℕ) (w : Window) → WellFormed t → of_number t.windows id ≡ Some w → AllByRecursion (Alone w) t.windows
unfolding Alone
alone t id w f is = all_so _ _ t.windows (λ v h. one v h.1) (each_own 0 t.windows t.next f.numbered)
  where
    one : (v : Window) → of_number t.windows v.number ≡ Some v → (v.number == w.number) ≡ same_text w.path v.path
    one v own = by (v.number == w.number) (same_text w.path v.path) refl refl
      where
        its : of_number t.windows w.number ≡ Some w
        its = ap (of_number t.windows) (number_is t.windows is) ∙ is
          where
            number_is : (ws : List Window) → of_number ws id ≡ Some w → w.number ≡ id
            number_is ws is = eqb-true w.number id (found_passes (λ u. u.number == id) ws w is)

        by : (a b : Bool) → (v.number == w.number) ≡ a → same_text w.path v.path ≡ b → a ≡ b
        by true true x y = refl
        by false false x y = refl
        by true false x y =
            let same : v ≡ w = ap (from_some v) (sym own ∙ ap (of_number t.windows) (eqb-true v.number w.number x) ∙ its) in
            absurd (true≢false (sym ((bytes_decides w.path v.path).1 (ap (λ (u : Window). u.path) (sym same))) ∙ y))
        by false true x y =
            let same : v ≡ w =
            ap (from_some v) (sym (own_path [] t.windows v.number v f.founded own) ∙ ap (of_path t.windows) (sym ((bytes_decides w.path v.path).0 y)) ∙ own_path [] t.windows id w f.founded is) in
            absurd (true≢false (sym (eq-eqb v.number w.number (ap (λ (u : Window). u.number) same)) ∙ x))

-- what is found by a path where a window of a path went
number_left : (p q : List ℕ) (vs : List Window) → number_at (filter (λ v. not (same_text p v.path)) vs) (Some q) ≡ cond (same_text q p) None (number_at vs (Some q))
number_left p q [] = by (same_text q p)
  where
    by : (b : Bool) → ◌≡◌ {A = Option ℕ} None (cond b None None)
    by true = refl
    by false = refl
number_left p q (v ∷ vs) = by (same_text p v.path) refl (same_text q v.path) refl (number_left p q vs)
  where
    left : List Window
    left = filter (λ u. not (same_text p u.path)) vs

    by : (a : Bool) → same_text p v.path ≡ a → (b : Bool) → same_text q v.path ≡ b → number_at left (Some q) ≡ cond (same_text q p) None (number_at vs (Some q))
        → number_at (cond (not a) (v ∷ left) left) (Some q) ≡ cond (same_text q p) None (option_map (λ (u : Window). u.number) (cond b (Some v) (of_path vs q)))
    by true x true y rest =
        let same : same_text q p ≡ true = (bytes_decides q p).1 ((bytes_decides q v.path).0 y ∙ sym ((bytes_decides p v.path).0 x)) in
        rest ∙ ap (λ b. cond b None (number_at vs (Some q))) same ∙ sym (ap (λ b. cond b None (Some v.number)) same)
    by true x false y rest = rest
    by false x true y rest =
        let other : same_text q p ≡ false = differs (same_text q p) refl in
        ap (λ b. option_map (λ (u : Window). u.number) (cond b (Some v) (of_path left q))) y ∙ sym (ap (λ b. cond b None (Some v.number)) other)
      where
        differs : (b : Bool) → same_text q p ≡ b → b ≡ false
        differs false e = refl
        differs true e = absurd (true≢false (sym ((bytes_decides p v.path).1 (sym ((bytes_decides q p).0 e) ∙ (bytes_decides q v.path).0 y)) ∙ x))
    by false x false y rest = ap (λ b. option_map (λ (u : Window). u.number) (cond b (Some v) (of_path left q))) y ∙ rest

-- where no window has a number, none goes
no_window : (id : ℕ) (ws : List Window) → of_number ws id ≡ None → (p : Window → Bool) → filter (λ v. not (v.number == id)) (filter p ws) ≡ filter p ws
no_window id [] is p = refl
no_window id (w ∷ ws) is p = by (w.number == id) refl is (p w) (λ e. no_window id ws e p)
  where
    by : (a : Bool) → (w.number == id) ≡ a → cond a (Some w) (of_number ws id) ≡ None → (b : Bool) → (of_number ws id ≡ None → filter (λ v. not (v.number == id)) (filter p ws) ≡ filter p ws)
        → filter (λ v. not (v.number == id)) (cond b (w ∷ filter p ws) (filter p ws)) ≡ cond b (w ∷ filter p ws) (filter p ws)
    by true e is b rest = absurd (let g : ◌≡◌ {A = Option Window} (Some w) None = is in cc)
    by false e is true rest = ap (λ b. cond (not b) (w ∷ filter (λ v. not (v.number == id)) (filter p ws)) (filter (λ v. not (v.number == id)) (filter p ws))) e ∙ ap (λ l. w ∷ l) (rest is)
    by false e is false rest = rest is

-- some windows are left, and the index has them
abbrev pub Left : Map ℕ → List ℕ → List ℕ → List Window → Type 0
Left index rest ns ws =
    (p : Window → Bool) × Indexes index (filter p ws) × (without_numbers (λ (v : Window). v.number) rest (filter p ws) ≡ without_numbers (λ (v : Window). v.number) ns ws)

pub all_there : (index : Map ℕ) (ns : List ℕ) (ws : List Window) → Indexes index ws → Left index ns ns ws
all_there index ns ws indexed =
    ((λ v. true), (λ q. indexed q ∙ ap (λ vs. number_at vs (Some q)) (sym (none_gone ws))), ap (without_numbers (λ (v : Window). v.number) ns) (none_gone ws))

pub all_out : (index : Map ℕ) (ns : List ℕ) (ws : List Window) → Left index [] ns ws → Indexes index (without_numbers (λ (v : Window). v.number) ns ws)
all_out index ns ws l q = l.1 q ∙ ap (λ vs. number_at vs (Some q)) (sym (none_gone (filter l.0 ws)) ∙ l.2)

module _ (t : Windows) (f : WellFormed t) (id : ℕ) (rest ns : List ℕ) (index : Map ℕ) (l : Left index (id ∷ rest) ns t.windows) where
  -- a window's path is taken out of the index
  pub path_out : (w : Window) → of_number t.windows id ≡ Some w → Left (fin.remove index w.path) rest ns t.windows
  unfolding Alone
  path_out w is =
      let left = filter l.0 t.windows in
      let tests = all_left (Alone w) l.0 t.windows (alone t id w f is) in
      let number : w.number ≡ id = eqb-true w.number id (found_passes (λ u. u.number == id) t.windows w is) in
      let fewer : filter (λ v. not (v.number == id)) left ≡ filter (λ v. not (same_text w.path v.path)) left =
      same_left (λ v. not (v.number == id)) (λ v. not (same_text w.path v.path)) left
      (all_so (Alone w) (λ v. not (v.number == id) ≡ not (same_text w.path v.path)) left (λ v h. ap not (ap (λ n. v.number == n) (sym number) ∙ h)) tests) in
      let both = both_left l.0 (λ (v : Window). not (v.number == id)) t.windows in (
        (λ v. l.0 v && not (v.number == id)),
        (λ q.
            fin.get-remove nat_list_cmp_total index w.path q
            ∙ ap (λ b. cond b None (fin.get index q)) (names_alike q w.path)
            ∙ ap (cond (same_text q w.path) None) (l.1 q)
            ∙ sym (number_left w.path q left)
            ∙ ap (λ vs. number_at vs (Some q)) (sym fewer ∙ both)),
        ap (without_numbers (λ (v : Window). v.number) rest) (sym both) ∙ one_out (λ (v : Window). v.number) id rest left ∙ l.2,
      )

  -- a number that no window has takes none out
  pub no_path : of_number t.windows id ≡ None → Left index rest ns t.windows
  no_path is =
      (l.0, l.1, ap (without_numbers (λ (v : Window). v.number) rest) (sym (no_window id t.windows is l.0)) ∙ one_out (λ (v : Window). v.number) id rest (filter l.0 t.windows) ∙ l.2)

-- ---- a window destroyed

-- the windows without those in one
pub without_in : (t : Windows) (number : ℕ) → without t number ≡ record t { windows = filter (λ v. not (is_in t number v)) t.windows }
without_in t number = by (of_number t.windows number)
  where
    by : (o : Option Window) → on_window o t (λ w. record t { windows = filter (λ v. not (is_within w.path v.path)) t.windows })
        ≡ record t { windows = filter (λ v. not (on_window o false (λ w. is_within w.path v.path))) t.windows }
    by None = ap (λ ws. record t { windows = ws }) (sym (none_gone t.windows))
    by (Some w) = refl

pub gone_in : (t : Windows) (number : ℕ) (numbers : List ℕ) → AreThoseIn t number numbers
    → filter (λ v. not (is_one_of v.number numbers)) t.windows ≡ filter (λ v. not (is_in t number v)) t.windows
gone_in t number numbers those =
    same_left (λ v. not (is_one_of v.number numbers)) (λ v. not (is_in t number v)) t.windows
    (all_so (λ v. is_one_of v.number numbers ≡ is_in t number v) (λ v. not (is_one_of v.number numbers) ≡ not (is_in t number v)) t.windows (λ v h. ap not h) those)

-- what holds of all windows holds of those that are left
pub well_gone : (t : Windows) (number : ℕ) → WellFormed t → (number == 0) ≡ false → WellFormed (record t { windows = filter (λ v. not (is_in t number v)) t.windows })
well_gone t number f other = by (of_number t.windows number) refl
  where
    by : (o : Option Window) → of_number t.windows number ≡ o → WellFormed (record t { windows = filter (λ v. not (is_in t number v)) t.windows })
    by None is =
        subst (λ o. WellFormed (record t { windows = filter (λ v. not (on_window o false (λ w. is_within w.path v.path))) t.windows })) (sym is)
        (subst (λ ws. WellFormed (record t { windows = ws })) (sym (none_gone t.windows)) f)
    by (Some w) is =
        subst (λ o. WellFormed (record t { windows = filter (λ v. not (on_window o false (λ w. is_within w.path v.path))) t.windows })) (sym is)
        (well_without t number w f other is)

-- what destroying leaves
pub destroyed_gone : (t : Windows) (number : ℕ) (left : List Window) → (number == 0) ≡ false → left ≡ filter (λ v. not (is_in t number v)) t.windows → destroyed t number ≡ Ok (record t { windows = left })
destroyed_gone t number left other l =
    ap (λ (b : Bool). if b then Err (record { number = NotAllowedOnRoot; subject = None }) else Ok (without t number)) other
    ∙ ap Ok (without_in t number ∙ ap (λ ws. record t { windows = ws }) (sym l))
