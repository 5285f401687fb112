-- What holds of the windows that are left where one was destroyed.
use Rattle.std.proofs.Common.{◌≡◌, ℕ, Bool, true, false, cond, ◌||◌, ◌&&◌, not, List, [], ◌∷◌, ◌++◌, Option, Some, None, is_some, refl, sym, ap, subst, ◌∙◌, true≢false}
use Rattle.std.specs.Prelude.{◌==◌, slice_get, length, nat_lt}
use Rattle.std.specs.List.{find, filter, position, position_or_len}
use Rattle.std.specs.Cmp.Lexicographic.{bytes_decides}
use Rattle.std.proofs.lemmas.List.{append-nil}
use Rattle.std.proofs.lemmas.List.Elements.{filter-append}
use Rattle.tks_text.specs.Text.{same_text}
use Rattle.tks_tree.specs.Path.{root_path, parent_of, goes_on, is_within, is_path}
use Rattle.std.proofs.lemmas.Option.{slice_get_past}
use Rattle.std.proofs.lemmas.List.Folds.{find_at}
use Rattle.std.proofs.lemmas.Bool.{ltb-false, eqb-true, eq-eqb}
use Rattle.tks_tree.specs.View.{others}
use Rattle.tks_tree.specs.Windows.{Window, Windows, root, of_path, of_number, has_path}
use Rattle.tks_tree.specs.WellFormed.{StandsIn, Follows, AllFollow, HaveOwnClasses, WellFormed}
use Rattle.tks_tree.proofs.Trees.{rise_filter, within_child, true_or, has_more, from_some, some_is_none}

module _ (q : List ℕ) where
  -- whether a window stays where the one of this path goes
  abbrev pub stays : Window → Bool
  stays w = not (is_within q w.path)

  and_false : (b : Bool) → (b && false) ≡ false
  and_false true = refl
  and_false false = refl

  -- a path is left where it was there and stays
  pub has_left : (ws : List Window) (p : List ℕ) → has_path (filter stays ws) p ≡ (has_path ws p && not (is_within q p))
  has_left [] p = refl
  has_left (w ∷ ws) p = by (is_within q w.path) refl (same_text p w.path) refl (has_left ws p)
    where
      left : List Window
      left = filter stays ws

      same : same_text p w.path ≡ true → is_within q p ≡ is_within q w.path
      same e = ap (is_within q) ((bytes_decides p w.path).0 e)

      by : (k : Bool) → is_within q w.path ≡ k → (s : Bool) → same_text p w.path ≡ s → has_path (filter stays ws) p ≡ (has_path ws p && not (is_within q p))
          → has_path (cond (not k) (w ∷ filter stays ws) (filter stays ws)) p ≡ (is_some (cond s (Some w) (of_path ws p)) && not (is_within q p))
      by false e true s ih = ap (λ b. is_some (cond b (Some w) (of_path (filter stays ws) p))) s ∙ sym (ap not (same s ∙ e))
      by false e false s ih = ap (λ b. is_some (cond b (Some w) (of_path (filter stays ws) p))) s ∙ ih
      by true e true s ih = ih ∙ ap (λ b. has_path ws p && not b) (same s ∙ e) ∙ and_false (has_path ws p) ∙ sym (ap not (same s ∙ e))
      by true e false s ih = ih

  none_left : (before : List Window) → StandsIn None before → StandsIn None (filter stays before)
  none_left [] h = tt
  none_left (w ∷ before) h = absurd h

  -- what stays stands in what stays
  parent_stays : (path p : List ℕ) → parent_of path ≡ Some p → is_within q path ≡ false → is_within q p ≡ false
  parent_stays path p e h = by (is_within q p) refl
    where
      by : (b : Bool) → is_within q p ≡ b → b ≡ false
      by false k = refl
      by true k = absurd (true≢false (sym (within_child q path p e k) ∙ h))

  follows_left : (before : List Window) (w : Window) → Follows before w → is_within q w.path ≡ false → Follows (filter stays before) w
  follows_left before w f h =
      record {
        path = f.path;
        new = has_left before w.path ∙ ap (λ b. b && not (is_within q w.path)) f.new;
        parent = by (parent_of w.path) refl f.parent;
      }
    where
      by : (o : Option (List ℕ)) → parent_of w.path ≡ o → StandsIn o before → StandsIn o (filter stays before)
      by None e s = none_left before s
      by (Some p) e s = has_left before p ∙ ap (λ b. b && not (is_within q p)) s ∙ ap not (parent_stays w.path p e h)

  all_left : (before ws : List Window) → AllFollow before ws → AllFollow (filter stays before) (filter stays ws)
  all_left before [] all = tt
  all_left before (w ∷ ws) all = by (is_within q w.path) refl (subst (λ b. AllFollow b (filter stays ws)) (filter-append stays before (w ∷ [])) (all_left (before ++ w ∷ []) ws all.1))
    where
      by : (b : Bool) → is_within q w.path ≡ b → AllFollow (filter stays before ++ cond (not (is_within q w.path)) (w ∷ []) []) (filter stays ws)
          → AllFollow (filter stays before) (cond (not b) (w ∷ filter stays ws) (filter stays ws))
      by false e rest = (follows_left before w all.0 e, subst (λ b. AllFollow (filter stays before ++ cond (not b) (w ∷ []) []) (filter stays ws)) e rest)
      by true e rest =
          subst (λ b. AllFollow b (filter stays ws)) (append-nil (filter stays before))
          (subst (λ b. AllFollow (filter stays before ++ cond (not b) (w ∷ []) []) (filter stays ws)) e rest)

  within_root : is_path q ≡ true → same_text q root_path ≡ false → is_within q root_path ≡ false
  within_root h k = ap (λ b. b || (b || goes_on q root_path)) k ∙ at_root q h
    where
      at_root : (q : List ℕ) → is_path q ≡ true → goes_on q root_path ≡ false
      at_root [] h = absurd (true≢false (sym h))
      at_root (b ∷ []) h = and_false (46 == b)
      at_root (b ∷ c ∷ q) h = and_false (46 == b)

  classes_left : (ws : List Window) → HaveOwnClasses ws → HaveOwnClasses (filter stays ws)
  classes_left [] all = all
  classes_left (w ∷ ws) all = by (stays w) (classes_left ws all.1)
    where
      by : (b : Bool) → HaveOwnClasses (filter stays ws) → HaveOwnClasses (cond b (w ∷ filter stays ws) (filter stays ws))
      by true rest = (all.0, rest)
      by false rest = rest

  pub well_left : (t : Windows) → WellFormed t → is_path q ≡ true → same_text q root_path ≡ false → WellFormed (record t { windows = filter stays t.windows })
  well_left t w h k =
      record {
        first = (filter stays w.first.0, ap (filter stays) w.first.1 ∙ ap (λ b. cond (not b) (root ∷ filter stays w.first.0) (filter stays w.first.0)) (within_root h k));
        numbered = rise_filter stays 0 t.windows t.next w.numbered;
        bounded = w.bounded;
        founded = all_left [] t.windows w.founded;
        classes = classes_left t.windows w.classes;
      }

-- a window other than the first isn't `.`
pub other_path : (test : Window → Bool) (before ws : List Window) (w : Window) → AllFollow before ws → has_path before root_path ≡ true → find test ws ≡ Some w
    → (is_path w.path ≡ true) × (same_text w.path root_path ≡ false)
other_path test before [] w all has h = absurd (some_is_none (sym h))
other_path test before (v ∷ ws) w all has h = on (test v) h (other_path test (before ++ v ∷ []) ws w all.1 (has_more before (v ∷ []) root_path ∙ true_or (has_path before root_path) (has_path (v ∷ []) root_path) has))
  where
    by : (b : Bool) → same_text v.path root_path ≡ b → b ≡ false
    by false e = refl
    by true e = absurd (true≢false (sym has ∙ sym (ap (has_path before) ((bytes_decides v.path root_path).0 e)) ∙ all.0.new))

    on : (b : Bool) → cond b (Some v) (find test ws) ≡ Some w → (find test ws ≡ Some w → (is_path w.path ≡ true) × (same_text w.path root_path ≡ false))
        → (is_path w.path ≡ true) × (same_text w.path root_path ≡ false)
    on true h rest = subst (λ u. (is_path u.path ≡ true) × (same_text u.path root_path ≡ false)) (ap (from_some w) h) (all.0.path, by (same_text v.path root_path) refl)
    on false h rest = rest h

-- ---- the window of a number

-- what stands at the first place that passes a test
pub found_at : {X : Type 0} (test : X → Bool) (xs : List X) (place : ℕ) → Some place ≡ position test xs → find test xs ≡ slice_get xs place
found_at test xs place h = find_at test xs ∙ ap (slice_get xs) (by (nat_lt (position_or_len test xs) (length xs)) h)
  where
    by : (b : Bool) → Some place ≡ cond b (Some (position_or_len test xs)) None → position_or_len test xs ≡ place
    by true h = sym (ap (from_some 0) h)
    by false h = absurd (some_is_none h)

pub found_nowhere : {X : Type 0} (test : X → Bool) (xs : List X) → None ≡ position test xs → find test xs ≡ None
found_nowhere test xs h = find_at test xs ∙ by (nat_lt (position_or_len test xs) (length xs)) refl h
  where
    by : (b : Bool) → nat_lt (position_or_len test xs) (length xs) ≡ b → None ≡ cond b (Some (position_or_len test xs)) None → slice_get xs (position_or_len test xs) ≡ None
    by true e h = absurd (some_is_none (sym h))
    by false e h = slice_get_past xs (position_or_len test xs) (ltb-false _ _ e)

pub found_passes : {X : Type 0} (test : X → Bool) (xs : List X) (x : X) → find test xs ≡ Some x → test x ≡ true
found_passes test [] x h = absurd (some_is_none (sym h))
found_passes test (y ∷ xs) x h = by (test y) refl h (found_passes test xs x)
  where
    by : (b : Bool) → test y ≡ b → cond b (Some y) (find test xs) ≡ Some x → (find test xs ≡ Some x → test x ≡ true) → test x ≡ true
    by true e h rest = ap test (sym (ap (from_some x) h)) ∙ e
    by false e h rest = rest h

other_than_0 : (n : ℕ) → (n == 0) ≡ false → (0 == n) ≡ false
other_than_0 n h = by (0 == n) refl
  where
    by : (b : Bool) → (0 == n) ≡ b → b ≡ false
    by false e = refl
    by true e = absurd (true≢false (sym (eq-eqb n 0 (sym (eqb-true 0 n e))) ∙ h))

-- the windows without one that isn't `.`
pub well_without : (t : Windows) (number : ℕ) (w : Window) → WellFormed t → (number == 0) ≡ false → of_number t.windows number ≡ Some w
    → WellFormed (record t { windows = others w.path t.windows })
well_without t number w well other is =
    let later : find (λ u. u.number == number) well.first.0 ≡ Some w =
    sym (ap (λ b. cond b (Some root) (find (λ u. u.number == number) well.first.0)) (other_than_0 number other))
    ∙ sym (ap (find (λ u. u.number == number)) well.first.1) ∙ is in
    let path = other_path (λ u. u.number == number) (root ∷ []) well.first.0 w (subst (AllFollow []) well.first.1 well.founded).1 refl later in
    well_left w.path t well path.0 path.1
