-- What holds of all windows, as windows are made and destroyed.
use Rattle.std.proofs.Common.{rules, ◌≡◌, ℕ, ◌+◌, ◌<◌, ◌≤◌, Bool, true, false, cond, ◌||◌, ◌&&◌, not, List, [], ◌∷◌, ◌++◌, Option, Some, None, is_some, refl, sym, ap, subst, ◌∙◌, true≢false, lt-ltb, append_assoc, arith, if◌then◌else◌, Ok, Err, Result, inl, inr}
use Rattle.std.specs.Prelude.{◌⊎◌, ◌==◌}
use Rattle.std.specs.List.{filter}
use Rattle.std.specs.Option.{option_map}
use Rattle.std.specs.Result.{is_ok}
use Rattle.std.specs.Cmp.Lexicographic.{bytes_decides}
use Rattle.std.proofs.lemmas.List.{append-nil}
use Rattle.std.proofs.lemmas.Bool.{eqb-true, eq-eqb}
use Rattle.tks_text.specs.declared.fault.ErrorNumber.TheVariants.{BadPath, WindowExists, NoSuchWindow}
use Rattle.tks_text.specs.Text.{same_text}
use Rattle.tks_text.specs.declared.class.Class.{Class}
use Rattle.tks_tree.specs.Path.{root_path, is_dot, before_dot, before_last_dot, or_root, parent_of, goes_on, is_within, is_path, are_names_behind_dot}
use Rattle.tks_tree.specs.Windows.{Window, Windows, root, Refusal, of_path, has_path, max_number, parent_found, free_path, after, numbered, created, with_window, refused, OutOfNumbers}
use Rattle.tks_tree.specs.WellFormed.{Rise, StandsIn, Follows, AllFollow, is_widget_class, has_own_class, HaveOwnClasses, WellFormed}

-- ---- numbers

rise_more : (low n : ℕ) (ws : List Window) (high : ℕ) → low ≤ n → Rise n ws high → Rise low ws high
rise_more low n [] high le r = omega arith
rise_more low n (w ∷ ws) high le r = (omega (arith, le, r.0), r.1)

rise_end : (low : ℕ) (ws : List Window) (v : Window) → Rise low ws v.number → Rise low (ws ++ v ∷ []) (v.number + 1)
rise_end low [] v r = (r, omega arith)
rise_end low (w ∷ ws) v r = (r.0, rise_end (w.number + 1) ws v r.1)

rise_to : (low : ℕ) (ws : List Window) (high n : ℕ) → high ≤ n → Rise low ws high → Rise low ws n
rise_to low [] high n le r = omega (arith, le, r)
rise_to low (w ∷ ws) high n le r = (r.0, rise_to (w.number + 1) ws high n le r.1)

pub rise_filter : (keep : Window → Bool) (low : ℕ) (ws : List Window) (high : ℕ) → Rise low ws high → Rise low (filter keep ws) high
rise_filter keep low [] high r = r
rise_filter keep low (w ∷ ws) high r = by (keep w) (rise_filter keep (w.number + 1) ws high r.1)
  where
    by : (b : Bool) → Rise (w.number + 1) (filter keep ws) high → Rise low (cond b (w ∷ filter keep ws) (filter keep ws)) high
    by true rest = (r.0, rest)
    by false rest = rise_more low (w.number + 1) (filter keep ws) high (omega (arith, r.0)) rest

-- ---- paths

pub either : (a b : Bool) → (a || b) ≡ true → (a ≡ true) ⊎ (b ≡ true)
either true b h = inl refl
either false b h = inr h

pub true_or : (a b : Bool) → a ≡ true → (a || b) ≡ true
true_or a b h = ap (λ t. t || b) h

pub or_true : (a b : Bool) → b ≡ true → (a || b) ≡ true
or_true true b h = refl
or_true false b h = h

pub has_more : (ws vs : List Window) (path : List ℕ) → has_path (ws ++ vs) path ≡ (has_path ws path || has_path vs path)
has_more [] vs path = refl
has_more (w ∷ ws) vs path = by (same_text path w.path) (has_more ws vs path)
  where
    by : (b : Bool) → has_path (ws ++ vs) path ≡ (has_path ws path || has_path vs path)
        → is_some (cond b (Some w) (of_path (ws ++ vs) path)) ≡ (is_some (cond b (Some w) (of_path ws path)) || has_path vs path)
    by true rest = refl
    by false rest = rest

abbrev pub from_some : {X : Type 0} → X → Option X → X
from_some d None = d
from_some d (Some x) = x

pub some_is_none : {X : Type 0} {x : X} → Some x ≡ None → ⊥
some_is_none e = true≢false (ap is_some e)

-- a path with something before its last dot is that, the dot and a name
cut_at_dot : (path front : List ℕ) → before_last_dot path ≡ Some front → (name : List ℕ) × (path ≡ front ++ 46 ∷ name)
cut_at_dot [] front h = absurd (some_is_none (sym h))
cut_at_dot (c ∷ path) front h = by (before_last_dot path) h (cut_at_dot path)
  where
    at_dot : (dot : Bool) → is_dot c ≡ dot → (if dot then Some [] else None) ≡ Some front → (name : List ℕ) × (c ∷ path ≡ front ++ 46 ∷ name)
    at_dot true e h = (path, ap (λ b. b ∷ path) (eqb-true c 46 e) ∙ ap (λ f. f ++ 46 ∷ path) (ap (from_some []) h))
    at_dot false e h = absurd (some_is_none (sym h))

    by : (o : Option (List ℕ)) → before_dot c o ≡ Some front → ((f : List ℕ) → o ≡ Some f → (name : List ℕ) × (path ≡ f ++ 46 ∷ name))
        → (name : List ℕ) × (c ∷ path ≡ front ++ 46 ∷ name)
    by None h rest = at_dot (is_dot c) refl h
    by (Some f) h rest =
        let r = rest f refl in
        (r.0, ap (λ p. c ∷ p) r.1 ∙ ap (λ g. g ++ 46 ∷ r.0) (ap (from_some []) h))

goes_on_here : (front name : List ℕ) → goes_on front (front ++ 46 ∷ name) ≡ true
goes_on_here [] name = refl
goes_on_here (b ∷ front) name = ap (λ t. t && goes_on front (front ++ 46 ∷ name)) (eq-eqb b b refl) ∙ goes_on_here front name

pub both : (a b : Bool) → a ≡ true → b ≡ true → (a && b) ≡ true
both a b h k = ap (λ t. t && b) h ∙ k

pub first_true : (a b : Bool) → (a && b) ≡ true → a ≡ true
first_true true b h = refl
first_true false b h = h

pub second_true : (a b : Bool) → (a && b) ≡ true → b ≡ true
second_true true b h = h
second_true false b h = absurd (true≢false (sym h))

goes_on_further : (front path more : List ℕ) → goes_on front path ≡ true → goes_on front (path ++ more) ≡ true
goes_on_further [] [] more h = absurd (true≢false (sym h))
goes_on_further [] (c ∷ path) more h = h
goes_on_further (b ∷ front) [] more h = absurd (true≢false (sym h))
goes_on_further (b ∷ front) (c ∷ path) more h = both (c == b) _ (first_true (c == b) _ h) (goes_on_further front path more (second_true (c == b) _ h))

-- what goes on to `.` goes on to nothing longer than the empty text
goes_to_root : (q path : List ℕ) → goes_on q root_path ≡ true → goes_on q (46 ∷ path) ≡ true
goes_to_root [] path h = refl
goes_to_root (b ∷ []) path h = absurd (true≢false (sym (second_true (46 == b) false h)))
goes_to_root (b ∷ c ∷ q) path h = absurd (true≢false (sym (second_true (46 == b) false h)))

-- the same of the path that a path stands in
goes_on_child : (q path front : List ℕ) → before_last_dot path ≡ Some front → goes_on q (or_root front) ≡ true → goes_on q path ≡ true
goes_on_child q path [] e h =
    let cut = cut_at_dot path [] e in
    subst (λ p. goes_on q p ≡ true) (sym cut.1) (goes_to_root q cut.0 h)
goes_on_child q path (c ∷ front) e h =
    let cut = cut_at_dot path (c ∷ front) e in
    subst (λ p. goes_on q p ≡ true) (sym cut.1) (goes_on_further q (c ∷ front) (46 ∷ cut.0) h)

same_child : (q path front : List ℕ) → before_last_dot path ≡ Some front → q ≡ or_root front → is_within q path ≡ true
same_child q path [] e h = true_or (same_text q root_path) (same_text q path || goes_on q path) ((bytes_decides q root_path).1 h)
same_child q path (c ∷ front) e h =
    let cut = cut_at_dot path (c ∷ front) e in
    or_true (same_text q root_path) (same_text q path || goes_on q path) (or_true (same_text q path) (goes_on q path) (subst (λ p. goes_on q p ≡ true) (sym cut.1) (subst (λ p. goes_on p (c ∷ front ++ 46 ∷ cut.0) ≡ true) (sym h) (goes_on_here (c ∷ front) cut.0))))

-- a path has a parent where something is before its last dot
pub parent_cut : (path parent : List ℕ) → parent_of path ≡ Some parent → (front : List ℕ) × (before_last_dot path ≡ Some front) × (parent ≡ or_root front)
parent_cut path parent h = by (same_text path root_path) h
  where
    by2 : (o : Option (List ℕ)) → before_last_dot path ≡ o → option_map or_root o ≡ Some parent → (front : List ℕ) × (before_last_dot path ≡ Some front) × (parent ≡ or_root front)
    by2 None e h = absurd (some_is_none (sym h))
    by2 (Some front) e h = (front, e, sym (ap (from_some []) h))

    by : (b : Bool) → (if b then None else option_map or_root (before_last_dot path)) ≡ Some parent → (front : List ℕ) × (before_last_dot path ≡ Some front) × (parent ≡ or_root front)
    by true h = absurd (some_is_none (sym h))
    by false h = by2 (before_last_dot path) refl h

-- what stands in a window within another stands within that
pub within_child : (q path parent : List ℕ) → parent_of path ≡ Some parent → is_within q parent ≡ true → is_within q path ≡ true
within_child q path parent h k =
    let cut = parent_cut path parent h in
    elim (either (same_text q root_path) (same_text q parent || goes_on q parent) k) [
      | inl r ↦ true_or (same_text q root_path) (same_text q path || goes_on q path) r
      | inr r ↦ elim (either (same_text q parent) (goes_on q parent) r) [
        | inl s ↦ same_child q path cut.0 cut.1 ((bytes_decides q parent).0 s ∙ cut.2)
        | inr g ↦ or_true (same_text q root_path) (same_text q path || goes_on q path) (or_true (same_text q path) (goes_on q path) (goes_on_child q path cut.0 cut.1 (subst (λ p. goes_on q p ≡ true) cut.2 g)))
      ]
    ]

-- a path without a parent is `.`
stands_somewhere : (path : List ℕ) → is_path path ≡ true → parent_of path ≡ None → path ≡ root_path
stands_somewhere path h n = by (same_text path root_path) refl h n
  where
    none_before : (names : List ℕ) → are_names_behind_dot names ≡ true → option_map or_root (before_last_dot names) ≡ None → ⊥
    none_before [] h n = true≢false (sym h)
    none_before (c ∷ names) h n = at (before_last_dot names) n
      where
        dot : is_dot c ≡ true
        dot = first_true (is_dot c) _ h

        at : (o : Option (List ℕ)) → option_map or_root (before_dot c o) ≡ None → ⊥
        at None n = some_is_none (sym (ap (λ (b : Bool). option_map or_root (if b then Some [] else None)) dot) ∙ n)
        at (Some f) n = some_is_none n

    by : (b : Bool) → same_text path root_path ≡ b → (b || are_names_behind_dot path) ≡ true → (if b then None else option_map or_root (before_last_dot path)) ≡ None → path ≡ root_path
    by true e h n = (bytes_decides path root_path).0 e
    by false e h n = absurd (none_before path h n)

-- ---- a window more

-- the parent that was found stands there
parent_there : (ws : List Window) (parent : List ℕ) → parent_found ws (Some parent) ≡ Ok (tt {0}) → has_path ws parent ≡ true
parent_there ws parent h = by (has_path ws parent) h
  where
    by : (b : Bool) → ◌≡◌ {A = Result (Unit {0}) Refusal} (if b then Ok (tt {0}) else refused NoSuchWindow parent) (Ok (tt {0})) → b ≡ true
    by true h = refl
    by false h = search rules

stands : (later : List Window) (path : List ℕ) → is_path path ≡ true → has_path (root ∷ later) path ≡ false → parent_found (root ∷ later) (parent_of path) ≡ Ok (tt {0})
    → StandsIn (parent_of path) (root ∷ later)
stands later path h new found = by (parent_of path) refl found
  where
    by : (o : Option (List ℕ)) → parent_of path ≡ o → parent_found (root ∷ later) o ≡ Ok (tt {0}) → StandsIn o (root ∷ later)
    by None e found = true≢false (sym (ap (has_path (root ∷ later)) (stands_somewhere path h e)) ∙ new)
    by (Some parent) e found = parent_there (root ∷ later) parent found

pub all_end : (before ws : List Window) (v : Window) → AllFollow before ws → Follows (before ++ ws) v → AllFollow before (ws ++ v ∷ [])
all_end before [] v all f = (subst (λ b. Follows b v) (append-nil before) f, tt)
all_end before (w ∷ ws) v all f =
    (all.0, all_end (before ++ w ∷ []) ws v all.1 (subst (λ b. Follows b v) (sym (append_assoc before (w ∷ []) ws)) f))

-- what a free path has, and has not
pub record Free (windows : List Window) (path : List ℕ) : Type 0 where
  pub is_one : is_path path ≡ true
  pub new : has_path windows path ≡ false
  pub found : parent_found windows (parent_of path) ≡ Ok (tt {0})

not_free : (why : Refusal) → (Err why) ≡ Ok (tt {0}) → ⊥
not_free why h = true≢false (sym (ap (is_ok {T = Unit {0}} {E = Refusal}) h))

pub free : (windows : List Window) (path : List ℕ) → free_path windows path ≡ Ok (tt {0}) → Free windows path
free windows path h = by (is_path path) refl h
  where
    go : (b : Bool) → has_path windows path ≡ b → is_path path ≡ true → (if b then refused WindowExists path else parent_found windows (parent_of path)) ≡ Ok (tt {0}) → Free windows path
    go true e is h = absurd (not_free _ h)
    go false e is h = record { is_one = is; new = e; found = h }

    by : (b : Bool) → is_path path ≡ b → (if not b then refused BadPath path else (if has_path windows path then refused WindowExists path else parent_found windows (parent_of path))) ≡ Ok (tt {0}) → Free windows path
    by false e h = absurd (not_free _ h)
    by true e h = go (has_path windows path) refl e h

-- a window that nothing forbids is made
pub made : (t : Windows) (path : List ℕ) (class : Class) → free_path t.windows path ≡ Ok (tt {0}) → t.next < max_number → created t path class ≡ Ok (t.next, with_window t path class)
made t path class h below =
    ap (λ r. after r (λ _. numbered t path class)) h
    ∙ ap (λ (b : Bool). if b then Ok (t.next, with_window t path class) else Err OutOfNumbers) (lt-ltb t.next max_number below)

classes_end : (ws : List Window) (v : Window) → HaveOwnClasses ws → has_own_class v ≡ true → HaveOwnClasses (ws ++ v ∷ [])
classes_end [] v all h = (h, tt)
classes_end (w ∷ ws) v all h = (all.0, classes_end ws v all.1 h)

pub well_with : (t : Windows) (path : List ℕ) (class : Class) → WellFormed t → is_path path ≡ true → has_path t.windows path ≡ false
    → parent_found t.windows (parent_of path) ≡ Ok (tt {0}) → t.next < max_number → is_widget_class class ≡ true → WellFormed (with_window t path class)
well_with t path class w h new found below widget =
    let v : Window = record { number = t.next; path = path; class = class } in
    record {
      first = (w.first.0 ++ v ∷ [], ap (λ ws. ws ++ v ∷ []) w.first.1);
      numbered = rise_end 0 t.windows v w.numbered;
      bounded = omega (arith, below);
      founded = all_end [] t.windows v w.founded (record {
        path = h;
        new = new;
        parent = subst (λ ws. StandsIn (parent_of path) ws) (sym w.first.1)
            (stands w.first.0 path h (sym (ap (λ ws. has_path ws path) w.first.1) ∙ new) (sym (ap (λ ws. parent_found ws (parent_of path)) w.first.1) ∙ found));
      });
      classes = classes_end t.windows v w.classes (or_true (t.next == 0) (is_widget_class class) widget);
    }

-- ---- numbers skipped

pub well_skipped : (t : Windows) (n : ℕ) → WellFormed t → t.next ≤ n → n ≤ max_number → WellFormed (record t { next = n })
well_skipped t n w above bounded =
    record { first = w.first; numbered = rise_to 0 t.windows t.next n above w.numbered; bounded = bounded; founded = w.founded; classes = w.classes }
