-- Windows linked by their places, and the walk over them.
use Rattle.std.proofs.Common.{◌≡◌, ℕ, zero, suc, ◌+◌, ◌<◌, Bool, true, false, cond, not, List, [], ◌∷◌, ◌++◌, length, take, drop, map, set, get_or, Option, Some, None, is_some, refl, sym, ap, subst, ◌∙◌, true≢false, append_assoc, arith, if◌then◌else◌}
use Rattle.std.specs.Prelude.{nat_lt, reverse, replicate}
use Rattle.std.specs.List.{find, flat_map, position, position_or_len, AllByRecursion}
use Rattle.std.specs.Cmp.Lexicographic.{bytes_decides}
use Rattle.std.proofs.lemmas.Bool.{le-ltb}
use Rattle.std.proofs.lemmas.List.{append-nil, length-map, map-append, reverse-append}
use Rattle.std.proofs.lemmas.List.Quantifiers.{position-Some}
use Rattle.tks_text.specs.Text.{same_text}
use Rattle.tks_text.proofs.Texts.{same_either_way}
use Rattle.tks_tree.specs.Path.{parent_of, is_text, is_child}
use Rattle.tks_tree.specs.Windows.{Window, Windows, of_path, has_path, numbers, inside, preorder}
use Rattle.tks_tree.specs.WellFormed.{StandsIn, Follows, AllFollow, WellFormed}
use Rattle.tks_tree.specs.Links.{parent_places, first_from, firsts_from, beside_from, nexts_from, listed}
use Rattle.tks_tree.proofs.Trees.{some_is_none, has_more, true_or, or_true}
use Rattle.tks_tree.proofs.Removals.{found_nowhere}
use Rattle.tks_tree.proofs.Preorders.{made_later}

-- ---- the place of a parent

module _ (path : List ℕ) where
  abbrev stands_in : Window → Bool
  stands_in w = is_child w.path path

  -- the place of the parent's path among all is that of the window
  pub at_parent : (parent : List ℕ) → parent_of path ≡ Some parent → (ws : List Window) → position (λ (w : Window). same_text parent w.path) ws ≡ position stands_in ws
  at_parent parent p ws i = position (λ (w : Window). (same_either_way parent w.path ∙ ap (is_text w.path) (sym p)) i) ws

  all_passed : parent_of path ≡ None → (ws : List Window) → position_or_len stands_in ws ≡ length ws
  all_passed p [] = refl
  all_passed p (w ∷ ws) = ap (λ o. cond (not (is_text w.path o)) (1 + position_or_len stands_in ws) 0) p ∙ omega (arith, all_passed p ws)

  -- what stands in none has none
  pub without_parent : parent_of path ≡ None → (ws : List Window) → None ≡ position stands_in ws
  without_parent p ws =
      sym (ap (λ k. cond (nat_lt k (length ws)) (Some k) None) (all_passed p ws) ∙ ap (λ b. cond b (Some (length ws)) None) (le-ltb (length ws) (length ws) (omega arith)))

pub its_parent : (path child : List ℕ) → is_child path child ≡ true → parent_of child ≡ Some path
its_parent path child e = by (parent_of child) refl e
  where
    by : (o : Option (List ℕ)) → parent_of child ≡ o → is_text path o ≡ true → o ≡ Some path
    by None p e = absurd (true≢false (sym e))
    by (Some parent) p e = ap Some (sym ((bytes_decides path parent).0 e))

-- ---- one window more, before those from a place on

module _ (v : Window) (later : List Window) (place : ℕ) where
  abbrev in_this : Window → Bool
  in_this w = is_child w.path v.path

  abbrev first_of : Window → Option ℕ
  first_of w = first_from w.path (v ∷ later) place

  abbrev known_of : Window → Option ℕ
  known_of w = first_from w.path later (suc place)

  not_here : (w : Window) → in_this w ≡ false → first_of w ≡ known_of w
  not_here w e = ap (λ (b : Bool). if b then Some place else known_of w) e

  here : (w : Window) → in_this w ≡ true → first_of w ≡ Some place
  here w e = ap (λ (b : Bool). if b then Some place else known_of w) e

  -- where no window is its parent nothing changes
  pub to_none : (ws : List Window) → find in_this ws ≡ None → firsts_from ws later (suc place) ≡ firsts_from ws (v ∷ later) place
  to_none [] h = refl
  to_none (w ∷ ws) h = by (in_this w) refl h (to_none ws)
    where
      by : (b : Bool) → in_this w ≡ b → cond b (Some w) (find in_this ws) ≡ None → (find in_this ws ≡ None → firsts_from ws later (suc place) ≡ firsts_from ws (v ∷ later) place)
          → firsts_from (w ∷ ws) later (suc place) ≡ firsts_from (w ∷ ws) (v ∷ later) place
      by true e h ih = absurd (some_is_none h)
      by false e h ih = λ i. sym (not_here w e) i ∷ ih h i

  -- no two windows are its parent: paths differ
  no_other : (before ws : List Window) (parent : List ℕ) → AllFollow before ws → parent_of v.path ≡ Some parent → has_path before parent ≡ true → find in_this ws ≡ None
  no_other before [] parent all p there = refl
  no_other before (w ∷ ws) parent all p there =
      ap (λ b. cond b (Some w) (find in_this ws)) (by (in_this w) refl)
      ∙ no_other (before ++ w ∷ []) ws parent all.1 p (has_more before (w ∷ []) parent ∙ true_or (has_path before parent) (has_path (w ∷ []) parent) there)
    where
      by : (b : Bool) → in_this w ≡ b → b ≡ false
      by false e = refl
      by true e =
          let same = (bytes_decides w.path parent).0 (sym (ap (is_text w.path) p) ∙ e) in
          absurd (true≢false (sym there ∙ ap (has_path before) (sym same) ∙ all.0.new))

  -- the parent is the first at a place
  abbrev First : List Window → ℕ → Window → Type 0
  First ws i d = (i < length ws) × (in_this (get_or ws i d) ≡ true) × ((n : ℕ) → n < i → in_this (get_or ws n d) ≡ false)

  put_first : (before ws : List Window) (i : ℕ) (d : Window) → AllFollow before ws → First ws i d
      → set (firsts_from ws later (suc place)) i (Some place) ≡ firsts_from ws (v ∷ later) place
  put_first before [] i d all f = absurd (omega (arith, f.0))
  put_first before (w ∷ ws) zero d all f =
      let one = has_more before (w ∷ []) w.path ∙ or_true (has_path before w.path) (has_path (w ∷ []) w.path) (ap (λ b. is_some (cond b (Some w) None)) ((bytes_decides w.path w.path).1 refl)) in
      λ k. sym (here w f.1) k ∷ to_none ws (no_other (before ++ w ∷ []) ws w.path all.1 (its_parent w.path v.path f.1) one) k
  put_first before (w ∷ ws) (suc i) d all f =
      λ k. sym (not_here w (f.2 0 (omega arith))) k
      ∷ put_first (before ++ w ∷ []) ws i d all.1 (omega (arith, f.0), f.1, λ n lt. f.2 (suc n) (omega (arith, lt))) k

  -- what its parent has first is the next beside it
  got_beside : (ws : List Window) (i : ℕ) (d : Window) (e : Option ℕ) → First ws i d → get_or (firsts_from ws later (suc place)) i e ≡ beside_from (parent_of v.path) later (suc place)
  got_beside [] i d e f = absurd (omega (arith, f.0))
  got_beside (w ∷ ws) zero d e f = sym (ap (λ o. beside_from o later (suc place)) (its_parent w.path v.path f.1))
  got_beside (w ∷ ws) (suc i) d e f = got_beside ws i d e (omega (arith, f.0), f.1, λ n lt. f.2 (suc n) (omega (arith, lt)))

-- ---- places of lists

nothing_left : {X : Type 0} {x : X} {xs : List X} → [] ≡ x ∷ xs → ⊥
nothing_left e = true≢false (sym (ap (λ l. elim l as (λ _. Bool) [ [] ↦ false | y ∷ ys ↦ true ]) e))

nothing_at : {X : Type 0} {x : X} {xs : List X} (k : ℕ) → drop k [] ≡ x ∷ xs → ⊥
nothing_at zero e = nothing_left e
nothing_at (suc k) e = nothing_left e

-- an item, and those behind it
pub record Cut {X : Type 0} (xs : List X) (k : ℕ) : Type 0 where
  pub item : X
  pub behind : drop k xs ≡ item ∷ drop (suc k) xs
  pub whole : xs ≡ take k xs ++ item ∷ drop (suc k) xs
  pub sum : suc k + length (drop (suc k) xs) ≡ length xs

pub cut : {X : Type 0} (xs : List X) (k : ℕ) → k < length xs → Cut xs k
cut [] k h = absurd (omega (arith, h))
cut (x ∷ xs) zero h = record { item = x; behind = refl; whole = refl; sum = omega arith }
cut (x ∷ xs) (suc k) h =
    let c = cut xs k (omega (arith, h)) in
    record { item = c.item; behind = c.behind; whole = ap (λ l. x ∷ l) c.whole; sum = omega (arith, c.sum) }

got : {X Y : Type 0} (f : X → Y) (xs : List X) (k : ℕ) (x : X) (rest : List X) (d : Y) → drop k xs ≡ x ∷ rest → get_or (map f xs) k d ≡ f x
got f [] k x rest d e = absurd (nothing_at k e)
got {Y = Y} f (y ∷ ys) zero x rest d e = ap (λ l. elim l as (λ _. Y) [ [] ↦ f y | z ∷ zs ↦ f z ]) e
got f (y ∷ ys) (suc k) x rest d e = got f ys k x rest d e

drop_one : {X : Type 0} (xs : List X) (k : ℕ) (x : X) (rest : List X) → drop k xs ≡ x ∷ rest → drop (suc k) xs ≡ rest
drop_one [] k x rest e = absurd (nothing_at k e)
drop_one (y ∷ ys) zero x rest e = ap (drop 1) e
drop_one (y ∷ ys) (suc k) x rest e = drop_one ys k x rest e

follows_at : (before front : List Window) (v : Window) (later : List Window) → AllFollow before (front ++ v ∷ later) → Follows (before ++ front) v
follows_at before [] v later all = subst (λ b. Follows b v) (sym (append-nil before)) all.0
follows_at before (u ∷ front) v later all = subst (λ b. Follows b v) (append_assoc before (u ∷ []) front) (follows_at (before ++ u ∷ []) front v later all.1)

-- ---- the loop over all windows

-- what is made of one more
pub one_more : {Y : Type 0} (f : Window → Y) (so_far : List Y) (y : Y) (window : Window) (later : List Window) {longer all : List Y} {left : List Window}
    → longer ≡ so_far ++ y ∷ [] → y ≡ f window → window ∷ later ≡ left → so_far ++ map f left ≡ all → longer ++ map f later ≡ all
one_more f so_far y window later longer_is y_is left_is h =
    ap (λ l. l ++ map f later) longer_is ∙ append_assoc so_far (y ∷ []) (map f later)
    ∙ ap (λ x. so_far ++ x ∷ map f later) y_is ∙ ap (λ l. so_far ++ map f l) left_is ∙ h

-- ---- the loop from the last window on

pub as_many_parents : (ws : List Window) → length (parent_places ws) ≡ length ws
as_many_parents ws = length-map ws (λ (v : Window). position (λ w. is_child w.path v.path) ws)

pub as_many_firsts : (ws later : List Window) (place : ℕ) → length (firsts_from ws later place) ≡ length ws
as_many_firsts ws later place = length-map ws (λ (w : Window). first_from w.path later place)

pub none_first : (ws : List Window) (place : ℕ) → firsts_from ws [] place ≡ replicate (length ws) None
none_first [] place = refl
none_first (w ∷ ws) place = ap (λ l. None ∷ l) (none_first ws place)

-- the next ones from a place on, and none before it
abbrev pub nexts_known : List Window → ℕ → List (Option ℕ)
nexts_known later place = replicate place None ++ nexts_from later place

pub none_known : (place : ℕ) → nexts_known [] place ≡ replicate place None
none_known place = append-nil (replicate place None)

put_at : (place : ℕ) (x : Option ℕ) (rest : List (Option ℕ)) → set (replicate (suc place) None ++ rest) place x ≡ replicate place None ++ x ∷ rest
put_at zero x rest = refl
put_at (suc place) x rest = ap (λ l. None ∷ l) (put_at place x rest)

left_at : (place : ℕ) (rest : List (Option ℕ)) → replicate (suc place) None ++ rest ≡ replicate place None ++ None ∷ rest
left_at zero rest = refl
left_at (suc place) rest = ap (λ l. None ∷ l) (left_at place rest)

pub as_many_nexts : (later : List Window) (place : ℕ) → length (nexts_from later place) ≡ length later
as_many_nexts [] place = refl
as_many_nexts (w ∷ later) place = ap suc (as_many_nexts later (suc place))

-- what stands in a window stands in one of all
no_orphan : (before ws : List Window) (v : Window) → Follows before v → (rest : List Window) → ws ≡ before ++ rest → None ≡ position (λ w. is_child w.path v.path) ws → parent_of v.path ≡ None
no_orphan before ws v f rest is none = by (parent_of v.path) refl f.parent
  where
    by : (o : Option (List ℕ)) → parent_of v.path ≡ o → StandsIn o before → o ≡ None
    by None p s = refl
    by (Some parent) p s =
        let there : has_path ws parent ≡ true = ap (λ l. has_path l parent) is ∙ has_more before rest parent ∙ true_or (has_path before parent) (has_path rest parent) s in
        let nowhere : of_path ws parent ≡ None = found_nowhere (λ (w : Window). same_text parent w.path) ws (none ∙ sym (at_parent v.path parent p ws)) in
        absurd (true≢false (sym there ∙ ap is_some nowhere))

module _ (ws : List Window) (all : AllFollow [] ws) (k : ℕ) (h : k < length ws) (o : Option ℕ) (d : Option ℕ) (is : o ≡ get_or (parent_places ws) k d) where
  abbrev one : Window
  one = (cut ws k h).item

  abbrev beyond : List Window
  beyond = drop (suc k) ws

  steps : drop k ws ≡ one ∷ beyond
  steps = (cut ws k h).behind

  pub at_position : o ≡ position (in_this one beyond k) ws
  at_position = is ∙ got (λ (u : Window). position (λ w. is_child w.path u.path) ws) ws k one beyond d steps

  pub as_before : o ≡ None → firsts_from ws beyond (suc k) ≡ firsts_from ws (drop k ws) k
  as_before n = to_none one beyond k ws (found_nowhere (in_this one beyond k) ws (sym n ∙ at_position)) ∙ ap (λ l. firsts_from ws l k) (sym steps)

  pub none_beside : o ≡ None → nexts_known beyond (suc k) ≡ nexts_known (drop k ws) k
  none_beside n =
      let f = follows_at [] (take k ws) one beyond (subst (AllFollow []) (cut ws k h).whole all) in
      let alone = no_orphan (take k ws) ws one f (one ∷ beyond) (cut ws k h).whole (sym n ∙ at_position) in
      left_at k (nexts_from beyond (suc k))
      ∙ ap (λ q. replicate k None ++ beside_from q beyond (suc k) ∷ nexts_from beyond (suc k)) (sym alone)
      ∙ ap (λ l. nexts_known l k) (sym steps)

  module _ (p : ℕ) (some : o ≡ Some p) where
    first_there : First one beyond k ws p one
    first_there = position-Some (in_this one beyond k) ws p one (sym at_position ∙ some)

    pub parent_inside : p < length ws
    parent_inside = first_there.0

    pub now_first : set (firsts_from ws beyond (suc k)) p (Some k) ≡ firsts_from ws (drop k ws) k
    now_first = put_first one beyond k [] ws p one all first_there ∙ ap (λ l. firsts_from ws l k) (sym steps)

    pub now_beside : (x e : Option ℕ) → x ≡ get_or (firsts_from ws beyond (suc k)) p e → set (nexts_known beyond (suc k)) k x ≡ nexts_known (drop k ws) k
    now_beside x e is =
        put_at k x (nexts_from beyond (suc k))
        ∙ ap (λ y. replicate k None ++ y ∷ nexts_from beyond (suc k)) (is ∙ got_beside one beyond k ws p one e first_there)
        ∙ ap (λ l. nexts_known l k) (sym steps)

-- ---- the walk

-- those from the window of a place on that stand where it does, each with those in it
abbrev pub beside : Option (List ℕ) → List Window → List ℕ
beside None later = []
beside (Some path) later = numbers (inside path later)

abbrev pub from_first : List Window → List ℕ
from_first [] = []
from_first (w ∷ later) = w.number ∷ (numbers (inside w.path later) ++ beside (parent_of w.path) later)

abbrev pub from_place : List Window → ℕ → List ℕ
from_place ws place = from_first (drop place ws)

abbrev pub from_places : List Window → List ℕ → List ℕ
from_places ws places = flat_map (from_place ws) places

-- those in a window are those from its first one on
from_first_one : (ws : List Window) (path : List ℕ) (later : List Window) (k : ℕ) → drop k ws ≡ later → from_places ws (listed (first_from path later k)) ≡ numbers (inside path later)
from_first_one ws path [] k e = refl
from_first_one ws path (w ∷ later) k e = by (is_child path w.path) refl (from_first_one ws path later (suc k) (drop_one ws k w later e))
  where
    by : (b : Bool) → is_child path w.path ≡ b → from_places ws (listed (first_from path later (suc k))) ≡ numbers (inside path later)
        → from_places ws (listed (if b then Some k else first_from path later (suc k))) ≡ numbers (if b then w ∷ (inside w.path later ++ inside path later) else inside path later)
    by false t ih = ih
    by true t ih =
        append-nil (from_place ws k) ∙ ap from_first e
        ∙ ap (λ o. w.number ∷ (numbers (inside w.path later) ++ beside o later)) (its_parent path w.path t)
        ∙ ap (λ ns. w.number ∷ ns) (sym (map-append (λ (u : Window). u.number) (inside w.path later) (inside path later)))

from_next_one : (ws : List Window) (o : Option (List ℕ)) (later : List Window) (k : ℕ) → drop k ws ≡ later → from_places ws (listed (beside_from o later k)) ≡ beside o later
from_next_one ws None later k e = refl
from_next_one ws (Some path) later k e = from_first_one ws path later k e

got_next : (ws : List Window) (k c : ℕ) (v : Window) (later : List Window) (d : Option ℕ) → drop k ws ≡ v ∷ later → get_or (nexts_from ws c) k d ≡ beside_from (parent_of v.path) later (suc k + c)
got_next [] k c v later d e = absurd (nothing_at k e)
got_next (w ∷ ws) zero c v later d e =
    let further : suc c ≡ suc zero + c = omega arith in
    ap (λ l. elim l as (λ _. Option ℕ) [ [] ↦ beside_from (parent_of w.path) ws (suc c) | z ∷ zs ↦ beside_from (parent_of z.path) zs (suc c) ]) e
    ∙ ap (beside_from (parent_of v.path) later) further
got_next (w ∷ ws) (suc k) c v later d e =
    let further : suc k + suc c ≡ suc (suc k) + c = omega arith in
    got_next ws k (suc c) v later d e ∙ ap (beside_from (parent_of v.path) later) further

first_within : (path : List ℕ) (later : List Window) (k c : ℕ) → first_from path later k ≡ Some c → c < k + length later
first_within path [] k c e = absurd (some_is_none (sym e))
first_within path (w ∷ later) k c e = by (is_child path w.path) e (first_within path later (suc k) c)
  where
    by : (b : Bool) → (if b then Some k else first_from path later (suc k)) ≡ Some c → (first_from path later (suc k) ≡ Some c → c < suc k + length later) → c < k + suc (length later)
    by true e rest = let same : k ≡ c = ap (λ o. elim o as (λ _. ℕ) [ None ↦ k | Some n ↦ n ]) e in omega (arith, same)
    by false e rest = omega (arith, rest e)

next_within : (o : Option (List ℕ)) (later : List Window) (k c : ℕ) → beside_from o later k ≡ Some c → c < k + length later
next_within None later k c e = absurd (some_is_none (sym e))
next_within (Some path) later k c e = first_within path later k c e

-- places are those of windows
abbrev pub AllWithin : List Window → List ℕ → Type 0
AllWithin ws places = AllByRecursion (λ place. place < length ws) places

within_front : (ws : List Window) (places more : List ℕ) → AllWithin ws (places ++ more) → AllWithin ws places
within_front ws [] more a = tt
within_front ws (p ∷ places) more a = (a.0, within_front ws places more a.1)

within_last : (ws : List Window) (places : List ℕ) (place : ℕ) → AllWithin ws (places ++ place ∷ []) → place < length ws
within_last ws [] place a = a.0
within_last ws (p ∷ places) place a = within_last ws places place a.1

within_more : (ws : List Window) (places : List ℕ) (o : Option ℕ) → AllWithin ws places → ((c : ℕ) → o ≡ Some c → c < length ws) → AllWithin ws (places ++ listed o)
within_more ws [] None a h = tt
within_more ws [] (Some c) a h = (h c refl, tt)
within_more ws (p ∷ places) o a h = (a.0, within_more ws places o a.1 h)

last_first : (ws : List Window) (places : List ℕ) (o : Option ℕ) → from_places ws (reverse (places ++ listed o)) ≡ from_places ws (listed o) ++ from_places ws (reverse places)
last_first ws places None = ap (λ l. from_places ws (reverse l)) (append-nil places)
last_first ws places (Some place) =
    ap (from_places ws) (reverse-append places (place ∷ []))
    ∙ ap (λ l. l ++ from_places ws (reverse places)) (sym (append-nil (from_place ws place)))

module _ (t : Windows) (w : WellFormed t) where
  -- a step: the last pending place's window goes to the order, and the places of the next one beside it and of the first one in it
  -- to the pending ones
  module _ (before pending : List ℕ) (place : ℕ) (was : before ≡ pending ++ place ∷ []) (inside_all : AllWithin t.windows before) where
    pub place_within : place < length t.windows
    place_within = within_last t.windows pending place (subst (AllWithin t.windows) was inside_all)

    abbrev at : Cut t.windows place
    at = cut t.windows place place_within

    abbrev following : List Window
    following = drop (suc place) t.windows

    module _ (first next d e : Option ℕ) (first_is : first ≡ get_or (firsts_from t.windows t.windows 0) place d) (next_is : next ≡ get_or (nexts_from t.windows 0) place e)
        (with_next after : List ℕ) (one : with_next ≡ pending ++ listed next) (two : after ≡ with_next ++ listed first) where
      the_first : first ≡ first_from at.item.path t.windows 0
      the_first = first_is ∙ got (λ (v : Window). first_from v.path t.windows 0) t.windows place at.item following d at.behind

      the_next : next ≡ beside_from (parent_of at.item.path) following (suc place)
      the_next =
          let same : suc place + 0 ≡ suc place = omega arith in
          next_is ∙ got_next t.windows place 0 at.item following e at.behind ∙ ap (beside_from (parent_of at.item.path) following) same

      pub still_within : AllWithin t.windows after
      still_within =
          let left = within_front t.windows pending (place ∷ []) (subst (AllWithin t.windows) was inside_all) in
          let more = within_more t.windows pending next left (λ c f. let h = next_within (parent_of at.item.path) following (suc place) c (sym the_next ∙ f) in omega (arith, h, at.sum)) in
          subst (AllWithin t.windows) (sym two)
          (within_more t.windows with_next first (subst (AllWithin t.windows) (sym one) more) (λ c f. let h = first_within at.item.path t.windows 0 c (sym the_first ∙ f) in omega (arith, h)))

      first_in_it : from_places t.windows (listed first) ≡ numbers (inside at.item.path following)
      first_in_it =
          ap (λ o. from_places t.windows (listed o)) the_first ∙ from_first_one t.windows at.item.path t.windows 0 refl
          ∙ ap (λ ws. numbers (inside at.item.path ws)) at.whole
          ∙ ap numbers (made_later [] (take place t.windows) at.item following (subst (AllFollow []) at.whole w.founded))

      next_beside_it : from_places t.windows (listed next) ≡ beside (parent_of at.item.path) following
      next_beside_it = ap (λ o. from_places t.windows (listed o)) the_next ∙ from_next_one t.windows (parent_of at.item.path) following (suc place) refl

      rest_after : from_places t.windows (reverse before) ≡ at.item.number ∷ from_places t.windows (reverse after)
      rest_after =
          ap (λ l. from_places t.windows (reverse l)) was ∙ last_first t.windows pending (Some place)
          ∙ ap (λ l. l ++ from_places t.windows (reverse pending)) (append-nil (from_place t.windows place) ∙ ap from_first at.behind)
          ∙ ap (λ l. at.item.number ∷ l)
          (append_assoc (numbers (inside at.item.path following)) (beside (parent_of at.item.path) following) (from_places t.windows (reverse pending))
          ∙ (λ i. sym first_in_it i ++ (sym next_beside_it i ++ from_places t.windows (reverse pending)))
          ∙ ap (λ l. from_places t.windows (listed first) ++ l) (sym (last_first t.windows pending next) ∙ ap (λ l. from_places t.windows (reverse l)) (sym one))
          ∙ sym (last_first t.windows with_next first)
          ∙ ap (λ l. from_places t.windows (reverse l)) (sym two))

      pub walked : (n : ℕ) (m : ℕ) → n ≡ get_or (numbers t.windows) place m → (order longer : List ℕ) → longer ≡ order ++ n ∷ []
          → order ++ from_places t.windows (reverse before) ≡ preorder t → longer ++ from_places t.windows (reverse after) ≡ preorder t
      walked n m number order longer e h =
          ap (λ l. l ++ from_places t.windows (reverse after)) e ∙ append_assoc order (n ∷ []) (from_places t.windows (reverse after))
          ∙ ap (λ k. order ++ k ∷ from_places t.windows (reverse after)) (number ∙ got (λ (v : Window). v.number) t.windows place at.item following m at.behind)
          ∙ ap (λ l. order ++ l) (sym rest_after) ∙ h

      pub shorter : length (from_places t.windows (reverse after)) < length (from_places t.windows (reverse before))
      shorter = let e : length (from_places t.windows (reverse before)) ≡ suc (length (from_places t.windows (reverse after))) = ap length rest_after in omega (arith, e)
