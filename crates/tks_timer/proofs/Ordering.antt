-- Turns in order: where one stands, and what a turn that comes in or goes out leaves.
use Rattle.std.proofs.Common.{◌≡◌, ◌<◌, ◌+◌, ℕ, zero, suc, Bool, true, false, cond, List, [], ◌∷◌, ◌++◌, length, Option, Some, None, refl, ap, sym, ◌∙◌, arith, true≢false}
use Rattle.std.specs.Prelude.{option_map, nat_lt, nat_le, ◌==◌, not}
use Rattle.std.specs.List.{AllByRecursion, insert, remove, filter, find}
use Rattle.std.proofs.lemmas.Bool.Decides.{nat_tests}
use Rattle.tks_share.specs.Lists.{Rises, IsParted}
use Rattle.tks_timer.specs.declared.entry.Timer.{Timer}
use Rattle.tks_timer.specs.After.{Content, is_sooner, soonest, first_due, due_at}
use Rattle.tks_timer.specs.Order.{AreInTurn, place, put, in_turn, due_front}
use Rattle.tks_timer.proofs.Least.{along_not}

-- ---- of two turns and three

asymmetric : (a b : ℕ × ℕ) → is_sooner a b ≡ true → is_sooner b a ≡ false
asymmetric a b h = grind (arith, nat_tests)

itself : (a : ℕ × ℕ) → is_sooner a a ≡ false
itself a = grind (arith, nat_tests)

same_turn : (a b : ℕ × ℕ) → is_sooner a b ≡ false → is_sooner b a ≡ false → a ≡ b
same_turn a b h k = λ i. (first i, second i)
  where
    first : a.0 ≡ b.0
    first = grind (arith, nat_tests)

    second : a.1 ≡ b.1
    second = grind (arith, nat_tests)

-- ---- where a turn stands

some_is : {X : Type 0} (a b : X) → Some a ≡ Some b → a ≡ b
some_is a b p = cc

module _ (turn : ℕ × ℕ) where
  -- it comes in there
  pub put_there : (ts : List (ℕ × ℕ)) → insert ts (place turn ts) turn ≡ put turn ts
  put_there [] = refl
  put_there (t ∷ ts) = by (is_sooner t turn) (put_there ts)
    where
      by : (b : Bool) → insert ts (place turn ts) turn ≡ put turn ts → insert (t ∷ ts) (cond b (suc (place turn ts)) 0) turn ≡ cond b (t ∷ put turn ts) (turn ∷ t ∷ ts)
      by true rest = ap (λ l. t ∷ l) rest
      by false rest = refl

  -- and goes out there
  pub taken_there : (ts : List (ℕ × ℕ)) → remove (put turn ts) (place turn (put turn ts)) ≡ ts
  taken_there [] = rw (itself turn) refl
  taken_there (t ∷ ts) = by (is_sooner t turn) refl (taken_there ts)
    where
      by : (b : Bool) → is_sooner t turn ≡ b → remove (put turn ts) (place turn (put turn ts)) ≡ ts
          → remove (cond b (t ∷ put turn ts) (turn ∷ t ∷ ts)) (place turn (cond b (t ∷ put turn ts) (turn ∷ t ∷ ts))) ≡ t ∷ ts
      by true e rest = rw e (ap (λ l. t ∷ l) rest)
      by false e rest = rw (itself turn) refl

  pub stands_there : (ts : List (ℕ × ℕ)) → place turn (put turn ts) < length (put turn ts)
  stands_there [] = rw (itself turn) (omega arith)
  stands_there (t ∷ ts) = by (is_sooner t turn) refl (stands_there ts)
    where
      by : (b : Bool) → is_sooner t turn ≡ b → place turn (put turn ts) < length (put turn ts)
          → place turn (cond b (t ∷ put turn ts) (turn ∷ t ∷ ts)) < length (cond b (t ∷ put turn ts) (turn ∷ t ∷ ts))
      by true e lt = rw e (omega (arith, lt))
      by false e lt = rw (itself turn) (omega arith)

-- ---- they stay in order

all_put : (P : ℕ × ℕ → Type 0) (turn : ℕ × ℕ) (ts : List (ℕ × ℕ)) → P turn → AllByRecursion P ts → AllByRecursion P (put turn ts)
all_put P turn [] p h = (p, tt)
all_put P turn (t ∷ ts) p h = by (is_sooner t turn) (all_put P turn ts p h.1)
  where
    by : (b : Bool) → AllByRecursion P (put turn ts) → AllByRecursion P (cond b (t ∷ put turn ts) (turn ∷ t ∷ ts))
    by true rest = (h.0, rest)
    by false rest = (p, h)

all_removed : (P : ℕ × ℕ → Type 0) (ts : List (ℕ × ℕ)) (i : ℕ) → AllByRecursion P ts → AllByRecursion P (remove ts i)
all_removed P [] zero h = tt
all_removed P [] (suc i) h = tt
all_removed P (t ∷ ts) zero h = h.1
all_removed P (t ∷ ts) (suc i) h = (h.0, all_removed P ts i h.1)

all_later : (turn t : ℕ × ℕ) (ts : List (ℕ × ℕ)) → is_sooner t turn ≡ false → AllByRecursion (λ later. is_sooner later t ≡ false) ts → AllByRecursion (λ later. is_sooner later turn ≡ false) ts
all_later turn t [] so h = tt
all_later turn t (u ∷ ts) so h = (along_not turn t u so h.0, all_later turn t ts so h.1)

-- what is sooner than a turn lies in front
pub parted : (turn : ℕ × ℕ) (ts : List (ℕ × ℕ)) → AreInTurn ts → IsParted (λ t. is_sooner t turn) ts
parted turn [] h = tt
parted turn (t ∷ ts) h = (λ late. all_later turn t ts late h.0, parted turn ts h.1)

pub put_in_turn : (turn : ℕ × ℕ) (ts : List (ℕ × ℕ)) → AreInTurn ts → AreInTurn (put turn ts)
put_in_turn turn [] h = (tt, tt)
put_in_turn turn (t ∷ ts) h = by (is_sooner t turn) refl (put_in_turn turn ts h.1)
  where
    by : (b : Bool) → is_sooner t turn ≡ b → AreInTurn (put turn ts) → AreInTurn (cond b (t ∷ put turn ts) (turn ∷ t ∷ ts))
    by true e rest = (all_put (λ later. is_sooner later t ≡ false) turn ts (asymmetric t turn e) h.0, rest)
    by false e rest = ((e, all_later turn t ts e h.0), h)

pub removed_in_turn : (ts : List (ℕ × ℕ)) (i : ℕ) → AreInTurn ts → AreInTurn (remove ts i)
removed_in_turn [] zero h = tt
removed_in_turn [] (suc i) h = tt
removed_in_turn (t ∷ ts) zero h = h.1
removed_in_turn (t ∷ ts) (suc i) h = (all_removed (λ later. is_sooner later t ≡ false) ts i h.0, removed_in_turn ts i h.1)

-- ---- of two that come in, either may be the first

put_twice : (a b : ℕ × ℕ) (ts : List (ℕ × ℕ)) → put a (put b ts) ≡ put b (put a ts)
put_twice a b [] = by (is_sooner b a) (is_sooner a b) refl refl
  where
    by : (ba ab : Bool) → is_sooner b a ≡ ba → is_sooner a b ≡ ab → cond ba (b ∷ a ∷ []) (a ∷ b ∷ []) ≡ cond ab (a ∷ b ∷ []) (b ∷ a ∷ [])
    by true true h k = absurd (true≢false (sym k ∙ asymmetric b a h))
    by true false h k = refl
    by false true h k = refl
    by false false h k = rw (same_turn a b k h) refl
put_twice a b (t ∷ ts) = by (is_sooner t a) (is_sooner t b) refl refl (put_twice a b ts)
  where
    firsts : (ba ab : Bool) → is_sooner b a ≡ ba → is_sooner a b ≡ ab → is_sooner t a ≡ false → is_sooner t b ≡ false
        → cond ba (b ∷ put a (t ∷ ts)) (a ∷ b ∷ t ∷ ts) ≡ cond ab (a ∷ put b (t ∷ ts)) (b ∷ a ∷ t ∷ ts)
    firsts true true h k ta tb = absurd (true≢false (sym k ∙ asymmetric b a h))
    firsts true false h k ta tb = rw ta refl
    firsts false true h k ta tb = rw tb refl
    firsts false false h k ta tb = rw (same_turn a b k h) refl

    by : (ta tb : Bool) → is_sooner t a ≡ ta → is_sooner t b ≡ tb → put a (put b ts) ≡ put b (put a ts)
        → put a (cond tb (t ∷ put b ts) (b ∷ t ∷ ts)) ≡ put b (cond ta (t ∷ put a ts) (a ∷ t ∷ ts))
    by true true ta tb rest = rw (ta, tb) (ap (λ l. t ∷ l) rest)
    by true false ta tb rest =
        front_a (is_sooner b a) refl
      where
        front_a : (ba : Bool) → is_sooner b a ≡ ba → cond ba (b ∷ put a (t ∷ ts)) (a ∷ b ∷ t ∷ ts) ≡ put b (t ∷ put a ts)
        front_a true h = rw (ta, tb) refl
        front_a false h = absurd (true≢false (sym ta ∙ along_not a b t h tb))
    by false true ta tb rest = front_b (is_sooner a b) refl
      where
        front_b : (ab : Bool) → is_sooner a b ≡ ab → put a (t ∷ put b ts) ≡ cond ab (a ∷ put b (t ∷ ts)) (b ∷ a ∷ t ∷ ts)
        front_b true h = rw (ta, tb) refl
        front_b false h = absurd (true≢false (sym tb ∙ along_not b a t h ta))
    by false false ta tb rest = firsts (is_sooner b a) (is_sooner a b) refl refl ta tb

-- ---- of timers

-- those of timers come in among others
abbrev pub along_timers : List (ℕ × ℕ) → List Timer → List (ℕ × ℕ)
along_timers turns [] = turns
along_timers turns (t ∷ ts) = along_timers (put (t.due, t.id) turns) ts

put_along : (turn : ℕ × ℕ) (turns : List (ℕ × ℕ)) (ts : List Timer) → along_timers (put turn turns) ts ≡ put turn (along_timers turns ts)
put_along turn turns [] = refl
put_along turn turns (t ∷ ts) = ap (λ l. along_timers l ts) (put_twice (t.due, t.id) turn turns) ∙ put_along turn (put (t.due, t.id) turns) ts

pub along_all : (ts : List Timer) → along_timers [] ts ≡ in_turn ts
along_all [] = refl
along_all (t ∷ ts) = put_along (t.due, t.id) [] ts ∙ ap (put (t.due, t.id)) (along_all ts)

pub pushed : (ts : List Timer) (t : Timer) → in_turn (ts ++ t ∷ []) ≡ put (t.due, t.id) (in_turn ts)
pushed [] t = refl
pushed (u ∷ ts) t = ap (put (u.due, u.id)) (pushed ts t) ∙ put_twice (u.due, u.id) (t.due, t.id) (in_turn ts)

module _ (id : ℕ) where
  none_goes : (low : ℕ) (ts : List Timer) → Rises (λ (t : Timer). t.id) low ts → id < low → filter (λ t. not (t.id == id)) ts ≡ ts
  none_goes low [] rises lt = refl
  none_goes low (t ∷ ts) rises lt =
      let other : not (t.id == id) ≡ true = let at = rises.0 in grind (arith, nat_tests) in
      rw other (ap (λ l. t ∷ l) (none_goes (t.id + 1) ts rises.1 (omega (arith, rises.0, lt))))

  pub found_goes : (low : ℕ) (ts : List Timer) (t : Timer) → Rises (λ (t : Timer). t.id) low ts → find (λ t. t.id == id) ts ≡ Some t
      → in_turn ts ≡ put (t.due, t.id) (in_turn (filter (λ t. not (t.id == id)) ts))
  found_goes low [] t rises is = cc
  found_goes low (u ∷ ts) t rises is = by (u.id == id) refl is (found_goes (u.id + 1) ts t rises.1)
    where
      by : (b : Bool) → (u.id == id) ≡ b → cond b (Some u) (find (λ t. t.id == id) ts) ≡ Some t
          → (find (λ t. t.id == id) ts ≡ Some t → in_turn ts ≡ put (t.due, t.id) (in_turn (filter (λ t. not (t.id == id)) ts)))
          → put (u.due, u.id) (in_turn ts) ≡ put (t.due, t.id) (in_turn (filter (λ t. not (t.id == id)) (u ∷ ts)))
      by true e found rest =
          let lt : id < u.id + 1 = grind (arith, nat_tests) in
          rw (e, none_goes (u.id + 1) ts rises.1 lt) (ap (λ v. put (v.due, v.id) (in_turn ts)) (some_is u t found))
      by false e found rest =
          rw e (ap (put (u.due, u.id)) (rest found)
          ∙ put_twice (u.due, u.id) (t.due, t.id) (in_turn (filter (λ t. not (t.id == id)) ts)))

  pub not_found_stays : (ts : List Timer) → find (λ t. t.id == id) ts ≡ None → filter (λ t. not (t.id == id)) ts ≡ ts
  not_found_stays [] is = refl
  not_found_stays (t ∷ ts) is = by (t.id == id) refl is (not_found_stays ts)
    where
      by : (b : Bool) → (t.id == id) ≡ b → cond b (Some t) (find (λ t. t.id == id) ts) ≡ None
          → (find (λ t. t.id == id) ts ≡ None → filter (λ t. not (t.id == id)) ts ≡ ts) → filter (λ t. not (t.id == id)) (t ∷ ts) ≡ t ∷ ts
      by true e found rest = cc
      by false e found rest = rw e (ap (λ l. t ∷ l) (rest found))

-- ---- the first that is due

abbrev front : List (ℕ × ℕ) → Option (ℕ × ℕ)
front [] = None
front (t ∷ ts) = Some t

-- it, if it is due
abbrev due_only : ℕ → Option (ℕ × ℕ) → Option (ℕ × ℕ)
due_only now None = None
due_only now (Some t) = cond (nat_le t.0 now) (Some t) None

front_put : (turn : ℕ × ℕ) (ts : List (ℕ × ℕ)) → front (put turn ts) ≡ soonest (Some turn) (front ts)
front_put turn [] = refl
front_put turn (t ∷ ts) = by (is_sooner t turn)
  where
    by : (b : Bool) → front (cond b (t ∷ put turn ts) (turn ∷ t ∷ ts)) ≡ Some (cond b t turn)
    by true = refl
    by false = refl

due_soonest : (now : ℕ) (t : ℕ × ℕ) (o : Option (ℕ × ℕ)) → cond (nat_lt now t.0) (due_only now o) (soonest (Some t) (due_only now o)) ≡ due_only now (soonest (Some t) o)
due_soonest now t None = grind (arith, nat_tests)
due_soonest now t (Some u) = grind (arith, nat_tests)

first_is : (now : ℕ) (ts : List Timer) → first_due now ts ≡ due_only now (front (in_turn ts))
first_is now [] = refl
first_is now (t ∷ ts) =
    ap (λ o. cond (nat_lt now t.due) o (soonest (Some (t.due, t.id)) o)) (first_is now ts)
    ∙ due_soonest now (t.due, t.id) (front (in_turn ts))
    ∙ ap (due_only now) (sym (front_put (t.due, t.id) (in_turn ts)))

due_of_front : (now : ℕ) (ts : List (ℕ × ℕ)) → due_front now ts ≡ option_map (λ k. k.1) (due_only now (front ts))
due_of_front now [] = refl
due_of_front now (t ∷ ts) = by (nat_le t.0 now)
  where
    by : (b : Bool) → cond b (Some t.1) None ≡ option_map (λ k. k.1) (cond b (Some t) None)
    by true = refl
    by false = refl

pub due_is : (now : ℕ) (c : Content) (turns : List (ℕ × ℕ)) → turns ≡ in_turn c.timers → due_front now turns ≡ due_at now c
due_is now c turns is = due_of_front now turns ∙ ap (λ ts. option_map (λ k. k.1) (due_only now (front ts))) is ∙ ap (option_map (λ k. k.1)) (sym (first_is now c.timers))
