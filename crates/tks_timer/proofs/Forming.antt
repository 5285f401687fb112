-- Ids rise and differ, whatever is done to what waits.
use Rattle.std.specs.Prelude.{◌&&◌, ◌==◌, not, nat_lt, nat_le}
use Rattle.std.specs.List.{filter, list_all}
use Rattle.std.proofs.Common.{◌≡◌, ℕ, ◌+◌, ◌<◌, ◌≤◌, ◌^◌, Bool, true, false, List, [], ◌∷◌, ◌++◌, refl, ◌∙◌, arith}
use Rattle.std.proofs.lemmas.Bool.{and_from, and_parts}
use Rattle.std.proofs.lemmas.Bool.Decides.{nat_tests}
use Rattle.std.proofs.lemmas.List.Folds.{list_all-append}
use Rattle.tks_share.specs.Lists.{Rises}
use Rattle.tks_timer.specs.declared.entry.Timer.{Timer}
use Rattle.tks_timer.specs.declared.entry.Idle.{Idle}
use Rattle.tks_timer.specs.After.{Content, no_later, with_timer, with_idle, without, last_time}
use Rattle.tks_timer.specs.WellFormed.{rise_below, is_apart, are_apart, are_due, are_waiting, AreWaiting}

-- ---- tests of all members

all_filtered : {X : Type 0} (test keep : X → Bool) (xs : List X) → list_all test xs ≡ true → list_all test (filter keep xs) ≡ true
all_filtered test keep [] h = refl
all_filtered test keep (x ∷ xs) h = by (keep x) refl (and_parts (test x) (list_all test xs) h) (all_filtered test keep xs)
  where
    by : (b : Bool) → keep x ≡ b → (test x ≡ true) × (list_all test xs ≡ true) → (list_all test xs ≡ true → list_all test (filter keep xs) ≡ true)
        → list_all test (filter keep (x ∷ xs)) ≡ true
    by true e h rest = rw e (and_from (test x) (list_all test (filter keep xs)) h.0 (rest h.1))
    by false e h rest = rw e (rest h.1)

all_pushed : {X : Type 0} (test : X → Bool) (xs : List X) (x : X) → list_all test xs ≡ true → test x ≡ true → list_all test (xs ++ x ∷ []) ≡ true
all_pushed test xs x h k = list_all-append test xs (x ∷ []) ∙ and_from (list_all test xs) (test x && true) h (and_from (test x) true k refl)

-- a test that holds where another does
all_so : {X : Type 0} (test other : X → Bool) → ((x : X) → test x ≡ true → other x ≡ true) → (xs : List X) → list_all test xs ≡ true → list_all other xs ≡ true
all_so test other so [] h = refl
all_so test other so (x ∷ xs) h =
    let parts = and_parts (test x) (list_all test xs) h in
    and_from (other x) (list_all other xs) (so x parts.0) (all_so test other so xs parts.1)

-- ---- numbers that rise

module _ {X : Type 0} (number_of : X → ℕ) where
  head : (least next : ℕ) (x : X) (xs : List X) → rise_below number_of least next (x ∷ xs) ≡ true
      → ((nat_le least (number_of x) ≡ true) × (nat_lt (number_of x) next ≡ true)) × (rise_below number_of (number_of x + 1) next xs ≡ true)
  head least next x xs h =
      let parts = and_parts (nat_le least (number_of x) && nat_lt (number_of x) next) (rise_below number_of (number_of x + 1) next xs) h in
      (and_parts (nat_le least (number_of x)) (nat_lt (number_of x) next) parts.0, parts.1)

  tail : (least next : ℕ) (x : X) (xs : List X) → nat_le least (number_of x) ≡ true → nat_lt (number_of x) next ≡ true → rise_below number_of (number_of x + 1) next xs ≡ true
      → rise_below number_of least next (x ∷ xs) ≡ true
  tail least next x xs low high rest =
      and_from (nat_le least (number_of x) && nat_lt (number_of x) next) (rise_below number_of (number_of x + 1) next xs)
      (and_from (nat_le least (number_of x)) (nat_lt (number_of x) next) low high) rest

  -- so they rise in the words of lists by number
  rises : (least next : ℕ) (xs : List X) → rise_below number_of least next xs ≡ true → Rises number_of least xs
  rises least next [] h = tt
  rises least next (x ∷ xs) h =
      let all = head least next x xs h in
      let low : least ≤ number_of x = let at = all.0.0 in grind (arith, nat_tests) in
      (low, rises (number_of x + 1) next xs all.1)

  -- from a lesser one on
  rise_from : (lesser least next : ℕ) (xs : List X) → lesser ≤ least → rise_below number_of least next xs ≡ true → rise_below number_of lesser next xs ≡ true
  rise_from lesser least next [] le h = refl
  rise_from lesser least next (x ∷ xs) le h =
      let all = head least next x xs h in
      let low : nat_le lesser (number_of x) ≡ true = let at = all.0.0 in grind (arith, nat_tests) in
      tail lesser next x xs low all.0.1 all.1

  -- below a greater one
  rise_further : (least next : ℕ) (xs : List X) → rise_below number_of least next xs ≡ true → rise_below number_of least (next + 1) xs ≡ true
  rise_further least next [] h = refl
  rise_further least next (x ∷ xs) h =
      let all = head least next x xs h in
      let high : nat_lt (number_of x) (next + 1) ≡ true = let at = all.0.1 in grind (arith, nat_tests) in
      tail least (next + 1) x xs all.0.0 high (rise_further (number_of x + 1) next xs all.1)

  -- the next one comes
  rise_pushed : (least next : ℕ) (xs : List X) (x : X) → number_of x ≡ next → least ≤ next → rise_below number_of least next xs ≡ true
      → rise_below number_of least (next + 1) (xs ++ x ∷ []) ≡ true
  rise_pushed least next [] x e le h =
      let low : nat_le least (number_of x) ≡ true = grind (arith, nat_tests) in
      let high : nat_lt (number_of x) (next + 1) ≡ true = grind (arith, nat_tests) in
      tail least (next + 1) x [] low high refl
  rise_pushed least next (y ∷ ys) x e le h =
      let all = head least next y ys h in
      let high : nat_lt (number_of y) (next + 1) ≡ true = let at = all.0.1 in grind (arith, nat_tests) in
      let behind : number_of y + 1 ≤ next = let at = all.0.1 in grind (arith, nat_tests) in
      tail least (next + 1) y (ys ++ x ∷ []) all.0.0 high (rise_pushed (number_of y + 1) next ys x e behind all.1)

  -- some go
  rise_filtered : (keep : X → Bool) (least next : ℕ) (xs : List X) → rise_below number_of least next xs ≡ true → rise_below number_of least next (filter keep xs) ≡ true
  rise_filtered keep least next [] h = refl
  rise_filtered keep least next (x ∷ xs) h = by (keep x) refl (head least next x xs h) (rise_filtered keep (number_of x + 1) next xs)
    where
      by : (b : Bool) → keep x ≡ b → ((nat_le least (number_of x) ≡ true) × (nat_lt (number_of x) next ≡ true)) × (rise_below number_of (number_of x + 1) next xs ≡ true)
          → (rise_below number_of (number_of x + 1) next xs ≡ true → rise_below number_of (number_of x + 1) next (filter keep xs) ≡ true)
          → rise_below number_of least next (filter keep (x ∷ xs)) ≡ true
      by true e all rest = rw e (tail least next x (filter keep xs) all.0.0 all.0.1 (rest all.1))
      by false e all rest =
          let le : least ≤ number_of x + 1 = let at = all.0.0 in grind (arith, nat_tests) in
          rw e (rise_from least (number_of x + 1) next (filter keep xs) le (rest all.1))

  -- each is below the next one, so none is it
  none_is_next : (least next : ℕ) (xs : List X) → rise_below number_of least next xs ≡ true → list_all (λ x. not (number_of x == next)) xs ≡ true
  none_is_next least next [] h = refl
  none_is_next least next (x ∷ xs) h =
      let all = head least next x xs h in
      let other : not (number_of x == next) ≡ true = let at = all.0.1 in grind (arith, nat_tests) in
      and_from (not (number_of x == next)) (list_all (λ x. not (number_of x == next)) xs) other (none_is_next (number_of x + 1) next xs all.1)

-- ---- timers apart from idle scripts

-- the next id is apart from those of timers
next_apart : (next : ℕ) (i : Idle) (idles : List Idle) (timers : List Timer) → i.id ≡ next → list_all (λ t. not (t.id == next)) timers ≡ true → are_apart idles timers ≡ true
    → are_apart (idles ++ i ∷ []) timers ≡ true
next_apart next i idles [] e h k = refl
next_apart next i idles (t ∷ ts) e h k =
    let other = and_parts (not (t.id == next)) (list_all (λ t. not (t.id == next)) ts) h in
    let apart = and_parts (is_apart t.id idles) (are_apart idles ts) k in
    let turned : not (i.id == t.id) ≡ true = let at = other.0 in grind (arith, nat_tests) in
    and_from (is_apart t.id (idles ++ i ∷ [])) (are_apart (idles ++ i ∷ []) ts) (all_pushed (λ j. not (j.id == t.id)) idles i apart.0 turned)
    (next_apart next i idles ts e other.1 apart.1)

fewer_idles_apart : (keep : Idle → Bool) (idles : List Idle) (timers : List Timer) → are_apart idles timers ≡ true → are_apart (filter keep idles) timers ≡ true
fewer_idles_apart keep idles timers h =
    all_so (λ t. is_apart t.id idles) (λ t. is_apart t.id (filter keep idles)) (λ t k. all_filtered (λ i. not (i.id == t.id)) keep idles k) timers h

-- ---- what is done

-- the four tests of what waits
parts_of : (c : Content) → are_waiting c ≡ true
    → ((rise_below (λ t. t.id) 0 c.next c.timers ≡ true) × (rise_below (λ i. i.id) 0 c.next c.idles ≡ true)) × ((are_apart c.idles c.timers ≡ true) × (are_due c.timers ≡ true))
parts_of c h =
    let a = and_parts (rise_below (λ t. t.id) 0 c.next c.timers) (rise_below (λ i. i.id) 0 c.next c.idles && (are_apart c.idles c.timers && are_due c.timers)) h in
    let b = and_parts (rise_below (λ i. i.id) 0 c.next c.idles) (are_apart c.idles c.timers && are_due c.timers) a.1 in
    ((a.0, b.0), and_parts (are_apart c.idles c.timers) (are_due c.timers) b.1)

whole : (c : Content) → rise_below (λ t. t.id) 0 c.next c.timers ≡ true → rise_below (λ i. i.id) 0 c.next c.idles ≡ true → are_apart c.idles c.timers ≡ true → are_due c.timers ≡ true
    → are_waiting c ≡ true
whole c timers idles apart due =
    and_from (rise_below (λ t. t.id) 0 c.next c.timers) (rise_below (λ i. i.id) 0 c.next c.idles && (are_apart c.idles c.timers && are_due c.timers)) timers
    (and_from (rise_below (λ i. i.id) 0 c.next c.idles) (are_apart c.idles c.timers && are_due c.timers) idles (and_from (are_apart c.idles c.timers) (are_due c.timers) apart due))

pub timers_rise : (c : Content) → AreWaiting c → Rises (λ (t : Timer). t.id) 0 c.timers
timers_rise c h = rises (λ t. t.id) 0 c.next c.timers (parts_of c h.waiting).0.0

pub idles_rise : (c : Content) → AreWaiting c → Rises (λ (i : Idle). i.id) 0 c.idles
idles_rise c h = rises (λ i. i.id) 0 c.next c.idles (parts_of c h.waiting).0.1

due_in_time : (due : ℕ) → nat_le (no_later due) last_time ≡ true
due_in_time due = grind (arith, nat_tests)

pub timer_kept : (due : ℕ) (script : List ℕ) (c : Content) → c.next < 2 ^ 62 → AreWaiting c → AreWaiting (with_timer due script c)
timer_kept due script c lt h =
    let parts = parts_of c h.waiting in
    let t : Timer = record { id = c.next; due = no_later due; script = script } in
    record {
      next = omega (arith, lt);
      waiting =
          whole (with_timer due script c) (rise_pushed (λ t. t.id) 0 c.next c.timers t refl (omega arith) parts.0.0) (rise_further (λ i. i.id) 0 c.next c.idles parts.0.1)
          (all_pushed (λ t. is_apart t.id c.idles) c.timers t parts.1.0 (none_is_next (λ i. i.id) 0 c.next c.idles parts.0.1))
          (all_pushed (λ t. nat_le t.due last_time) c.timers t parts.1.1 (due_in_time due));
    }

pub idle_kept : (script : List ℕ) (c : Content) → c.next < 2 ^ 62 → AreWaiting c → AreWaiting (with_idle script c)
idle_kept script c lt h =
    let parts = parts_of c h.waiting in
    let i : Idle = record { id = c.next; script = script } in
    record {
      next = omega (arith, lt);
      waiting =
          whole (with_idle script c) (rise_further (λ t. t.id) 0 c.next c.timers parts.0.0) (rise_pushed (λ i. i.id) 0 c.next c.idles i refl (omega arith) parts.0.1)
          (next_apart c.next i c.idles c.timers refl (none_is_next (λ t. t.id) 0 c.next c.timers parts.0.0) parts.1.0) parts.1.1;
    }

pub fewer_kept : (id : ℕ) (c : Content) → AreWaiting c → AreWaiting (without id c)
fewer_kept id c h =
    let parts = parts_of c h.waiting in
    let timers = λ (t : Timer). not (t.id == id) in
    let idles = λ (i : Idle). not (i.id == id) in
    record {
      next = h.next;
      waiting =
          whole (without id c) (rise_filtered (λ t. t.id) timers 0 c.next c.timers parts.0.0) (rise_filtered (λ i. i.id) idles 0 c.next c.idles parts.0.1)
          (all_filtered (λ t. is_apart t.id (filter idles c.idles)) timers c.timers (fewer_idles_apart idles c.idles c.timers parts.1.0))
          (all_filtered (λ t. nat_le t.due last_time) timers c.timers parts.1.1);
    }
