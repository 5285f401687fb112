-- The timer that is run is the first that is due, and the script that is cancelled has the least id.
use Rattle.std.proofs.Common.{◌≡◌, ◌<◌, ◌≤◌, inl, inr, ℕ, Bool, true, false, cond, List, [], ◌∷◌, Option, Some, None, refl, ap, subst, sym, ◌∙◌, arith, true≢false}
use Rattle.std.specs.Prelude.{nat_lt, option_map}
use Rattle.std.specs.List.{AllByRecursion}
use Rattle.std.specs.Cmp.Lexicographic.{bytes_decides}
use Rattle.std.proofs.lemmas.Bool.{ltb-true, ltb-false}
use Rattle.std.proofs.lemmas.Bool.Decides.{nat_tests}
use Rattle.tks_text.specs.Text.{same_text}
use Rattle.tks_timer.specs.declared.entry.Timer.{Timer}
use Rattle.tks_timer.specs.declared.entry.Idle.{Idle}
use Rattle.tks_timer.specs.After.{Content, is_sooner, soonest, first_due, due_at, lesser, timer_with, idle_with, with_script}
use Rattle.tks_timer.specs.Firsts.{IsAmong, NoSooner, RunsNext, HasScript, NoLesser, NoneHas, IsLeast, CancelsLeast}

all_then : {X : Type 0} {P Q : X → Type 0} → ((x : X) → P x → Q x) → (xs : List X) → AllByRecursion P xs → AllByRecursion Q xs
all_then f [] h = tt
all_then f (x ∷ xs) h = (f x h.0, all_then f xs h.1)

one_more : {X : Type 0} {xs : List X} {x : X} (y : X) → IsAmong xs x → IsAmong (y ∷ xs) x
one_more y a = record { before = y ∷ a.before; behind = a.behind; there = ap (λ l. y ∷ l) a.there }

here : {X : Type 0} (x : X) (xs : List X) → IsAmong (x ∷ xs) x
here x xs = record { before = []; behind = xs; there = refl }

-- ---- timers that are due

-- the same, told by its due time and id
record Found (now : ℕ) (timers : List Timer) (k : ℕ × ℕ) : Type 0 where
  pub timer : Timer
  pub due_so : timer.due ≡ k.0
  pub id_so : timer.id ≡ k.1
  pub there : IsAmong timers timer
  pub due : timer.due ≤ now
  pub first : AllByRecursion (λ t. t.due ≤ now → NoSooner t timer) timers

abbrev Finds : ℕ → List Timer → Option (ℕ × ℕ) → Type 0
Finds now timers None = AllByRecursion (λ t. now < t.due) timers
Finds now timers (Some k) = Found now timers k

sooner_first : (t u : Timer) → is_sooner (u.due, u.id) (t.due, t.id) ≡ true → NoSooner t u
sooner_first t u h = grind (arith, nat_tests)

no_sooner_along : (s u t : Timer) → NoSooner s u → is_sooner (u.due, u.id) (t.due, t.id) ≡ false → NoSooner s t
no_sooner_along s u t h k = grind (arith, nat_tests)

module _ (now : ℕ) (t : Timer) (timers : List Timer) where
  passed_over : (o : Option (ℕ × ℕ)) → now < t.due → Finds now timers o → Finds now (t ∷ timers) o
  passed_over None late rest = (late, rest)
  passed_over (Some k) late rest = record {
    timer = rest.timer;
    due_so = rest.due_so;
    id_so = rest.id_so;
    there = one_more t rest.there;
    due = rest.due;
    first = ((λ due. absurd (omega (arith, due, late))), rest.first);
  }

  alone : t.due ≤ now → AllByRecursion (λ u. now < u.due) timers → Found now (t ∷ timers) (t.due, t.id)
  alone due late = record {
    timer = t;
    due_so = refl;
    id_so = refl;
    there = here t timers;
    due = due;
    first = ((λ _. inr (refl, omega arith)), all_then (λ u later now_due. absurd (omega (arith, later, now_due))) timers late);
  }

  joined : (k : ℕ × ℕ) → t.due ≤ now → Found now timers k → (b : Bool) → is_sooner k (t.due, t.id) ≡ b → Found now (t ∷ timers) (cond b k (t.due, t.id))
  joined k due rest true e =
      let u = rest.timer in
      let sooner : is_sooner (u.due, u.id) (t.due, t.id) ≡ true = (λ i. is_sooner (rest.due_so i, rest.id_so i) (t.due, t.id)) ∙ e in
      record {
        timer = u;
        due_so = rest.due_so;
        id_so = rest.id_so;
        there = one_more t rest.there;
        due = rest.due;
        first = ((λ _. sooner_first t u sooner), rest.first);
      }
  joined k due rest false e =
      let u = rest.timer in
      let not_sooner : is_sooner (u.due, u.id) (t.due, t.id) ≡ false = (λ i. is_sooner (rest.due_so i, rest.id_so i) (t.due, t.id)) ∙ e in
      record {
        timer = t;
        due_so = refl;
        id_so = refl;
        there = here t timers;
        due = due;
        first = ((λ _. inr (refl, omega arith)), all_then (λ s so now_due. no_sooner_along s u t (so now_due) not_sooner) timers rest.first);
      }

  taken : (o : Option (ℕ × ℕ)) → t.due ≤ now → Finds now timers o → Finds now (t ∷ timers) (soonest (Some (t.due, t.id)) o)
  taken None due rest = alone due rest
  taken (Some k) due rest = joined k due rest (is_sooner k (t.due, t.id)) refl

finds : (now : ℕ) (timers : List Timer) → Finds now timers (first_due now timers)
finds now [] = tt
finds now (t ∷ timers) = by (nat_lt now t.due) refl (finds now timers)
  where
    by : (b : Bool) → nat_lt now t.due ≡ b → Finds now timers (first_due now timers)
        → Finds now (t ∷ timers) (cond b (first_due now timers) (soonest (Some (t.due, t.id)) (first_due now timers)))
    by true e rest = passed_over now t timers (first_due now timers) (ltb-true now t.due e) rest
    by false e rest = taken now t timers (first_due now timers) (ltb-false now t.due e) rest

pub runs_next : (now : ℕ) (c : Content) → RunsNext now c.timers (due_at now c)
runs_next now c = by (first_due now c.timers) (finds now c.timers)
  where
    by : (o : Option (ℕ × ℕ)) → Finds now c.timers o → RunsNext now c.timers (option_map (λ k. k.1) o)
    by None h = h
    by (Some k) h = record { timer = h.timer; named = h.id_so; there = h.there; due = h.due; first = h.first }

-- ---- scripts that are cancelled

module _ {X : Type 0} (id_of : X → ℕ) (script_of : X → List ℕ) (script : List ℕ) where
  -- the least id of those that have the script
  abbrev least : List X → Option ℕ
  least [] = None
  least (x ∷ xs) = cond (same_text (script_of x) script) (lesser (Some (id_of x)) (least xs)) (least xs)

  abbrev LeastSo : List X → Option ℕ → Type 0
  LeastSo xs None = NoneHas id_of script_of script xs
  LeastSo xs (Some id) = HasScript id_of script_of script xs id × NoLesser id_of script_of script id xs

  has_not : (x : X) (xs : List X) (o : Option ℕ) → ¬ (script_of x ≡ script) → LeastSo xs o → LeastSo (x ∷ xs) o
  has_not x xs None other rest = (other, rest)
  has_not x xs (Some id) other rest =
      (record { one = rest.0.one; named = rest.0.named; there = one_more x rest.0.there; has = rest.0.has }, ((λ e. absurd (other e)), rest.1))

  has : (x : X) (xs : List X) (o : Option ℕ) → script_of x ≡ script → LeastSo xs o → LeastSo (x ∷ xs) (lesser (Some (id_of x)) o)
  has x xs None same rest = (record { one = x; named = refl; there = here x xs; has = same }, ((λ _. omega arith), all_then (λ y other e. absurd (other e)) xs rest))
  has x xs (Some id) same rest = by (nat_lt id (id_of x)) refl
    where
      by : (b : Bool) → nat_lt id (id_of x) ≡ b → LeastSo (x ∷ xs) (Some (cond b id (id_of x)))
      by true e =
          (record { one = rest.0.one; named = rest.0.named; there = one_more x rest.0.there; has = rest.0.has }, ((λ _. omega (arith, ltb-true id (id_of x) e)), rest.1))
      by false e =
          let least = ltb-false id (id_of x) e in
          (record { one = x; named = refl; there = here x xs; has = same }, ((λ _. omega arith), all_then (λ y so f. omega (arith, least, so f)) xs rest.1))

  least_so : (xs : List X) → LeastSo xs (least xs)
  least_so [] = tt
  least_so (x ∷ xs) = by (same_text (script_of x) script) refl (least_so xs)
    where
      by : (b : Bool) → same_text (script_of x) script ≡ b → LeastSo xs (least xs) → LeastSo (x ∷ xs) (cond b (lesser (Some (id_of x)) (least xs)) (least xs))
      by true e rest = has x xs (least xs) ((bytes_decides (script_of x) script).0 e) rest
      by false e rest = has_not x xs (least xs) (λ same. true≢false (sym ((bytes_decides (script_of x) script).1 same) ∙ e)) rest

timers_least : (script : List ℕ) (ts : List Timer) → timer_with script ts ≡ least (λ t. t.id) (λ t. t.script) script ts
timers_least script [] = refl
timers_least script (t ∷ ts) = ap (λ o. cond (same_text t.script script) (lesser (Some t.id) o) o) (timers_least script ts)

idles_least : (script : List ℕ) (is : List Idle) → idle_with script is ≡ least (λ i. i.id) (λ i. i.script) script is
idles_least script [] = refl
idles_least script (i ∷ is) = ap (λ o. cond (same_text i.script script) (lesser (Some i.id) o) o) (idles_least script is)

pub cancels_least : (script : List ℕ) (c : Content) → CancelsLeast script c (with_script script c)
cancels_least script c =
    both (timer_with script c.timers) (idle_with script c.idles)
    (subst (LeastSo (λ t. t.id) (λ t. t.script) script c.timers) (sym (timers_least script c.timers)) (least_so (λ t. t.id) (λ t. t.script) script c.timers))
    (subst (LeastSo (λ i. i.id) (λ i. i.script) script c.idles) (sym (idles_least script c.idles)) (least_so (λ i. i.id) (λ i. i.script) script c.idles))
  where
    either : (a b : ℕ) → LeastSo (λ t. t.id) (λ t. t.script) script c.timers (Some a) → LeastSo (λ i. i.id) (λ i. i.script) script c.idles (Some b) → (d : Bool) → nat_lt b a ≡ d → IsLeast script c (cond d b a)
    either a b t i true e = record { there = inr i.0; timers = all_then (λ x so f. omega (arith, ltb-true b a e, so f)) c.timers t.1; idles = i.1 }
    either a b t i false e = record { there = inl t.0; timers = t.1; idles = all_then (λ x so f. omega (arith, ltb-false b a e, so f)) c.idles i.1 }

    both : (a b : Option ℕ) → LeastSo (λ t. t.id) (λ t. t.script) script c.timers a → LeastSo (λ i. i.id) (λ i. i.script) script c.idles b → CancelsLeast script c (lesser a b)
    both None None t i = (t, i)
    both None (Some b) t i = record { there = inr i.0; timers = all_then (λ x other f. absurd (other f)) c.timers t; idles = i.1 }
    both (Some a) None t i = record { there = inl t.0; timers = t.1; idles = all_then (λ x other f. absurd (other f)) c.idles i }
    both (Some a) (Some b) t i = either a b t i (nat_lt b a) refl
