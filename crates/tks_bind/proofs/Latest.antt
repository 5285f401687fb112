-- The last ones of a list.
use Rattle.std.proofs.Common.{ℕ, zero, suc, ◌+◌, ◌-◌, ◌≤◌, not, Bool, true, false, List, [], ◌∷◌, ◌++◌, length, drop, ◌≡◌, refl, ap, sym, ◌∙◌, arith, length-drop}
use Rattle.std.specs.Prelude.{◌&&◌}
use Rattle.std.specs.List.{AllByRecursion, list_all}
use Rattle.std.proofs.lemmas.Bool.{and_from, and_parts}
use Rattle.std.proofs.lemmas.List.{drop-append-le, drop-drop, length-append}
use Rattle.std.proofs.lemmas.List.Folds.{list_all-append}
use Rattle.tks_event.specs.Event.{Event}
use Rattle.tks_event.specs.Kinds.{is_virtual}
use Rattle.tks_event.specs.Legality.{AreEvents, is_event}
use Rattle.tks_bind.specs.History.{are_physical, latest}
use Rattle.tks_bind.proofs.Members.{behind_one}

-- no more than a history holds are all the latest
pub all_latest : {X : Type 0} (xs : List X) → length xs ≤ 32 → latest xs ≡ xs
all_latest xs few = let none : length xs - 32 ≡ 0 = omega (arith, few) in ap (λ n. drop n xs) none

-- what is too old goes at once, or before others are added
latest_again : {X : Type 0} (xs ys : List X) → latest (latest xs ++ ys) ≡ latest (xs ++ ys)
latest_again xs ys =
    let old = length xs - 32 in
    let left : latest xs ++ ys ≡ drop old (xs ++ ys) = sym (drop-append-le old xs ys (omega arith)) in
    let both : length (xs ++ ys) ≡ length xs + length ys = length-append xs ys in
    let fewer : length (drop old (xs ++ ys)) ≡ length (xs ++ ys) - old = length-drop old (xs ++ ys) in
    let more = length (drop old (xs ++ ys)) - 32 in
    let same : old + more ≡ length (xs ++ ys) - 32 = omega (arith, both, fewer) in
    ap latest left ∙ (drop-drop more old (xs ++ ys) ∙ ap (λ n. drop n (xs ++ ys)) same)

-- one more of several
pub latest_next : {X : Type 0} (xs : List X) (x : X) (ys zs : List X) → zs ≡ latest (xs ++ x ∷ []) → latest (zs ++ ys) ≡ latest (xs ++ x ∷ ys)
latest_next xs x ys zs h = ap (λ l. latest (l ++ ys)) h ∙ (latest_again (xs ++ x ∷ []) ys ∙ ap latest (behind_one xs x ys))

-- one more of no more than a history holds
pub one_held : {X : Type 0} (xs : List X) (x : X) (ys zs all : List X) → length all ≤ 32 → zs ≡ latest (xs ++ x ∷ []) → xs ++ x ∷ ys ≡ all → zs ++ ys ≡ all
one_held xs x ys zs all few h is =
    let so_far : length (xs ++ x ∷ []) ≡ length xs + 1 = length-append xs (x ∷ []) in
    let both : length (xs ++ x ∷ ys) ≡ length xs + suc (length ys) = length-append xs (x ∷ ys) in
    let same : length (xs ++ x ∷ ys) ≡ length all = ap (λ l. length l) is in
    ap (λ l. l ++ ys) (h ∙ all_latest (xs ++ x ∷ []) (omega (arith, so_far, both, same, few))) ∙ (behind_one xs x ys ∙ is)

all_dropped : {X : Type 0} (p : X → Bool) (n : ℕ) (xs : List X) → list_all p xs ≡ true → list_all p (drop n xs) ≡ true
all_dropped p zero xs h = h
all_dropped p (suc n) [] h = refl
all_dropped p (suc n) (x ∷ xs) h = all_dropped p n xs (and_parts (p x) (list_all p xs) h).1

each_dropped : {X : Type 0} (P : X → Type 0) (n : ℕ) (xs : List X) → AllByRecursion P xs → AllByRecursion P (drop n xs)
each_dropped P zero xs h = h
each_dropped P (suc n) [] h = h
each_dropped P (suc n) (x ∷ xs) h = each_dropped P n xs h.1

one_behind : {X : Type 0} (P : X → Type 0) (xs : List X) (x : X) → AllByRecursion P xs → P x → AllByRecursion P (xs ++ x ∷ [])
one_behind P [] x h k = (k, tt)
one_behind P (y ∷ xs) x h k = (h.0, one_behind P xs x h.1 k)

pub latest_events : (events : List Event) → AreEvents events → AreEvents (latest events)
latest_events events h = each_dropped (λ e. is_event e ≡ true) (length events - 32) events h

pub latest_physical : (events : List Event) → are_physical events ≡ true → are_physical (latest events) ≡ true
latest_physical events h = all_dropped (λ e. not (is_virtual e.kind)) (length events - 32) events h

pub with_one_event : (e : Event) (events : List Event) → is_event e ≡ true → AreEvents events → AreEvents (latest (events ++ e ∷ []))
with_one_event e events h all = latest_events (events ++ e ∷ []) (one_behind (λ e. is_event e ≡ true) events e all h)

pub with_one_more : (e : Event) (events : List Event) → is_virtual e.kind ≡ false → are_physical events ≡ true → are_physical (latest (events ++ e ∷ [])) ≡ true
with_one_more e events h all =
    let p : Event → Bool = λ e. not (is_virtual e.kind) in
    latest_physical (events ++ e ∷ []) (list_all-append p events (e ∷ []) ∙ and_from (list_all p events) (not (is_virtual e.kind) && true) all (and_from (not (is_virtual e.kind)) true (ap not h) refl))
