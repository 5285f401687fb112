-- Patterns that are collected.
use Rattle.std.proofs.Common.{◌≡◌, ℕ, zero, suc, ◌+◌, ◌-◌, ◌<◌, Bool, true, false, not, ◌&&◌, ◌||◌, List, [], ◌∷◌, ◌++◌, length, take, drop, Option, Some, None, refl, sym, ap, ◌∙◌, arith, add-one}
use Rattle.std.specs.Prelude.{nat_lt, if◌then◌else◌}
use Rattle.std.specs.Option.{option_map}
use Rattle.std.proofs.lemmas.Bool.{ltb-true, ltb-false, lt-ltb, le-ltb}
use Rattle.std.specs.List.{prefix_len}
use Rattle.std.proofs.lemmas.List.{take-append-drop}
use Rattle.tks_text.specs.Integer.{is_space}
use Rattle.tks_text.specs.Text.{BeginsNot, IsText}
use Rattle.tks_text.proofs.Prefixes.{prefix_passes}
use Rattle.tks_event.specs.Reading.{pattern_at, patterns_in}
use Rattle.tks_event.proofs.Legal.{pattern_legal}
use Rattle.tks_event.proofs.Spelled.{pattern_told, no_patterns, patterns_bad, spaces_passed, item_read}
use Rattle.tks_event.specs.Sequences.{near_ones, events_of, max_events}
use Rattle.tks_event.specs.View.{Kept, kept_with, room, kept_after}
use Rattle.tks_event.specs.declared.pattern.Pattern.{Pattern}
use Rattle.tks_event.specs.declared.pattern.Repeated.{Repeated}

-- ---- near patterns

pub near_len : (p : Pattern) (n : ℕ) → length (near_ones p n) ≡ n
near_len p zero = refl
near_len p (suc n) = ap suc (near_len p n)

abbrev near_one : Pattern → Pattern
near_one p = record { near = true; kind = p.kind; modifiers = p.modifiers; detail = p.detail }

near_push : (p : Pattern) (n : ℕ) → near_ones p n ++ near_one p ∷ [] ≡ near_ones p (suc n)
near_push p zero = refl
near_push p (suc n) = ap (λ ps. near_one p ∷ ps) (near_push p n)

pub near_more : (p : Pattern) (n : ℕ) → near_ones p n ++ near_one p ∷ [] ≡ near_ones p (n + 1)
near_more p n = near_push p n ∙ ap (near_ones p) (sym (add-one n))

-- ---- room

room_case : (too_long : Bool) (len n : ℕ) (b : Bool) → not too_long && nat_lt n (max_events - len) ≡ b → too_long || nat_lt max_events (len + suc n) ≡ not b
room_case true len n true e = absurd cc
room_case true len n false e = refl
room_case false len n true e = let lt = ltb-true n (max_events - len) e in le-ltb max_events (len + suc n) (omega arith)
room_case false len n false e = let le = ltb-false n (max_events - len) e in lt-ltb max_events (len + suc n) (omega arith)

abbrev kept_if : Bool → Kept → List Pattern → Kept
kept_if b k more = if b then record { items = k.items; is_too_long = true } else record { items = k.items ++ more; is_too_long = false }

kept_by : (k : Kept) (r : Repeated) (b : Bool) → room k (r.times - 1) ≡ b → kept_with k (events_of r) ≡ kept_if (not b) k (events_of r)
kept_by k r b e =
    ap (λ n. kept_if (k.is_too_long || nat_lt max_events (length k.items + suc n)) k (events_of r)) (near_len r.pattern (r.times - 1))
    ∙ ap (λ t. kept_if t k (events_of r)) (room_case k.is_too_long (length k.items) (r.times - 1) b e)

pub kept_full : (k : Kept) (r : Repeated) → room k (r.times - 1) ≡ false → kept_with k (events_of r) ≡ record { items = k.items; is_too_long = true }
kept_full k r e = kept_by k r false e

pub kept_more : (k : Kept) (r : Repeated) → room k (r.times - 1) ≡ true → kept_with k (events_of r) ≡ record { items = k.items ++ events_of r; is_too_long = false }
kept_more k r e = kept_by k r true e

-- ---- reading on

pub spaces_behind : (t : List ℕ) → patterns_in (drop (prefix_len is_space t) t) ≡ patterns_in t
spaces_behind t =
    let n = prefix_len is_space t in
    sym (spaces_passed (take n t) (drop n t) (prefix_passes is_space t).0) ∙ ap patterns_in (take-append-drop n t)

pub begins_behind : (t : List ℕ) → BeginsNot is_space (drop (prefix_len is_space t) t)
begins_behind t = (prefix_passes is_space t).1

kept_one : (k : Kept) (r : Repeated) (o : Option (List Repeated)) → kept_after k (option_map (λ rs. r ∷ rs) o) ≡ kept_after (kept_with k (events_of r)) o
kept_one k r None = refl
kept_one k r (Some rs) = refl

pub kept_item : (k : Kept) (r : Repeated) (t v : List ℕ) → pattern_at t ≡ Some (r, v) → kept_after k (patterns_in t) ≡ kept_after (kept_with k (events_of r)) (patterns_in v)
kept_item k r t v e = ap (kept_after k) (item_read t v r (pattern_told v t r e)) ∙ kept_one k r (patterns_in v)

pub kept_end : (k : Kept) (t : List ℕ) → length t ≡ 0 → kept_after k (patterns_in t) ≡ Some k
kept_end k [] e = ap (kept_after k) no_patterns
kept_end k (c ∷ t) e = absurd (omega arith)

pub kept_bad : (k : Kept) (t : List ℕ) → 0 < length t → BeginsNot is_space t → pattern_at t ≡ None → kept_after k (patterns_in t) ≡ None
kept_bad k [] l b e = absurd (omega arith)
kept_bad k (c ∷ t) l b e = ap (kept_after k) (patterns_bad c t b e)

pub detail_is_text : (r : Repeated) (t v : List ℕ) → pattern_at t ≡ Some (r, v) → IsText r.pattern.detail
detail_is_text r t v e = (pattern_legal v t r (pattern_told v t r e)).text
