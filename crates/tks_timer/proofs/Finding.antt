-- What stands at the place of a number is what is found by it.
use Rattle.std.proofs.Common.{◌≡◌, ℕ, Bool, true, false, cond, List, [], ◌∷◌, length, Some, None, refl, ap, sym, ◌∙◌}
use Rattle.std.specs.Prelude.{slice_get, nat_lt, ◌==◌, option_map}
use Rattle.std.specs.List.{find, position, position_or_len}
use Rattle.std.proofs.lemmas.Bool.{ltb-false}
use Rattle.std.proofs.lemmas.List.Folds.{find_at}
use Rattle.std.proofs.lemmas.Option.{slice_get_past}
use Rattle.tks_timer.specs.declared.entry.Timer.{Timer}
use Rattle.tks_timer.specs.declared.entry.Idle.{Idle}
use Rattle.tks_timer.specs.After.{timer_script, idle_script}

module _ {X : Type 0} (p : X → Bool) (xs : List X) where
  pub found_there : (i : ℕ) → position p xs ≡ Some i → slice_get xs i ≡ find p xs
  found_there i is = by (nat_lt (position_or_len p xs) (length xs)) is
    where
      by : (b : Bool) → cond b (Some (position_or_len p xs)) None ≡ Some i → slice_get xs i ≡ find p xs
      by true e = ap (slice_get xs) (same (position_or_len p xs) i e) ∙ sym (find_at p xs)
        where
          same : (n m : ℕ) → Some n ≡ Some m → m ≡ n
          same n m q = cc
      by false e = cc

  pub found_nowhere : position p xs ≡ None → find p xs ≡ None
  found_nowhere is = by (nat_lt (position_or_len p xs) (length xs)) refl is
    where
      by : (b : Bool) → nat_lt (position_or_len p xs) (length xs) ≡ b → cond b (Some (position_or_len p xs)) None ≡ None → find p xs ≡ None
      by true lt e = cc
      by false lt e = find_at p xs ∙ slice_get_past xs (position_or_len p xs) (ltb-false (position_or_len p xs) (length xs) lt)

pub timer_script_found : (id : ℕ) (ts : List Timer) → timer_script id ts ≡ option_map (λ t. t.script) (find (λ t. t.id == id) ts)
timer_script_found id [] = refl
timer_script_found id (t ∷ ts) = by (t.id == id) (timer_script_found id ts)
  where
    by : (b : Bool) → timer_script id ts ≡ option_map (λ t. t.script) (find (λ t. t.id == id) ts)
        → cond b (Some t.script) (timer_script id ts) ≡ option_map (λ t. t.script) (cond b (Some t) (find (λ t. t.id == id) ts))
    by true rest = refl
    by false rest = rest

pub idle_script_found : (id : ℕ) (is : List Idle) → idle_script id is ≡ option_map (λ i. i.script) (find (λ i. i.id == id) is)
idle_script_found id [] = refl
idle_script_found id (i ∷ is) = by (i.id == id) (idle_script_found id is)
  where
    by : (b : Bool) → idle_script id is ≡ option_map (λ i. i.script) (find (λ i. i.id == id) is)
        → cond b (Some i.script) (idle_script id is) ≡ option_map (λ i. i.script) (cond b (Some i) (find (λ i. i.id == id) is))
    by true rest = refl
    by false rest = rest
