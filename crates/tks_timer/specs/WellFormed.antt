-- What holds of all scripts that wait (after(n); that their ids rise is this project's own rule).
use Rattle.std.specs.Prelude.{ℕ, ◌≡◌, ◌+◌, ◌==◌, ◌≤◌, ◌^◌, Bool, true, ◌&&◌, not, nat_le, nat_lt, List, [], ◌∷◌}
use Rattle.std.specs.List.{list_all}
use Rattle.tks_timer.specs.declared.entry.Timer.{Timer}
use Rattle.tks_timer.specs.declared.entry.Idle.{Idle}
use Rattle.tks_timer.specs.After.{Content, last_time}

-- whether numbers rise, none less than the first and each below the next one
abbrev pub rise_below : {T : Type 0} → (T → ℕ) → ℕ → ℕ → List T → Bool
rise_below number_of least next [] = true
rise_below number_of least next (x ∷ xs) =
    (nat_le least (number_of x) && nat_lt (number_of x) next) && rise_below number_of (number_of x + 1) next xs

-- whether no idle script has an id
abbrev pub is_apart : ℕ → List Idle → Bool
is_apart id idles = list_all (λ i. not (i.id == id)) idles

-- whether no timer has the id of an idle script
abbrev pub are_apart : List Idle → List Timer → Bool
are_apart idles timers = list_all (λ t. is_apart t.id idles) timers

-- whether each timer is due when there is a time
abbrev pub are_due : List Timer → Bool
are_due timers = list_all (λ t. nat_le t.due last_time) timers

-- whether ids rise and differ, below the next one, and each timer is due when there is a time
abbrev pub are_waiting : Content → Bool
are_waiting c = rise_below (λ t. t.id) 0 c.next c.timers && (rise_below (λ i. i.id) 0 c.next c.idles && (are_apart c.idles c.timers && are_due c.timers))

-- what holds of what waits and of the next id
pub record AreWaiting (c : Content) : Type 0 where
  pub next : c.next ≤ 2 ^ 62
  pub waiting : are_waiting c ≡ true
