-- The windows, in the order in which they were made (frame(n), destroy(n), focus(n); numbers, and which
-- errors there are, are this project's own).
use Rattle.std.specs.Prelude.{ℕ, suc, ◌+◌, ◌^◌, Bool, not, is_some, ◌==◌, ◌&&◌, nat_lt, nat_le, if◌then◌else◌, List, [], ◌∷◌, ◌++◌, map, take, drop, position, ◌≡◌, true, false, ◌⊎◌, Option, Some, None, Result, Ok, Err}
use Rattle.std.specs.List.{find, filter}
use Rattle.std.specs.Option.{option_map}
use Rattle.tks_text.specs.Text.{same_text}
use Rattle.tks_text.specs.declared.class.Class.{Class}
use Rattle.tks_text.specs.declared.class.Class.TheVariants.{Root}
use Rattle.tks_text.specs.declared.fault.ErrorNumber.{ErrorNumber}
use Rattle.tks_text.specs.declared.fault.ErrorNumber.TheVariants.{BadPath, WindowExists, NoSuchWindow, NotAllowedOnRoot}
use Rattle.tks_text.specs.declared.fault.ScriptFault.{ScriptFault}
use Rattle.tks_text.specs.Fault.{fault_about}
use Rattle.tks_tree.specs.Path.{root_path, is_path, parent_of, is_child, is_within}

pub record Window : Type 0 where
  pub number : ℕ
  pub path : List ℕ
  pub class : Class

-- the windows that there are, and the number of the next one
pub record Windows : Type 0 where
  pub windows : List Window
  pub next : ℕ

-- `.`
abbrev pub root : Window
root = record { number = 0; path = root_path; class = Root }

-- `.` alone
abbrev pub first_windows : Windows
first_windows = record { windows = root ∷ []; next = 1 }

-- no number is above this
abbrev pub max_number : ℕ
max_number = 2 ^ 62

-- the window of a path, and that of a number
abbrev pub of_path : List Window → List ℕ → Option Window
of_path windows path = find (λ w. same_text path w.path) windows

abbrev pub of_number : List Window → ℕ → Option Window
of_number windows number = find (λ w. w.number == number) windows

-- whether a window of the path is there
abbrev pub has_path : List Window → List ℕ → Bool
has_path windows path = is_some (of_path windows path)

-- what comes of the window of a number, where there is one
abbrev pub on_window : {X : Type 0} → Option Window → X → (Window → X) → X
on_window None none some = none
on_window (Some w) none some = some w

-- Making a window.

-- why there is no new window: an error of the script's own, or all numbers were given out
pub data Refusal : Type 0 where
  Fault : (fault : ScriptFault) → Refusal
  OutOfNumbers : Refusal

abbrev pub refused : {X : Type 0} → ErrorNumber → List ℕ → Result X Refusal
refused number subject = Err (Fault (fault_about number subject))

-- the windows with a new one, which takes the next number
abbrev pub with_window : Windows → List ℕ → Class → Windows
with_window t path class = record { windows = t.windows ++ record { number = t.next; path = path; class = class } ∷ []; next = t.next + 1 }

-- the window that it stands in must be there
abbrev pub parent_found : List Window → Option (List ℕ) → Result (Unit {0}) Refusal
parent_found windows None = Ok tt
parent_found windows (Some parent) = if has_path windows parent then Ok tt else refused NoSuchWindow parent

-- what follows where nothing was refused
abbrev pub after : {X Y : Type 0} → Result X Refusal → (X → Result Y Refusal) → Result Y Refusal
after (Ok x) next = next x
after (Err why) next = Err why

abbrev pub numbered : Windows → List ℕ → Class → Result (ℕ × Windows) Refusal
numbered t path class = if nat_lt t.next max_number then Ok (t.next, with_window t path class) else Err OutOfNumbers

-- whether a window may have a path: it must be one, no window may have it, and the one that it stands in must be
-- there
abbrev pub free_path : List Window → List ℕ → Result (Unit {0}) Refusal
free_path windows path =
    if not (is_path path) then refused BadPath path
    else (if has_path windows path then refused WindowExists path
    else parent_found windows (parent_of path))

-- a new window's number, and the windows with it
abbrev pub created : Windows → List ℕ → Class → Result (ℕ × Windows) Refusal
created t path class = after (free_path t.windows path) (λ _. numbered t path class)

-- Skipping numbers.

-- whether a number may be the next one: none from it on was given out, and it is within the bound
abbrev pub may_skip : Windows → ℕ → Bool
may_skip t number = nat_le t.next number && nat_le number max_number

-- the windows, where the next one takes this number if it may
abbrev pub skipped : Windows → ℕ → Windows
skipped t number = if may_skip t number then record t { next = number } else t

-- Destroying one.

-- the windows without one and those that stand in it; a number that no window has changes nothing
abbrev pub without : Windows → ℕ → Windows
without t number = on_window (of_number t.windows number) t (λ w. record t { windows = filter (λ v. not (is_within w.path v.path)) t.windows })

abbrev pub destroyed : Windows → ℕ → Result Windows ScriptFault
destroyed t number = if number == 0 then Err (record { number = NotAllowedOnRoot; subject = None }) else Ok (without t number)

-- Looking one up.

abbrev pub or_missing : List ℕ → Option Window → Result ℕ ScriptFault
or_missing path None = Err (fault_about NoSuchWindow path)
or_missing path (Some w) = Ok w.number

-- the number of the window of a path, which must be there
abbrev pub resolved : Windows → List ℕ → Result ℕ ScriptFault
resolved t path = or_missing path (of_path t.windows path)

-- the number of the window that one stands in; `.` stands in none
abbrev pub number_at : List Window → Option (List ℕ) → Option ℕ
number_at windows None = None
number_at windows (Some path) = option_map (λ w. w.number) (of_path windows path)

abbrev pub parent : Windows → ℕ → Option ℕ
parent t number = on_window (of_number t.windows number) None (λ w. number_at t.windows (parent_of w.path))

-- The shape of the tree.

abbrev pub numbers : List Window → List ℕ
numbers windows = map (λ w. w.number) windows

-- the windows that stand right in one, in the order in which they were made
abbrev pub children : Windows → ℕ → List ℕ
children t number = on_window (of_number t.windows number) [] (λ w. numbers (filter (λ v. is_child w.path v.path) t.windows))

-- the windows that stand in the one of a path, in preorder: each child, and behind it those in it. Those in
-- it were made later.
abbrev pub inside : List ℕ → List Window → List Window
inside path [] = []
inside path (w ∷ later) = if is_child path w.path then w ∷ (inside w.path later ++ inside path later) else inside path later

abbrev pub preorder_of : List Window → List ℕ
preorder_of [] = []
preorder_of (w ∷ later) = numbers (w ∷ inside w.path later)

-- all windows in preorder: each before those in it, siblings in the order in which they were made
abbrev pub preorder : Windows → List ℕ
preorder t = preorder_of t.windows

-- how often a number stands in a list
abbrev pub times : ℕ → List ℕ → ℕ
times n [] = 0
times n (m ∷ ms) = if m == n then suc (times n ms) else times n ms

-- The order of the focus (focus(n), tk_focusNext).

-- a list from behind a member on, round the end, up to the member before it
abbrev pub turned_at : List ℕ → Option ℕ → List ℕ
turned_at order None = []
turned_at order (Some place) = drop (place + 1) order ++ take place order

abbrev pub others_behind : List ℕ → ℕ → List ℕ
others_behind order from = turned_at order (position (λ n. n == from) order)

-- the first of the numbers of which a closure said yes, or this one where it said no of all
abbrev pub Chooses : (ℕ → Bool → Type 0) → List ℕ → ℕ → ℕ → Type 0
Chooses says [] none chosen = chosen ≡ none
Chooses says (n ∷ ns) none chosen = (says n true × (chosen ≡ n)) ⊎ (says n false × Chooses says ns none chosen)
