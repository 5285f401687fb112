-- What turns work on is of windows that are there, whatever is done to it and to the windows.
use Rattle.std.proofs.Common.{◌≡◌, ◌≤◌, ◌^◌, ℕ, Bool, true, false, List, [], ◌∷◌, ◌++◌, Option, Some, None, is_some, IfSome, Ok, refl, sym, subst, ◌∙◌}
use Rattle.std.specs.Prelude.{◌&&◌, ◌==◌, if◌then◌else◌}
use Rattle.std.specs.List.{filter, list_all}
use Rattle.std.proofs.lemmas.Bool.{and_from, and_parts}
use Rattle.std.proofs.lemmas.List.Folds.{list_all-append}
use Rattle.tks_text.specs.declared.class.Class.{Class}
use Rattle.tks_event.specs.Event.{Event}
use Rattle.tks_event.specs.Kinds.{is_of_key}
use Rattle.tks_queue.specs.declared.place.Place.{Place}
use Rattle.tks_queue.specs.declared.place.Place.TheVariants as place
use Rattle.tks_queue.specs.declared.queued.Queued.{Queued}
use Rattle.tks_queue.specs.EventQueue.{queued, waiting, some_with_mark, put_with_mark, put, without_first}
use Rattle.tks_tree.specs.Windows.{Window, Windows, root, of_number, created}
use Rattle.tks_tree.specs.WellFormed.{WellFormed}
use Rattle.tks_tree.proofs.Below.{there_below}
use Rattle.tks_state.specs.EventLoop.{EventLoop, is_there, is_for, is_press, all_in, left_focus, left_pressed, left, Stay}
use Rattle.tks_state.proofs.Marks.{made, created_made}

-- ---- the three tests

parts : (ws : List Window) (x : EventLoop) → all_in ws x ≡ true → (is_there ws x.focus ≡ true) × ((list_all (is_for ws) x.queue ≡ true) × (is_press ws x.pressed ≡ true))
parts ws x h =
    let a = and_parts (is_there ws x.focus) (list_all (is_for ws) x.queue && is_press ws x.pressed) h in
    (a.0, and_parts (list_all (is_for ws) x.queue) (is_press ws x.pressed) a.1)

all_there : (ws : List Window) (x : EventLoop) → is_there ws x.focus ≡ true → list_all (is_for ws) x.queue ≡ true → is_press ws x.pressed ≡ true → all_in ws x ≡ true
all_there ws x focus queue pressed =
    and_from (is_there ws x.focus) (list_all (is_for ws) x.queue && is_press ws x.pressed) focus (and_from (list_all (is_for ws) x.queue) (is_press ws x.pressed) queue pressed)

-- the focus is that of a window, so its number is within the bound
pub focus_below : (t : Windows) (x : EventLoop) → WellFormed t → all_in t.windows x ≡ true → x.focus ≤ 2 ^ 62
focus_below t x f h = there_below t x.focus f (parts t.windows x h).0

-- so is that of the window that took the last press
pub press_below : (t : Windows) (x : EventLoop) → WellFormed t → all_in t.windows x ≡ true → IfSome x.pressed (λ n. n ≤ 2 ^ 62)
press_below t x f h = by x.pressed (parts t.windows x h).1.1
  where
    by : (o : Option ℕ) → is_press t.windows o ≡ true → IfSome o (λ n. n ≤ 2 ^ 62)
    by None there = tt
    by (Some n) there = there_below t n f there

-- ---- the windows change

all_for : (ws vs : List Window) (queue : List Queued) → Stay ws vs → list_all (is_for ws) queue ≡ true → list_all (is_for vs) queue ≡ true
all_for ws vs [] stay h = refl
all_for ws vs (q ∷ queue) stay h =
    let a = and_parts (is_for ws q) (list_all (is_for ws) queue) h in
    and_from (is_for vs q) (list_all (is_for vs) queue) (stay q.event.window a.0) (all_for ws vs queue stay a.1)

press_stays : (ws vs : List Window) (pressed : Option ℕ) → Stay ws vs → is_press ws pressed ≡ true → is_press vs pressed ≡ true
press_stays ws vs None stay h = refl
press_stays ws vs (Some number) stay h = stay number h

-- windows come
pub more_there : (ws vs : List Window) (x : EventLoop) → Stay ws vs → all_in ws x ≡ true → all_in vs x ≡ true
more_there ws vs x stay h =
    let a = parts ws x h in
    all_there vs x (stay x.focus a.0) (all_for ws vs x.queue stay a.1.0) (press_stays ws vs x.pressed stay a.1.1)

one_more : (ws : List Window) (w : Window) → Stay ws (ws ++ w ∷ [])
one_more [] w number h = absurd cc
one_more (v ∷ ws) w number h = by (v.number == number) h (one_more ws w number)
  where
    by : (b : Bool) → is_some (if b then Some v else of_number ws number) ≡ true → (is_there ws number ≡ true → is_there (ws ++ w ∷ []) number ≡ true)
        → is_some (if b then Some v else of_number (ws ++ w ∷ []) number) ≡ true
    by true h rest = refl
    by false h rest = rest h

-- a new window
pub made_stay : (t u : Windows) (path : List ℕ) (class : Class) (number : ℕ) → created t path class ≡ Ok (number, u) → Stay t.windows u.windows
made_stay t u path class number h =
    let new : u.windows ≡ t.windows ++ record { number = number; path = path; class = class } ∷ [] = subst (λ r. made r t path class) h (created_made t path class) in
    subst (λ ws. Stay t.windows ws) (sym new) (one_more t.windows (record { number = number; path = path; class = class }))

all_kept : (ws : List Window) (queue : List Queued) → list_all (is_for ws) (filter (is_for ws) queue) ≡ true
all_kept ws [] = refl
all_kept ws (q ∷ queue) = by (is_for ws q) refl (all_kept ws queue)
  where
    by : (b : Bool) → is_for ws q ≡ b → list_all (is_for ws) (filter (is_for ws) queue) ≡ true → list_all (is_for ws) (if b then q ∷ filter (is_for ws) queue else filter (is_for ws) queue) ≡ true
    by true e rest = and_from (is_for ws q) (list_all (is_for ws) (filter (is_for ws) queue)) e rest
    by false e rest = rest

focus_left : (ws : List Window) (number : ℕ) → is_there ws 0 ≡ true → is_there ws (left_focus ws number) ≡ true
focus_left ws number h = by (is_there ws number) refl
  where
    by : (b : Bool) → is_there ws number ≡ b → is_there ws (if b then number else 0) ≡ true
    by true e = e
    by false e = h

pub press_left : (ws : List Window) (pressed : Option ℕ) → is_press ws (left_pressed ws pressed) ≡ true
press_left ws None = refl
press_left ws (Some number) = by (is_there ws number) refl
  where
    by : (b : Bool) → is_there ws number ≡ b → is_press ws (if b then Some number else None) ≡ true
    by true e = e
    by false e = refl

root_there : (ws later : List Window) → ws ≡ root ∷ later → is_there ws 0 ≡ true
root_there ws later e = rw e refl

-- what is of windows that are gone goes
pub left_there : (ws later : List Window) (x : EventLoop) → ws ≡ root ∷ later → all_in ws (left ws x) ≡ true
left_there ws later x e = all_there ws (left ws x) (focus_left ws x.focus (root_there ws later e)) (all_kept ws x.queue) (press_left ws x.pressed)

-- ---- the loop changes

-- an event as it waits is of a window that is there
waits_there : (ws : List Window) (e : Event) → is_there ws 0 ≡ true → is_there ws e.window ≡ true → is_there ws (waiting e).window ≡ true
waits_there ws e root h = by (is_of_key e.kind)
  where
    by : (b : Bool) → is_there ws (if b then record e { window = 0 } else e).window ≡ true
    by true = root
    by false = h

marked_put : (test : Queued → Bool) (e : Event) (queue : List Queued) → test (queued true e) ≡ true → list_all test queue ≡ true → list_all test (put_with_mark e queue) ≡ true
marked_put test e [] k h = and_from (test (queued true e)) true k refl
marked_put test e (q ∷ queue) k h = by (some_with_mark (q ∷ queue)) (and_parts (test q) (list_all test queue) h) (marked_put test e queue k)
  where
    by : (b : Bool) → (test q ≡ true) × (list_all test queue ≡ true) → (list_all test queue ≡ true → list_all test (put_with_mark e queue) ≡ true)
        → list_all test (if b then q ∷ put_with_mark e queue else queued true e ∷ q ∷ queue) ≡ true
    by true a rest = and_from (test q) (list_all test (put_with_mark e queue)) a.0 (rest a.1)
    by false a rest = and_from (test (queued true e)) (list_all test (q ∷ queue)) k h

all_put : (ws : List Window) (p : Place) (e : Event) (queue : List Queued) → is_there ws (waiting e).window ≡ true → list_all (is_for ws) queue ≡ true → list_all (is_for ws) (put p e queue) ≡ true
all_put ws place.Tail e queue k h =
    list_all-append (is_for ws) queue (queued false e ∷ []) ∙ and_from (list_all (is_for ws) queue) (is_for ws (queued false e) && true) h (and_from (is_for ws (queued false e)) true k refl)
all_put ws place.Head e queue k h = and_from (is_for ws (queued false e)) (list_all (is_for ws) queue) k h
all_put ws place.Mark e queue k h = marked_put (is_for ws) e queue k h

-- an event comes
pub put_there : (t : Windows) (p : Place) (e : Event) (x : EventLoop) → WellFormed t → is_there t.windows e.window ≡ true → all_in t.windows x ≡ true → all_in t.windows (record x { queue = put p e x.queue }) ≡ true
put_there t p e x f k h =
    let a = parts t.windows x h in
    let waits = waits_there t.windows e (root_there t.windows f.first.0 f.first.1) k in
    all_there t.windows (record x { queue = put p e x.queue }) a.0 (all_put t.windows p e x.queue waits a.1.0) a.1.1

all_behind : (test : Queued → Bool) (queue : List Queued) → list_all test queue ≡ true → list_all test (without_first queue) ≡ true
all_behind test [] h = refl
all_behind test (q ∷ queue) h = (and_parts (test q) (list_all test queue) h).1

-- the first one goes
pub taken_there : (ws : List Window) (x : EventLoop) → all_in ws x ≡ true → all_in ws (record x { queue = without_first x.queue }) ≡ true
taken_there ws x h =
    let a = parts ws x h in
    all_there ws (record x { queue = without_first x.queue }) a.0 (all_behind (is_for ws) x.queue a.1.0) a.1.1

pub focused_there : (ws : List Window) (number : ℕ) (x : EventLoop) → is_there ws number ≡ true → all_in ws x ≡ true → all_in ws (record x { focus = number }) ≡ true
focused_there ws number x k h =
    let a = parts ws x h in
    all_there ws (record x { focus = number }) k a.1.0 a.1.1

pub pressed_there : (ws : List Window) (pressed : Option ℕ) (x : EventLoop) → all_in ws x ≡ true → all_in ws (record x { pressed = left_pressed ws pressed }) ≡ true
pressed_there ws pressed x h =
    let a = parts ws x h in
    all_there ws (record x { pressed = left_pressed ws pressed }) a.0 a.1.0 (press_left ws pressed)
