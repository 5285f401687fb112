-- `focus` and `after` leave the world within limits.
use Rattle.std.proofs.Common.{◌≡◌, ℕ, ◌+◌, ◌^◌, ◌==◌, Bool, true, not, codes, List, [], ◌∷◌, length, Option, Some, None, Ok, IfOk}
use Rattle.std.specs.Prelude.{nat_le, nat_lt}
use Rattle.std.specs.List.{list_all}
use Rattle.std.proofs.lemmas.Bool.{and_from, and_parts}
use Rattle.tks_text.specs.Text.{same_text}
use Rattle.tks_text.specs.Limits.{fits}
use Rattle.tks_text.specs.Size.{Extent}
use Rattle.tks_text.specs.declared.limits.Limits.{Limits}
use Rattle.tks_tcl.specs.Lists.{concatenated}
use Rattle.tks_tcl.proofs.Framing.{follows, follows_on}
use Rattle.tks_event.specs.Sequences.{is_some_text}
use Rattle.tks_event.specs.declared.kind.Kind.{Kind}
use Rattle.tks_event.specs.declared.kind.Kind.TheVariants as kind
use Rattle.tks_queue.specs.declared.place.Place.TheVariants as place
use Rattle.tks_timer.specs.After as timer
use Rattle.tks_timer.specs.declared.entry.Idle.{Idle}
use Rattle.tks_timer.specs.declared.entry.Timer.{Timer}
use Rattle.tks_state.specs.EventLoop.{is_there}
use Rattle.tks_state.specs.World.{World, focused, with_timer, with_idle, without_id}
use Rattle.tks_limits.specs.Within.{may_hold, event_fits, timers_fit}
use Rattle.tks_cmd.specs.Changes.{silent}
use Rattle.tks_cmd.specs.Packing.{window_of}
use Rattle.tks_cmd.specs.Queue.{put_within}
use Rattle.tks_cmd.specs.Focus.{focus_event, focus_moved, focus_given, focus_on, focus_does, path_from}
use Rattle.tks_cmd.specs.After.{delay_read, timers_within, idles_within, timer_kept, idle_kept, script_read, delay_does, idle_does, cancelled_id, cancelled, cancel_does, kept_told, info_does, form_does, some_does, after_does}
use Rattle.tks_keeping.specs.Fitting.{WorldFits}
use Rattle.tks_keeping.proofs.Lists.{one_of, pushed_so, filtered_so, one_so, AllSo}
use Rattle.tks_keeping.proofs.Texts.{tested_so, TextFits, empty_fits, within_fits, filtered_fewer}
use Rattle.tks_keeping.proofs.Parts.{LeftFits, events_opened, with_timers_fits, with_focus_fits}
use Rattle.tks_keeping.proofs.Delivered.{put_fits}

-- ---- scripts that wait

-- each list of them is within limits, and each script
pub record TimersFit (limits : Limits) (c : timer.Content) : Type 0 where
  pub few_timers : may_hold limits (length c.timers) ≡ true
  pub timers : AllSo (λ t. fits limits t.script) c.timers
  pub few_idles : may_hold limits (length c.idles) ≡ true
  pub idles : AllSo (λ i. fits limits i.script) c.idles

module _ (limits : Limits) (grid : Extent) where
  timers_opened : (c : timer.Content) → timers_fit limits c ≡ true → TimersFit limits c
  timers_opened c h =
      let a = and_parts (may_hold limits (length c.timers)) _ h in
      let b = and_parts (list_all (λ t. fits limits t.script) c.timers) _ a.1 in
      let d = and_parts (may_hold limits (length c.idles)) (list_all (λ i. fits limits i.script) c.idles) b.1 in
      record { few_timers = a.0; timers = b.0; few_idles = d.0; idles = d.1 }

  timers_closed : (c : timer.Content) → TimersFit limits c → timers_fit limits c ≡ true
  timers_closed c h =
      and_from (may_hold limits (length c.timers)) _ h.few_timers
      (and_from (list_all (λ t. fits limits t.script) c.timers) _ h.timers
      (and_from (may_hold limits (length c.idles)) (list_all (λ i. fits limits i.script) c.idles) h.few_idles h.idles))

  -- those of a world
  pub world_timers : (w : World) → WorldFits limits grid w → TimersFit limits w.timers
  world_timers w h = timers_opened w.timers (events_opened limits w h.events).timers

  with_timer_fits : (due : ℕ) (script : List ℕ) (w : World) → TextFits limits script → may_hold limits (length (with_timer due script w).timers.timers) ≡ true → WorldFits limits grid w
      → WorldFits limits grid (with_timer due script w)
  with_timer_fits due script w h few k =
      let t = world_timers w k in
      let c = timer.with_timer due script w.timers in
      let new : Timer = record { id = w.timers.next; due = timer.no_later due; script = script } in
      with_timers_fits limits grid w k c
      (timers_closed c (record { few_timers = few; timers = pushed_so (λ t. fits limits t.script) w.timers.timers new t.timers h; few_idles = t.few_idles; idles = t.idles }))

  with_idle_fits : (script : List ℕ) (w : World) → TextFits limits script → may_hold limits (length (with_idle script w).timers.idles) ≡ true → WorldFits limits grid w
      → WorldFits limits grid (with_idle script w)
  with_idle_fits script w h few k =
      let t = world_timers w k in
      let c = timer.with_idle script w.timers in
      let new : Idle = record { id = w.timers.next; script = script } in
      with_timers_fits limits grid w k c
      (timers_closed c (record { few_timers = t.few_timers; timers = t.timers; few_idles = few; idles = pushed_so (λ i. fits limits i.script) w.timers.idles new t.idles h }))

  -- without the script of an id
  pub without_id_fits : (id : ℕ) (w : World) → WorldFits limits grid w → WorldFits limits grid (without_id id w)
  without_id_fits id w k =
      let t = world_timers w k in
      let c = timer.without id w.timers in
      let other_timer : Timer → Bool = λ t. not (t.id == id) in
      let other_idle : Idle → Bool = λ i. not (i.id == id) in
      with_timers_fits limits grid w k c
      (timers_closed c (record {
        few_timers = filtered_fewer limits other_timer w.timers.timers t.few_timers;
        timers = filtered_so (λ t. fits limits t.script) other_timer w.timers.timers t.timers;
        few_idles = filtered_fewer limits other_idle w.timers.idles t.few_idles;
        idles = filtered_so (λ i. fits limits i.script) other_idle w.timers.idles t.idles;
      }))

  -- ---- after

  timer_kept_fits : (delay : ℕ) (script : List ℕ) (w : World) → TextFits limits script → WorldFits limits grid w → IfOk (timer_kept limits delay script w) (LeftFits limits grid)
  timer_kept_fits delay script w h k =
      one_of (LeftFits limits grid) (nat_lt w.timers.next (2 ^ 62)) _ _
      (follows_on (WorldFits limits grid) (LeftFits limits grid) (timers_within limits (with_timer (w.clock + delay) script w)) _
      (tested_so (WorldFits limits grid) (nat_le (length (with_timer (w.clock + delay) script w).timers.timers) limits.items) (Ok (with_timer (w.clock + delay) script w)) (λ few.
      with_timer_fits (w.clock + delay) script w h few k)) (λ u f. f)) tt

  idle_kept_fits : (script : List ℕ) (w : World) → TextFits limits script → WorldFits limits grid w → IfOk (idle_kept limits script w) (LeftFits limits grid)
  idle_kept_fits script w h k =
      one_of (LeftFits limits grid) (nat_lt w.timers.next (2 ^ 62)) _ _
      (follows_on (WorldFits limits grid) (LeftFits limits grid) (idles_within limits (with_idle script w)) _
      (tested_so (WorldFits limits grid) (nat_le (length (with_idle script w).timers.idles) limits.items) (Ok (with_idle script w)) (λ few. with_idle_fits script w h few k)) (λ u f. f)) tt

  delay_fits : (text : List ℕ) (words : List (List ℕ)) (w : World) → WorldFits limits grid w → IfOk (delay_does limits text words w) (LeftFits limits grid)
  delay_fits text words w k =
      follows (LeftFits limits grid) (delay_read text) _ (λ delay.
      follows_on (TextFits limits) (LeftFits limits grid) (script_read limits words) _ (within_fits limits (concatenated words)) (λ script h.
      follows_on (LeftFits limits grid) (LeftFits limits grid) (timer_kept limits delay script w) _ (timer_kept_fits delay script w h k) (λ x f. f)))

  idle_fits : (words : List (List ℕ)) (w : World) → WorldFits limits grid w → IfOk (idle_does limits words w) (LeftFits limits grid)
  idle_fits words w k =
      follows_on (TextFits limits) (LeftFits limits grid) (script_read limits words) _ (within_fits limits (concatenated words)) (λ script h.
      follows_on (LeftFits limits grid) (LeftFits limits grid) (idle_kept limits script w) _ (idle_kept_fits script w h k) (λ x f. f))

  cancelled_fits : (id : Option ℕ) (w : World) → WorldFits limits grid w → WorldFits limits grid (cancelled id w)
  cancelled_fits None w k = k
  cancelled_fits (Some id) w k = without_id_fits id w k

  cancel_fits : (words : List (List ℕ)) (w : World) → WorldFits limits grid w → IfOk (cancel_does limits words w) (LeftFits limits grid)
  cancel_fits words w k = follows (LeftFits limits grid) (script_read limits words) _ (λ script. cancelled_fits (cancelled_id script words w.timers) w k)

  info_fits : (command : List ℕ) (words : List (List ℕ)) (w : World) → WorldFits limits grid w → IfOk (info_does command words w) (LeftFits limits grid)
  info_fits command [] w k = k
  info_fits command (id ∷ []) w k = follows (LeftFits limits grid) (kept_told id w.timers) _ (λ text. k)
  info_fits command (id ∷ more ∷ words) w k = tt

  form_fits : (form : List ℕ) (words : List (List ℕ)) (w : World) → WorldFits limits grid w → IfOk (form_does limits form words w) (LeftFits limits grid)
  form_fits form words w k =
      one_of (LeftFits limits grid) (same_text form (codes "cancel")) _ _ (cancel_fits words w k)
      (one_of (LeftFits limits grid) (same_text form (codes "idle")) _ _ (idle_fits words w k) (delay_fits form words w k))

  some_fits : (command form : List ℕ) (words : List (List ℕ)) (w : World) → WorldFits limits grid w → IfOk (some_does limits command form words w) (LeftFits limits grid)
  some_fits command form [] w k = tt
  some_fits command form (word ∷ words) w k = form_fits form (word ∷ words) w k

  -- `after`
  pub after_fits : (command : List ℕ) (words : List (List ℕ)) (w : World) → WorldFits limits grid w → IfOk (after_does limits command words w) (LeftFits limits grid)
  after_fits command [] w k = tt
  after_fits command (form ∷ words) w k =
      one_of (LeftFits limits grid) (same_text form (codes "info")) _ _ (info_fits command words w k) (some_fits command form words w k)

  -- ---- focus

  focus_event_fits : (k : Kind) (n : ℕ) → event_fits limits (focus_event k n) ≡ true
  focus_event_fits k n = and_from (fits limits []) (fits limits []) (empty_fits limits) (empty_fits limits)

  focused_fits : (n : ℕ) (w : World) → WorldFits limits grid w → WorldFits limits grid (focused n w)
  focused_fits n w k = one_so (WorldFits limits grid) (is_there w.tree.windows n) (record w { focus = n }) w (with_focus_fits limits grid w k n) k

  moved_fits : (n : ℕ) (w : World) → WorldFits limits grid w → IfOk (focus_moved limits n w) (WorldFits limits grid)
  moved_fits n w k =
      follows_on (WorldFits limits grid) (WorldFits limits grid) (put_within limits place.Tail (focus_event kind.FocusOut w.focus) (focused n w))
      (put_within limits place.Tail (focus_event kind.FocusIn n))
      (put_fits limits grid place.Tail (focus_event kind.FocusOut w.focus) (focused n w) (focus_event_fits kind.FocusOut w.focus) (focused_fits n w k))
      (λ u f. put_fits limits grid place.Tail (focus_event kind.FocusIn n) u (focus_event_fits kind.FocusIn n) f)

  given_fits : (n : ℕ) (w : World) → WorldFits limits grid w → IfOk (focus_given limits n w) (WorldFits limits grid)
  given_fits n w k = one_of (WorldFits limits grid) (n == w.focus) _ _ k (moved_fits n w k)

  focus_on_fits : (path : List ℕ) (w : World) → WorldFits limits grid w → IfOk (focus_on limits path w) (LeftFits limits grid)
  focus_on_fits path w k =
      one_of (LeftFits limits grid) (is_some_text path) _ _
      (follows (LeftFits limits grid) (window_of w path) _ (λ n. follows_on (WorldFits limits grid) (LeftFits limits grid) (focus_given limits n w) silent (given_fits n w k) (λ u f. f))) k

  -- `focus`
  pub focus_fits : (command : List ℕ) (words : List (List ℕ)) (w : World) → WorldFits limits grid w → IfOk (focus_does limits command words w) (LeftFits limits grid)
  focus_fits command [] w k = k
  focus_fits command (path ∷ []) w k = focus_on_fits path w k
  focus_fits command (path ∷ more ∷ words) w k = tt

  -- `tk_focusNext` and `tk_focusPrev` change nothing
  pub path_from_fits : (step : World → ℕ → ℕ) (command : List ℕ) (words : List (List ℕ)) (w : World) → WorldFits limits grid w → IfOk (path_from step command words w) (LeftFits limits grid)
  path_from_fits step command [] w k = tt
  path_from_fits step command (path ∷ []) w k = follows (LeftFits limits grid) (window_of w path) _ (λ n. k)
  path_from_fits step command (path ∷ more ∷ words) w k = tt
