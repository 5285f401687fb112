-- A world that fits stays so with another part in the place of one, where that part fits.
use Rattle.std.proofs.Common.{◌≡◌, ℕ, ◌==◌, true, List, [], ◌∷◌, Option, Some, None, IfSome, refl}
use Rattle.std.proofs.lemmas.Bool.{and_from, and_parts}
use Rattle.std.specs.List.{list_all}
use Rattle.tks_text.specs.Size.{Extent}
use Rattle.tks_text.specs.declared.limits.Limits.{Limits}
use Rattle.tks_event.specs.Event.{Event}
use Rattle.tks_bind.specs.Binding as binding
use Rattle.tks_bind.specs.declared.virtual_event.VirtualEvent.{VirtualEvent}
use Rattle.tks_queue.specs.declared.queued.Queued.{Queued}
use Rattle.tks_timer.specs.After as after
use Rattle.tks_state.specs.Windows.{kept_of, on_kept, replaced}
use Rattle.tks_state.specs.World.{World}
use Rattle.tks_state.specs.declared.kept.Kept.{Kept}
use Rattle.tks_limits.specs.Within.{kept_fits, paths_fit, windows_fit, bindings_fit, virtuals_fit, history_fits, queue_fits, timers_fit, events_fit}
use Rattle.tks_keeping.specs.Fitting.{WorldFits}
use Rattle.tks_keeping.proofs.Lists.{one_so, found_so, AllSo}
use Rattle.tks_keeping.proofs.Texts.{TextsFit}

-- what of a world is of events, each part within limits
pub record EventsFit (limits : Limits) (w : World) : Type 0 where
  pub bindings : bindings_fit limits w.bindings.bindings ≡ true
  pub virtuals : virtuals_fit limits w.virtuals ≡ true
  pub history : history_fits limits w.history ≡ true
  pub queue : queue_fits limits w.queue ≡ true
  pub timers : timers_fit limits w.timers ≡ true

module _ (limits : Limits) where
  -- ---- what is kept of windows

  -- what is kept of each window fits
  abbrev pub KeptFit : List Kept → Type 0
  KeptFit kept = AllSo (kept_fits limits) kept

  -- what is kept of one window, where there is such a window
  pub kept_found : (kept : List Kept) (number : ℕ) → KeptFit kept → IfSome (kept_of kept number) (λ k. kept_fits limits k ≡ true)
  kept_found kept number h = found_so (kept_fits limits) (λ k. k.window == number) kept h

  -- another in the place of one
  pub kept_replaced : (number : ℕ) (new : Kept) (kept : List Kept) → kept_fits limits new ≡ true → KeptFit kept → KeptFit (replaced number new kept)
  kept_replaced number new [] n h = refl
  kept_replaced number new (k ∷ rest) n h =
      let both = and_parts (kept_fits limits k) (list_all (kept_fits limits) rest) h in
      one_so KeptFit (k.window == number) (new ∷ rest) (k ∷ replaced number new rest)
      (and_from (kept_fits limits new) (list_all (kept_fits limits) rest) n both.1)
      (and_from (kept_fits limits k) (list_all (kept_fits limits) (replaced number new rest)) both.0 (kept_replaced number new rest n both.1))

  -- one changed, where there is such a window
  pub kept_changed : (kept : List Kept) (number : ℕ) (change : Kept → Kept) → ((k : Kept) → kept_fits limits k ≡ true → kept_fits limits (change k) ≡ true) → KeptFit kept
      → KeptFit (on_kept (kept_of kept number) kept (λ k. replaced number (change k) kept))
  kept_changed kept number change keeps h = by (kept_of kept number) (kept_found kept number h)
    where
      by : (o : Option Kept) → IfSome o (λ k. kept_fits limits k ≡ true) → KeptFit (on_kept o kept (λ k. replaced number (change k) kept))
      by None is = h
      by (Some k) is = kept_replaced number (change k) kept (keeps k is) h

  -- ---- what is of events

  -- what is of events fits where each part does
  pub events_opened : (w : World) → events_fit limits w ≡ true → EventsFit limits w
  events_opened w h =
      let a = and_parts (bindings_fit limits w.bindings.bindings) _ h in
      let b = and_parts (virtuals_fit limits w.virtuals) _ a.1 in
      let c = and_parts (history_fits limits w.history) _ b.1 in
      let d = and_parts (queue_fits limits w.queue) (timers_fit limits w.timers) c.1 in
      record { bindings = a.0; virtuals = b.0; history = c.0; queue = d.0; timers = d.1 }

  pub events_closed : (w : World) → EventsFit limits w → events_fit limits w ≡ true
  events_closed w h =
      and_from (bindings_fit limits w.bindings.bindings) _ h.bindings
      (and_from (virtuals_fit limits w.virtuals) _ h.virtuals
      (and_from (history_fits limits w.history) _ h.history
      (and_from (queue_fits limits w.queue) (timers_fit limits w.timers) h.queue h.timers)))

  module _ (grid : Extent) where
    -- ---- worlds

    -- a command leaves a world that fits beside an answer
    abbrev pub LeftFits : {X : Type 0} → X × World → Type 0
    LeftFits x = WorldFits limits grid x.1

    -- the windows of a world, and what is kept of them
    pub paths_of : (w : World) → WorldFits limits grid w → paths_fit limits w.tree.windows ≡ true
    paths_of w h = (and_parts (paths_fit limits w.tree.windows) (list_all (kept_fits limits) w.kept) h.windows).0

    pub kept_in : (w : World) → WorldFits limits grid w → KeptFit w.kept
    kept_in w h = (and_parts (paths_fit limits w.tree.windows) (list_all (kept_fits limits) w.kept) h.windows).1

    world_fits : (w : World) → w.grid ≡ grid → windows_fit limits w ≡ true → EventsFit limits w → TextsFit limits w.faults → WorldFits limits grid w
    world_fits w on_grid windows events faults = record { on_grid = on_grid; windows = windows; events = events_closed w events; faults = faults }

    -- ---- one part of a world for another

    module _ (w : World) (h : WorldFits limits grid w) where
      -- each part that fits may stand in the place of the one that is there
      pub with_bindings_fits : (c : binding.Content) → bindings_fit limits c.bindings ≡ true → WorldFits limits grid (record w { bindings = c })
      with_bindings_fits c k =
          let e = events_opened w h.events in
          world_fits (record w { bindings = c }) h.on_grid h.windows
          (record { bindings = k; virtuals = e.virtuals; history = e.history; queue = e.queue; timers = e.timers }) h.faults

      pub with_virtuals_fits : (vs : List VirtualEvent) → virtuals_fit limits vs ≡ true → WorldFits limits grid (record w { virtuals = vs })
      with_virtuals_fits vs k =
          let e = events_opened w h.events in
          world_fits (record w { virtuals = vs }) h.on_grid h.windows
          (record { bindings = e.bindings; virtuals = k; history = e.history; queue = e.queue; timers = e.timers }) h.faults

      pub with_history_fits : (events : List Event) → history_fits limits events ≡ true → WorldFits limits grid (record w { history = events })
      with_history_fits events k =
          let e = events_opened w h.events in
          world_fits (record w { history = events }) h.on_grid h.windows
          (record { bindings = e.bindings; virtuals = e.virtuals; history = k; queue = e.queue; timers = e.timers }) h.faults

      pub with_queue_fits : (queue : List Queued) → queue_fits limits queue ≡ true → WorldFits limits grid (record w { queue = queue })
      with_queue_fits queue k =
          let e = events_opened w h.events in
          world_fits (record w { queue = queue }) h.on_grid h.windows
          (record { bindings = e.bindings; virtuals = e.virtuals; history = e.history; queue = k; timers = e.timers }) h.faults

      pub with_timers_fits : (c : after.Content) → timers_fit limits c ≡ true → WorldFits limits grid (record w { timers = c })
      with_timers_fits c k =
          let e = events_opened w h.events in
          world_fits (record w { timers = c }) h.on_grid h.windows
          (record { bindings = e.bindings; virtuals = e.virtuals; history = e.history; queue = e.queue; timers = k }) h.faults

      -- the tree of windows stays, and what is kept of them changes
      pub with_kept_fits : (kept : List Kept) → KeptFit kept → WorldFits limits grid (record w { kept = kept })
      with_kept_fits kept k =
          record {
            on_grid = h.on_grid;
            windows = and_from (paths_fit limits w.tree.windows) (list_all (kept_fits limits) kept) (paths_of w h) k;
            events = h.events;
            faults = h.faults;
          }

      pub with_focus_fits : (n : ℕ) → WorldFits limits grid (record w { focus = n })
      with_focus_fits n = record { on_grid = h.on_grid; windows = h.windows; events = h.events; faults = h.faults }
