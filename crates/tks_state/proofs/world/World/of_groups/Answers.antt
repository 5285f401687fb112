use Rattle.std.proofs.Common.{rules, ◌≡◌, ◌≤◌, ◌^◌, Some, None, length, if◌then◌else◌, true, false, sym, ap, ◌∙◌, arith}
use Rattle.std.specs.Prelude.{nat_le, nat_lt}
use Rattle.std.proofs.lemmas.Bool.{and_from, le-leb, lt-ltb}
use Rattle.std.proofs.lemmas.List.{nil_from_length}
use Rattle.tks_bind.specs.History.{max_history}
use Rattle.tks_state.specs.Events.{max_faults}
use Rattle.tks_state.specs.EventLoop.{all_in}
use Rattle.tks_state.specs.declared.restoring.WorldParts.{WorldParts}
use Rattle.tks_state.specs.Restoring.{are_windows, world_of}
use Rattle.tks_state.specs.World.{world_with, windows_of, events_of}
use Rattle.tks_state.proofs.Restored.{possible, there_again, frames_stand, not_there, no_windows, no_events}
use Rattle.tks_state.proofs.world.World.of_groups.Goals as goal
use Rattle.tks_state.proofs.world.World.of_groups.Goals.{then-depth-gt0-via-then-depth-gt0, then-depth-gt0-via-else-depth-gt0+then-not-is_in}

pub of-requires-clause-there : goal.of-requires-clause-there
of-requires-clause-there c =
    let p : WorldParts = record { accepted = c.args.accepted; clock = c.args.event_loop.clock; tree = c.args.tree; windows = c.args.windows; variables = c.args.variables; bindings = c.args.events.bindings; virtuals = c.args.events.virtuals; history = c.args.events.history; queue = c.args.event_loop.queue; timers = c.args.event_loop.timers; focus = c.args.event_loop.focus; held = c.args.event_loop.held; pressed = c.args.event_loop.pressed; memories = c.args.memories; faults = c.args.events.faults; rules = c.args.rules; grid = c.args.grid } in
    let loop = c.made-event_loop.result in
    let there : all_in p.tree.windows loop ≡ true = search rules in
    let windows : (if are_windows (windows_of (world_of p)) then Some (windows_of (world_of p)) else None) ≡ Some c.in-Some.windows = search rules in
    there_again p c.in-Some.windows loop there windows

pub of-requires-clause-rests : goal.of-requires-clause-rests
of-requires-clause-rests c =
    nil_from_length c.args.variables.locals (omega (arith, c.if-depth-gt0.false, c.depth.ensures))

pub returns : goal.returns
returns c =
    let p : WorldParts = record { accepted = c.args.accepted; clock = c.args.event_loop.clock; tree = c.args.tree; windows = c.args.windows; variables = c.args.variables; bindings = c.args.events.bindings; virtuals = c.args.events.virtuals; history = c.args.events.history; queue = c.args.event_loop.queue; timers = c.args.event_loop.timers; focus = c.args.event_loop.focus; held = c.args.event_loop.held; pressed = c.args.event_loop.pressed; memories = c.args.memories; faults = c.args.events.faults; rules = c.args.rules; grid = c.args.grid } in
    let counts = and_from (nat_le p.accepted (2 ^ 62)) (nat_lt p.clock (2 ^ 62)) (le-leb p.accepted (2 ^ 62) c.requires.counted) (lt-ltb p.clock (2 ^ 62) c.requires.clock) in
    let none : length p.variables.locals ≡ 0 = omega (arith, c.if-depth-gt0.false, c.depth.ensures) in
    let there : all_in p.tree.windows c.made-event_loop.result ≡ true = search rules in
    let short : length p.history ≤ max_history = search rules in
    let windows : (if are_windows (windows_of (world_of p)) then Some (windows_of (world_of p)) else None) ≡ Some c.in-Some.windows = search rules in
    let events : (if nat_le (length p.faults) max_faults then Some (events_of (world_of p)) else None) ≡ Some c.in-Some-2.events = search rules in
    ap Some (c.of.ensures ∙ (λ i. world_with p.accepted c.in-Some.windows p.variables c.in-Some-2.events (c.made-event_loop.ensures i) p.memories p.rules p.grid))
    ∙ possible p c.in-Some.windows c.in-Some-2.events counts none (ap (all_in p.tree.windows) (sym c.made-event_loop.ensures) ∙ there) short windows events

pub returns-then-depth-gt0 : goal.returns-then-depth-gt0
returns-then-depth-gt0 c =
    let p : WorldParts = record { accepted = c.args.accepted; clock = c.args.event_loop.clock; tree = c.args.tree; windows = c.args.windows; variables = c.args.variables; bindings = c.args.events.bindings; virtuals = c.args.events.virtuals; history = c.args.events.history; queue = c.args.event_loop.queue; timers = c.args.event_loop.timers; focus = c.args.event_loop.focus; held = c.args.event_loop.held; pressed = c.args.event_loop.pressed; memories = c.args.memories; faults = c.args.events.faults; rules = c.args.rules; grid = c.args.grid } in
    let all_there = ap (all_in p.tree.windows) (sym c.made-event_loop.ensures) in
    elim c.then-depth-gt0.branch [
      | then-depth-gt0-via-then-depth-gt0 w ↦ frames_stand p (omega (arith, w.if-depth-gt0.true, c.depth.ensures))
      | then-depth-gt0-via-else-depth-gt0+then-not-is_in w ↦
          let gone : all_in p.tree.windows c.made-event_loop.result ≡ false = search rules in
          not_there p (all_there ∙ gone)
    ]

pub returns-in_default : goal.returns-in_default
returns-in_default c =
    let p : WorldParts = record { accepted = c.args.accepted; clock = c.args.event_loop.clock; tree = c.args.tree; windows = c.args.windows; variables = c.args.variables; bindings = c.args.events.bindings; virtuals = c.args.events.virtuals; history = c.args.events.history; queue = c.args.event_loop.queue; timers = c.args.event_loop.timers; focus = c.args.event_loop.focus; held = c.args.event_loop.held; pressed = c.args.event_loop.pressed; memories = c.args.memories; faults = c.args.events.faults; rules = c.args.rules; grid = c.args.grid } in
    let windows : (if are_windows (windows_of (world_of p)) then Some (windows_of (world_of p)) else None) ≡ None = search rules in
    no_windows p windows

pub returns-in_default-2 : goal.returns-in_default-2
returns-in_default-2 c =
    let p : WorldParts = record { accepted = c.args.accepted; clock = c.args.event_loop.clock; tree = c.args.tree; windows = c.args.windows; variables = c.args.variables; bindings = c.args.events.bindings; virtuals = c.args.events.virtuals; history = c.args.events.history; queue = c.args.event_loop.queue; timers = c.args.event_loop.timers; focus = c.args.event_loop.focus; held = c.args.event_loop.held; pressed = c.args.event_loop.pressed; memories = c.args.memories; faults = c.args.events.faults; rules = c.args.rules; grid = c.args.grid } in
    let events : (if nat_le (length p.faults) max_faults then Some (events_of (world_of p)) else None) ≡ None = search rules in
    no_events p events
