use Rattle.std.proofs.Common.{arith}
use Rattle.std.proofs.lemmas.Result.{err_from_is_err_and}
use Rattle.tks_codec_events.specs.Timers.{waiting_at}
use Rattle.tks_codec_variables.specs.Variables.{variables_at}
use Rattle.tks_codec.specs.Counts.{counts_at}
use Rattle.tks_codec.specs.Ends.{ends_at}
use Rattle.tks_codec.specs.Happenings.{happenings_at, happenings_seen}
use Rattle.tks_codec.specs.Windows.{windows_at, windows_seen}
use Rattle.tks_codec.specs.World.{fields_at}
use Rattle.tks_codec.proofs.OfParts.{binding_within, timer_within}
use Rattle.tks_codec.proofs.OfWorlds.{fails_behind, fails_first}
use Rattle.tks_codec.proofs.world.parts_of.Goals as goal

pub returns-in_err-ends : goal.returns-in_err-ends
unfolding fields_at counts_at windows_at variables_at happenings_at waiting_at ends_at
returns-in_err-ends c =
    let p = err_from_is_err_and c.from_residual-in_err-ends.result c.from_residual-in_err-ends.ensures.1 in
    let e = c.in_err-ends.field-0.0 in
    rw (p.1, p.2) (
    fails_behind e _ (c.in_ok-counts.counts, c.in_ok-counts.rest.now) _ c.in_ok-counts.ensures (
    fails_behind e _ (windows_seen c.in_ok-windows.windows, c.in_ok-windows.rest.now) _ c.in_ok-windows.ensures (
    fails_behind e _ (c.in_ok-variables.variables, c.in_ok-variables.rest.now) _ c.in_ok-variables.ensures (
    fails_behind e _ (happenings_seen c.in_ok-happenings.happenings, c.in_ok-happenings.rest.now) _ c.in_ok-happenings.ensures (
    fails_behind e _ (c.in_ok-queue.queue, c.in_ok-queue.rest.now) _ c.in_ok-queue.ensures (
    fails_behind e _ (c.in_ok-timers.timers, c.in_ok-timers.rest.now) _ c.in_ok-timers.ensures (
    fails_first e _ _ c.in_err-ends.ensures)))))))

pub happenings_of-requires : goal.happenings_of-requires
unfolding counts_at
happenings_of-requires c = binding_within c.args.bytes.now c.in_ok-counts.rest.now c.in_ok-counts.counts (λ i. omega (arith, c.type_inv.bytes i)) c.in_ok-counts.ensures

pub waiting_of-requires : goal.waiting_of-requires
unfolding counts_at
waiting_of-requires c = timer_within c.args.bytes.now c.in_ok-counts.rest.now c.in_ok-counts.counts (λ i. omega (arith, c.type_inv.bytes i)) c.in_ok-counts.ensures

pub returns-in_err-queue : goal.returns-in_err-queue
unfolding fields_at counts_at windows_at variables_at happenings_at waiting_at ends_at
returns-in_err-queue c =
    let p = err_from_is_err_and c.from_residual-in_err-queue.result c.from_residual-in_err-queue.ensures.1 in
    let e = c.in_err-queue.field-0.0 in
    rw (p.1, p.2) (
    fails_behind e _ (c.in_ok-counts.counts, c.in_ok-counts.rest.now) _ c.in_ok-counts.ensures (
    fails_behind e _ (windows_seen c.in_ok-windows.windows, c.in_ok-windows.rest.now) _ c.in_ok-windows.ensures (
    fails_behind e _ (c.in_ok-variables.variables, c.in_ok-variables.rest.now) _ c.in_ok-variables.ensures (
    fails_behind e _ (happenings_seen c.in_ok-happenings.happenings, c.in_ok-happenings.rest.now) _ c.in_ok-happenings.ensures (
    fails_first e _ _ c.in_err-queue.ensures)))))

pub returns-in_err-timers : goal.returns-in_err-timers
unfolding fields_at counts_at windows_at variables_at happenings_at waiting_at ends_at
returns-in_err-timers c =
    let p = err_from_is_err_and c.from_residual-in_err-timers.result c.from_residual-in_err-timers.ensures.1 in
    let e = c.in_err-timers.field-0.0 in
    rw (p.1, p.2) (
    fails_behind e _ (c.in_ok-counts.counts, c.in_ok-counts.rest.now) _ c.in_ok-counts.ensures (
    fails_behind e _ (windows_seen c.in_ok-windows.windows, c.in_ok-windows.rest.now) _ c.in_ok-windows.ensures (
    fails_behind e _ (c.in_ok-variables.variables, c.in_ok-variables.rest.now) _ c.in_ok-variables.ensures (
    fails_behind e _ (happenings_seen c.in_ok-happenings.happenings, c.in_ok-happenings.rest.now) _ c.in_ok-happenings.ensures (
    fails_behind e _ (c.in_ok-queue.queue, c.in_ok-queue.rest.now) _ c.in_ok-queue.ensures (
    fails_first e _ _ c.in_err-timers.ensures))))))
