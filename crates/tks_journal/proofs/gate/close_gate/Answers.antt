use Rattle.tks_disk.specs.DiskModel.{Images}
use Rattle.tks_journal.proofs.Closes.{closing_written, closing_synced}
use Rattle.tks_journal.proofs.gate.close_gate.Goals as goal

pub returns-in_err-write_at-clause-any_moment : goal.returns-in_err-write_at-clause-any_moment
returns-in_err-write_at-clause-any_moment g c h =
    let v = g.D.Disk.view c.args.disk.now in
    let m = g.D.Disk.view c.needs_closing.new.disk in
    let settled = c.requires.settled h in
    let only_now : (i : Images) → v.left_since v.clock i → v.may_leave i = λ i left. g.met.D.Disk.only_now c.args.disk.now i h left in
    let rests = c.needs_closing.ensures.rests h in
    let h1 = c.needs_closing.ensures.honesty.0 h in
    let first = (c.in_ok-open.ensures.closes h).write c.if-not-open.false in
    let n = g.D.Disk.view c.write_at.new.self in
    let p = closing_written v m c.args.side settled only_now rests first c.write_at.result n (c.write_at.ensures.writes h1) in
    p.leaves

pub returns-in_err-sync-clause-any_moment : goal.returns-in_err-sync-clause-any_moment
returns-in_err-sync-clause-any_moment g c h =
    let v = g.D.Disk.view c.args.disk.now in
    let m = g.D.Disk.view c.needs_closing.new.disk in
    let settled = c.requires.settled h in
    let only_now : (i : Images) → v.left_since v.clock i → v.may_leave i = λ i left. g.met.D.Disk.only_now c.args.disk.now i h left in
    let rests = c.needs_closing.ensures.rests h in
    let h1 = c.needs_closing.ensures.honesty.0 h in
    let first = (c.in_ok-open.ensures.closes h).write c.if-not-open.false in
    let n = g.D.Disk.view c.write_at.new.self in
    let p = closing_written v m c.args.side settled only_now rests first c.write_at.result n (c.write_at.ensures.writes h1) in
    (closing_synced v m c.args.side settled only_now rests first c.sync.result n (g.D.Disk.view c.sync.new.self) p (c.sync.ensures.syncs (c.write_at.ensures.honesty.0 h1))).leaves

pub returns-clause-any_moment : goal.returns-clause-any_moment
returns-clause-any_moment g c h =
    let v = g.D.Disk.view c.args.disk.now in
    let m = g.D.Disk.view c.needs_closing.new.disk in
    let settled = c.requires.settled h in
    let only_now : (i : Images) → v.left_since v.clock i → v.may_leave i = λ i left. g.met.D.Disk.only_now c.args.disk.now i h left in
    let rests = c.needs_closing.ensures.rests h in
    let h1 = c.needs_closing.ensures.honesty.0 h in
    let first = (c.in_ok-open.ensures.closes h).write c.if-not-open.false in
    let n = g.D.Disk.view c.write_at.new.self in
    let p = closing_written v m c.args.side settled only_now rests first c.write_at.result n (c.write_at.ensures.writes h1) in
    (closing_synced v m c.args.side settled only_now rests first c.sync.result n (g.D.Disk.view c.sync.new.self) p (c.sync.ensures.syncs (c.write_at.ensures.honesty.0 h1))).leaves
