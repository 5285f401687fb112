use Rattle.tks_journal.proofs.Gates.{gate_written, gate_synced, gate_opened}
use Rattle.tks_journal.proofs.gate.open_gate.Goals as goal

pub returns-in_err-write_at-clause-any_moment : goal.returns-in_err-write_at-clause-any_moment
returns-in_err-write_at-clause-any_moment g c h =
    (gate_written (g.D.Disk.view c.args.disk.now) c.args.side c.args.place (c.requires.settled h) (c.requires.within h) c.write_at.result (g.D.Disk.view c.write_at.new.self)
    (λ i left. g.met.D.Disk.only_now c.args.disk.now i h left) (c.write_at.ensures.writes h)).leaves

pub returns-in_err-sync-clause-any_moment : goal.returns-in_err-sync-clause-any_moment
returns-in_err-sync-clause-any_moment g c h =
    let v = g.D.Disk.view c.args.disk.now in
    let mid = g.D.Disk.view c.write_at.new.self in
    let p = gate_written v c.args.side c.args.place (c.requires.settled h) (c.requires.within h) c.write_at.result mid (λ i left. g.met.D.Disk.only_now c.args.disk.now i h left) (c.write_at.ensures.writes h) in
    (gate_synced v c.args.side c.args.place (c.requires.settled h) (c.requires.within h) c.sync.result mid (g.D.Disk.view c.sync.new.self) p (c.sync.ensures.syncs (c.write_at.ensures.honesty.0 h))).leaves

pub returns-clause-any_moment : goal.returns-clause-any_moment
returns-clause-any_moment g c h =
    let v = g.D.Disk.view c.args.disk.now in
    let mid = g.D.Disk.view c.write_at.new.self in
    let p = gate_written v c.args.side c.args.place (c.requires.settled h) (c.requires.within h) c.write_at.result mid (λ i left. g.met.D.Disk.only_now c.args.disk.now i h left) (c.write_at.ensures.writes h) in
    (gate_synced v c.args.side c.args.place (c.requires.settled h) (c.requires.within h) c.sync.result mid (g.D.Disk.view c.sync.new.self) p (c.sync.ensures.syncs (c.write_at.ensures.honesty.0 h))).leaves

pub returns-clause-opened : goal.returns-clause-opened
returns-clause-opened g c h =
    let v = g.D.Disk.view c.args.disk.now in
    let mid = g.D.Disk.view c.write_at.new.self in
    let new = g.D.Disk.view c.sync.new.self in
    let h1 = c.write_at.ensures.honesty.0 h in
    let p = gate_written v c.args.side c.args.place (c.requires.settled h) (c.requires.within h) c.write_at.result mid (λ i left. g.met.D.Disk.only_now c.args.disk.now i h left) (c.write_at.ensures.writes h) in
    let q = gate_synced v c.args.side c.args.place (c.requires.settled h) (c.requires.within h) c.sync.result mid new p (c.sync.ensures.syncs h1) in
    gate_opened v c.args.side c.args.place (c.requires.settled h) (c.requires.within h) c.in_ok-write_at.field-0 c.in_ok-sync.field-0 mid new q (c.in_ok-write_at.ensures.writes h) (c.in_ok-sync.ensures.syncs h1)
