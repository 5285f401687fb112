use Rattle.tks_durable.proofs.Opens.{each_way, first_moments, stored_moments}
use Rattle.tks_durable.proofs.durable.Durable.open.Goals as goal

pub returns-in-Ok-Nothing-clause-any_moment : goal.returns-in-Ok-Nothing-clause-any_moment
returns-in-Ok-Nothing-clause-any_moment g c h =
    let m = g.M.Machine.meaning c.args.machine in
    let view = g.D.Disk.view in
    let v = view c.args.disk in
    let mid = view c.in-Ok-Nothing.blank in
    let is = c.in-Ok-Nothing.field-0-is in
    let first = (rw is at c.in-Ok-Nothing.ensures.unwritten) h in
    let nothing = (rw is at c.in-Ok-Nothing.ensures.found) h in
    let reads = g.met.D.Disk.reads_may_stay c.args.disk h in
    each_way c.begin.result
    (λ s. first_moments m v mid (view s.journal.disk) first reads nothing)
    (λ x. first_moments m v mid (view x.disk) first reads nothing)
    (c.begin.ensures.any_moment ((rw is at c.in-Ok-Nothing.ensures.honesty).0 h))

pub returns-in-Ok-Something-clause-any_moment : goal.returns-in-Ok-Something-clause-any_moment
returns-in-Ok-Something-clause-any_moment g c h =
    let m = g.M.Machine.meaning c.args.machine in
    let view = g.D.Disk.view in
    let v = view c.args.disk in
    let mid = view c.in-Ok-Something.stored.disk in
    let is = c.in-Ok-Something.field-0-is in
    let first = (rw is at c.in-Ok-Something.ensures.unwritten) h in
    each_way c.restore.result
    (λ s. stored_moments m v mid (view s.journal.disk) first)
    (λ x. stored_moments m v mid (view x.disk) first)
    (c.restore.ensures.unwritten ((rw is at c.in-Ok-Something.ensures.honesty).0 h))
