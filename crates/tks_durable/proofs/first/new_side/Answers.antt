use Rattle.std.proofs.Common.{ap}
use Rattle.tks_spelling.specs.declared.header.Header.{Header}
use Rattle.tks_durable.proofs.Starts.{begun_opens}
use Rattle.tks_durable.proofs.first.new_side.Goals as goal

pub returns-clause-opens : goal.returns-clause-opens
returns-clause-opens g c = λ own live.
    let m = g.M.Machine.meaning c.args.machine.now in
    let h : Header = c.in_ok-header.header in
    let grid = ap (λ (x : Header). x.grid) c.in_ok-header.ensures.value in
    let names = ap (λ (x : Header). x.names) c.in_ok-header.ensures.value in
    begun_opens m h c.args.world.now live c.in_ok-bytes.bytes.items grid names (c.is_within.ensures.own own) (c.in_ok-bytes.ensures.stored own h grid names)
