use Rattle.std.proofs.Common.{ap, sym, ◌∙◌}
use Rattle.std.specs.FinMap as fin
use Rattle.tks_vars.specs.Few.{put_behind}
use Rattle.tks_vars.proofs.Entries.{put_in_nothing, put_last}
use Rattle.tks_vars.proofs.table.Table.restore.Goals as goal

pub loop-name-init : goal.loop-name-init
loop-name-init g c = ap (λ m. put_behind m c.args.entries.items) c.new-table.ensures ∙ put_in_nothing c.args.entries.items

pub loop-name-preserved : goal.loop-name-preserved
loop-name-preserved g c =
    let table = c.loop-name.table in
    let rest = c.pop.new.self.items in
    let value = c.in-Some.value in
    ap (λ m. put_behind m rest) c.in_ok-insert.ensures.ok ∙ ap (λ name. put_behind (fin.insert table name value) rest) c.as_bytes.ensures.value
    ∙ sym (put_last table rest (c.in-Some.name, value)) ∙ ap (put_behind table) (sym c.in-Some.ensures.items) ∙ c.loop-name.invariant
