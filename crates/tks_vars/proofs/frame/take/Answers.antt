use Rattle.std.proofs.Common.{ap, ◌∙◌}
use Rattle.std.specs.FinMap as fin
use Rattle.tks_vars.specs.Few.{put_behind}
use Rattle.tks_vars.proofs.Firsts.{taken_everywhere}
use Rattle.tks_vars.proofs.frame.take.Goals as goal

pub returns-clause-ok : goal.returns-clause-ok
returns-clause-ok c =
    let name = c.args.name.now in
    ap (λ m. put_behind m c.remove-2.new.self) c.in_ok-remove.ensures.ok
    ∙ ap (put_behind (fin.remove c.args.rest.now name)) c.remove-2.ensures
    ∙ taken_everywhere name c.args.rest.now c.args.first.now
