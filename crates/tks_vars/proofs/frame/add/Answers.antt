use Rattle.std.proofs.Common.{ap, ◌∙◌}
use Rattle.std.specs.FinMap as fin
use Rattle.tks_vars.specs.Few.{put_behind}
use Rattle.tks_vars.proofs.Firsts.{put_at_end, put_before}
use Rattle.tks_vars.proofs.frame.add.Goals as goal

pub returns-then-len-lt-FEW-clause-ok : goal.returns-then-len-lt-FEW-clause-ok
returns-then-len-lt-FEW-clause-ok c =
    ap (put_behind c.args.rest.now) c.in_ok-push.ensures.ok
    ∙ put_at_end c.args.name c.args.rest.now c.args.value c.args.first.now c.requires

pub returns-clause-ok : goal.returns-clause-ok
returns-clause-ok c =
    let first = c.args.first.now in
    ap (λ m. put_behind m first) (c.in_ok-insert.ensures.ok ∙ ap (λ name. fin.insert c.args.rest.now name c.args.value) c.as_bytes.ensures.value)
    ∙ put_before c.args.name c.args.rest.now c.args.value first c.requires
