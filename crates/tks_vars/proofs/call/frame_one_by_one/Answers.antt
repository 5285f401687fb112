use Rattle.std.proofs.Common.{sym, ap, ◌∙◌}
use Rattle.tks_vars.specs.Few.{put_behind}
use Rattle.tks_vars.proofs.Entries.{put_last}
use Rattle.tks_vars.proofs.call.frame_one_by_one.Goals as goal

pub loop-name-preserved : goal.loop-name-preserved
loop-name-preserved c =
    let frame = c.loop-name.frame in
    let rest = c.pop.new.self in
    ap (λ m. put_behind m rest) c.in_ok-insert_named.ensures.ok ∙ sym (put_last frame rest (c.in-Some.name, c.in-Some.value))
    ∙ ap (put_behind frame) (sym c.in-Some.ensures.some) ∙ c.loop-name.invariant
