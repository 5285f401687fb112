use Rattle.std.proofs.Common.{◌∷◌, [], ◌++◌, take, ap, sym, ◌∙◌, arith}
use Rattle.std.proofs.lemmas.List.{take_more}
use Rattle.tks_bind.proofs.Leading.{gains_more}
use Rattle.tks_bind.proofs.through.with_sequences.Goals as goal

pub loop-sequence-preserved : goal.loop-sequence-preserved
loop-sequence-preserved c =
    let q = c.sequence-item.result in
    let so_far = take c.loop-sequence.sequence-index c.args.sequences.now in
    let more = take_more c.args.sequences.now c.loop-sequence.sequence-index q (omega arith) ∙ ap (λ x. so_far ++ x ∷ []) (sym c.sequence-item.is) in
    rw more (gains_more c.args.name.now so_far q c.args.groups.now c.loop-sequence.made c.in_ok-made-2.made c.loop-sequence.invariant c.in_ok-made-2.ensures)
