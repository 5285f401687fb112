use Rattle.std.proofs.Common.{◌∷◌, [], ◌++◌, take, ap, sym, ◌∙◌, arith}
use Rattle.std.proofs.lemmas.List.{take_more}
use Rattle.tks_bind.proofs.Leading.{drops_more, still_placed}
use Rattle.tks_bind.proofs.through.without_sequences.Goals as goal

pub loop-sequence-preserved : goal.loop-sequence-preserved
loop-sequence-preserved c = λ placed.
    let q = c.sequence-item.result in
    let so_far = take c.loop-sequence.sequence-index c.args.sequences.now in
    let more = take_more c.args.sequences.now c.loop-sequence.sequence-index q (omega arith) ∙ ap (λ x. so_far ++ x ∷ []) (sym c.sequence-item.is) in
    let before = c.loop-sequence.invariant placed in
    let now_placed = still_placed c.args.name.now so_far c.args.groups.now c.loop-sequence.made placed before in
    rw more (drops_more c.args.name.now so_far q c.args.groups.now c.loop-sequence.made c.in_ok-made-2.made before (c.in_ok-made-2.ensures now_placed))
