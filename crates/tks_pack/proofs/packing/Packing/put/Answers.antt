use Rattle.std.proofs.Common.{◌≡◌, ap, ◌∙◌, sym, arith}
use Rattle.tks_pack.specs.Packing.{Packed}
use Rattle.tks_pack.specs.Indexes.{index_of}
use Rattle.tks_pack.proofs.Contents.{up_to_set}
use Rattle.tks_pack.proofs.packing.Packing.put.Goals as goal

pub invariant_of-self : goal.invariant_of-self
invariant_of-self c =
    let w = c.args.content.window in
    let at : c.index_of-index.result ≡ index_of w c.self.inside.contents = c.index_of-index.ensures ∙ sym (ap (λ (p : Packed). index_of w p.contents) c.self.view_is) in
    rw (c.in_ok-set.ensures.ok, at) (up_to_set c.self.inside.newest c.self.inside.contents c.args.content c.self.invariant (omega (arith, at, c.if-index-len.true, c.len.ensures)))
