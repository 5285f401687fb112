use Rattle.std.proofs.Common.{◌∙◌, ◌<◌, ◌^◌, sym, subst}
use Rattle.tks_share.proofs.Mapped.{counted}
use Rattle.tks_share.proofs.map.SharedMap.len.Goals as goal

pub returns : goal.returns
returns g c =
    let many = counted c.self.inside.tree c.args.self.now c.self.view_is c.self.invariant.0 in record {
      value = c.self.invariant.1 ∙ sym many;
      short = subst (λ n. n < 2 ^ 32) (sym many) c.self.invariant.2;
    }
