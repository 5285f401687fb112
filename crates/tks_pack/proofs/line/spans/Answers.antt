use Rattle.std.proofs.Common.{◌+◌, subst, rules, arith}
use Rattle.std.proofs.lemmas.Grind.{common_steps}
use Rattle.tks_pack.specs.Shares.{AreReady}
use Rattle.tks_pack.proofs.Ready.{left_is}
use Rattle.tks_pack.proofs.line.spans.Goals as goal

pub loop-index-init : goal.loop-index-init
loop-index-init c = record {
  so_far = search rules;
  fits = omega arith;
  ready = c.in_ok-shares.ensures c.args.length;
}

pub loop-index-preserved : goal.loop-index-preserved
loop-index-preserved c = record {
  so_far = grind (arith, common_steps);
  fits = c.behind-cavity.ensures.fits;
  ready = subst (λ r. AreReady (c.loop-index.index + 1) r c.args.stretches.now c.next-share.new.self)
      (left_is c.args.stretches.now c.loop-index.index _ c.loop-index.cavity c.behind-cavity.result c.parcel_length-taken.result c.next-share.result c.loop-index-test.true
      c.behind-cavity.ensures.value c.parcel_length-taken.ensures.value c.next-share.ensures.share)
      c.next-share.ensures.ready;
}
