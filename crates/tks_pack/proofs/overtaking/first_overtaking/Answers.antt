use Rattle.std.proofs.Common.{get_or, arith}
use Rattle.tks_pack.specs.Notes.{no_overtaking}
use Rattle.tks_pack.proofs.Overtakes.{goes}
use Rattle.tks_pack.proofs.overtaking.first_overtaking.Goals as goal

pub loop-by-preserved : goal.loop-by-preserved
loop-by-preserved c =
    let one = c.loop-by.invariant.one in
    let later = one.later in
    record {
      one = goes c.args.index c.loop-by.by c.loop-by.from c.args.notes.now (get_or c.args.known.now c.loop-by.by no_overtaking) one c.loop-by.invariant.until
          (c.requires.known.each c.loop-by.by (omega arith) one.inside) c.loop-by-test.true;
      until = record {
        small = c.overtaken-from-in-loop-by.ensures.small;
        before = c.overtaken-from-in-loop-by.ensures.before;
        after = c.overtaken-from-in-loop-by.ensures.after;
      };
    }
