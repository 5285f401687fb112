use Rattle.std.proofs.Common.{arith}
use Rattle.tks_button.proofs.Marks.{all_marked}
use Rattle.tks_button.proofs.mark.marked_text.Goals as goal

pub returns : goal.returns
returns c = all_marked c.args.on c.args.text.now c.loop-byte.block.items c.loop-byte.byte-index (omega (arith, c.loop-byte-test.false)) c.loop-byte.invariant
