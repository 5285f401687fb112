use Rattle.std.proofs.Common.{[], ◌∷◌}
use Rattle.tks_spelling.proofs.Puts.{flattened_then, flattened_last}
use Rattle.tks_codec.specs.Counts.{count}
use Rattle.tks_codec.proofs.counts.put_next.Goals as goal

pub returns : goal.returns
returns c =
    let x = c.args.counts.now in
    let r = c.put_count-3.result in
    let old = c.args.out.now.items in
    let first = c.put_count.new.out.items in
    let second = c.put_count-2.new.out.items in
    let new = c.put_count-3.new.out.items in
    flattened_then old first new (count.write x.window) (count.write x.binding) (count.write x.timer ∷ []) r (c.in_ok-put_count.ensures) (
    flattened_then first second new (count.write x.binding) (count.write x.timer) [] r (c.in_ok-put_count-2.ensures) (
    flattened_last r second new (count.write x.timer) c.put_count-3.ensures))
