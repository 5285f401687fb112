use Rattle.std.proofs.Common.{[], ◌∷◌, sym, subst}
use Rattle.std.specs.Int.{w64, to_be_bytes}
use Rattle.tks_spelling.specs.Writing.{PutsSo}
use Rattle.tks_spelling.proofs.Puts.{put_behind}
use Rattle.tks_codec.specs.Ends.{press}
use Rattle.tks_codec.proofs.ends.put_press.Goals as goal

pub returns-in_ok-put_presence-in-Some-clause-puts : goal.returns-in_ok-put_presence-in-Some-clause-puts
returns-in_ok-put_presence-in-Some-clause-puts c =
    let r = c.put_u64.result in
    let old = c.args.out.now.items in
    let mid = c.put_presence-in-Some.new.out.items in
    let new = c.put_u64.new.out.items in
    let number = subst (λ n. PutsSo r mid new (to_be_bytes w64 n)) c.number.ensures c.put_u64.ensures in
    subst (λ o. PutsSo r old new (press.write o)) (sym c.in-Some.is) (put_behind r old (1 ∷ []) mid (to_be_bytes w64 c.in-Some.window) new (c.in_ok-put_presence-in-Some.ensures) number)
