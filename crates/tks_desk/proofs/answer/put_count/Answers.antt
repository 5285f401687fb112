use Rattle.std.proofs.Common.{codes, decimal, ◌∷◌, []}
use Rattle.tks_desk.proofs.Writes.{exit, flattened_last, flattened_longer, flattened_then}
use Rattle.tks_desk.proofs.answer.put_count.Goals as goal

pub returns-in_err-put_number : goal.returns-in_err-put_number
returns-in_err-put_number g c =
    let failed = c.from_residual-in_err-put_number.ensures in
    flattened_then _ _ _ c.args.front.now (decimal c.args.count ∷ codes "\n" ∷ []) _ c.in_ok-put.ensures
    (flattened_longer _ _ _ (decimal c.args.count) (codes "\n" ∷ []) failed.0 (exit _ _ _ _ _ failed.1 c.in_err-put_number.ensures))

pub returns : goal.returns
returns g c =
    flattened_then _ _ _ c.args.front.now (decimal c.args.count ∷ codes "\n" ∷ []) c.put_last.result c.in_ok-put.ensures
    (flattened_then _ _ _ (decimal c.args.count) (codes "\n" ∷ []) c.put_last.result c.in_ok-put_number.ensures (flattened_last _ _ _ (codes "\n") c.put_last.ensures))
