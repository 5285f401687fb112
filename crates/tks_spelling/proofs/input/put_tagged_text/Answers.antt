use Rattle.std.proofs.Common.{◌∷◌, []}
use Rattle.std.proofs.lemmas.Result.{err_from_is_err_and}
use Rattle.tks_spelling.proofs.Puts.{put_refused}
use Rattle.tks_spelling.proofs.input.put_tagged_text.Goals as goal

pub returns-in_err-put_text-clause-puts : goal.returns-in_err-put_text-clause-puts
returns-in_err-put_text-clause-puts c =
    let p = err_from_is_err_and c.from_residual-in_err-put_text.result c.from_residual-in_err-put_text.ensures.1 in
    rw p.1 (put_refused c.args.out.now.items (c.args.tag ∷ []) c.put_u8.new.out.items c.put_text.new.out.items c.in_ok-put_u8.ensures c.in_err-put_text.ensures.puts)
