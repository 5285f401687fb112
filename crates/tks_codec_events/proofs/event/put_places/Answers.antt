use Rattle.std.proofs.Common.{rules, [], ◌∷◌, FitsSigned}
use Rattle.std.specs.Int.{w64}
use Rattle.std.proofs.lemmas.Result.{err_from_is_err_and}
use Rattle.tks_spelling.specs.Spelling.{signed}
use Rattle.tks_spelling.proofs.Puts.{put_refused, flattened_then, flattened_last}
use Rattle.tks_codec_events.proofs.Eventful.{as_read, as_put}
use Rattle.tks_codec_events.proofs.event.put_places.Goals as goal

pub returns-in_err-put_i64-2-clause-puts : goal.returns-in_err-put_i64-2-clause-puts
returns-in_err-put_i64-2-clause-puts c =
    let p = err_from_is_err_and c.from_residual-in_err-put_i64-2.result c.from_residual-in_err-put_i64-2.ensures.1 in
    rw p.1 (put_refused c.args.out.now.items _ c.put_i64.new.out.items c.put_i64-2.new.out.items c.in_ok-put_i64.ensures c.in_err-put_i64-2.ensures)

pub returns-in_err-put_i64-3-clause-puts : goal.returns-in_err-put_i64-3-clause-puts
returns-in_err-put_i64-3-clause-puts c =
    let p = err_from_is_err_and c.from_residual-in_err-put_i64-3.result c.from_residual-in_err-put_i64-3.ensures.1 in
    let second = put_refused c.put_i64.new.out.items _ c.put_i64-2.new.out.items c.put_i64-3.new.out.items c.in_ok-put_i64-2.ensures c.in_err-put_i64-3.ensures in
    rw p.1 (put_refused c.args.out.now.items _ c.put_i64.new.out.items c.put_i64-3.new.out.items c.in_ok-put_i64.ensures second)

pub returns-clause-puts : goal.returns-clause-puts
returns-clause-puts c =
    let e = c.args.event.now in
    let r = c.put_i64-4.result in
    let old = c.args.out.now.items in
    let first = c.put_i64.new.out.items in
    let second = c.put_i64-2.new.out.items in
    let third = c.put_i64-3.new.out.items in
    let new = c.put_i64-4.new.out.items in
    let x = (signed w64).write e.x in
    let y = (signed w64).write e.y in
    let root_x = (signed w64).write e.root_x in
    let root_y = (signed w64).write e.root_y in
    let x_fits : FitsSigned w64 e.x = search rules in
    let y_fits : FitsSigned w64 e.y = search rules in
    let root_x_fits : FitsSigned w64 e.root_x = search rules in
    let root_y_fits : FitsSigned w64 e.root_y = search rules in
    flattened_then old first new x y (root_x ∷ root_y ∷ []) r (as_read old first e.x x_fits c.in_ok-put_i64.ensures) (
    flattened_then first second new y root_x (root_y ∷ []) r (as_read first second e.y y_fits c.in_ok-put_i64-2.ensures) (
    flattened_then second third new root_x root_y [] r (as_read second third e.root_x root_x_fits c.in_ok-put_i64-3.ensures) (
    flattened_last r third new root_y (as_put r third new e.root_y root_y_fits c.put_i64-4.ensures))))
