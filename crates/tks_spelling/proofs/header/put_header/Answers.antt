use Rattle.std.proofs.Common.{rules, arith, ◌++◌, ◌∙◌, ap}
use Rattle.std.specs.Int.{w16, w64, to_be_bytes}
use Rattle.std.proofs.lemmas.Result.{err_from_is_err_and}
use Rattle.tks_spelling.specs.Header.{names}
use Rattle.tks_spelling.proofs.Headers.{header_of}
use Rattle.tks_spelling.proofs.Puts.{put_refused, three_pieces, four_pieces, five_pieces}
use Rattle.tks_spelling.proofs.header.put_header.Goals as goal

pub returns-in_err-put_names-clause-puts : goal.returns-in_err-put_names-clause-puts
returns-in_err-put_names-clause-puts c =
    let h = c.args.header.now in
    let p = err_from_is_err_and c.from_residual-in_err-put_names.result c.from_residual-in_err-put_names.ensures.1 in
    rw p.1 (put_refused c.args.out.now.items (to_be_bytes w64 h.generation ++ (to_be_bytes w16 h.grid.width ++ to_be_bytes w16 h.grid.height)) c.put_u16-2.new.out.items c.put_names.new.out.items
    (rw (c.in_ok-put_u16-2.ensures, c.height.ensures, c.in_ok-put_u16.ensures, c.width.ensures.value, c.in_ok-put_u64.ensures) (three_pieces c.args.out.now.items (to_be_bytes w64 h.generation) (to_be_bytes w16 h.grid.width) (to_be_bytes w16 h.grid.height)))
    c.in_err-put_names.ensures.puts)

pub returns-in_err-put_u64-2-clause-puts : goal.returns-in_err-put_u64-2-clause-puts
returns-in_err-put_u64-2-clause-puts c =
    let h = c.args.header.now in
    let p = err_from_is_err_and c.from_residual-in_err-put_u64-2.result c.from_residual-in_err-put_u64-2.ensures.1 in
    rw p.1 (put_refused c.args.out.now.items (to_be_bytes w64 h.generation ++ (to_be_bytes w16 h.grid.width ++ (to_be_bytes w16 h.grid.height ++ names.write h.names))) c.put_names.new.out.items c.put_u64-2.new.out.items
    (c.in_ok-put_names.ensures.puts ∙ rw (c.in_ok-put_u16-2.ensures, c.height.ensures, c.in_ok-put_u16.ensures, c.width.ensures.value, c.in_ok-put_u64.ensures) (four_pieces c.args.out.now.items (to_be_bytes w64 h.generation) (to_be_bytes w16 h.grid.width) (to_be_bytes w16 h.grid.height) (names.write h.names)))
    c.in_err-put_u64-2.ensures)

pub returns-clause-puts : goal.returns-clause-puts
returns-clause-puts c =
    let h = c.args.header.now in
    c.in_ok-put_u64-2.ensures ∙ ap (λ x. x ++ to_be_bytes w64 h.world_length) c.in_ok-put_names.ensures.puts
    ∙ rw (c.in_ok-put_u16-2.ensures, c.height.ensures, c.in_ok-put_u16.ensures, c.width.ensures.value, c.in_ok-put_u64.ensures)
    (five_pieces c.args.out.now.items (to_be_bytes w64 h.generation) (to_be_bytes w16 h.grid.width) (to_be_bytes w16 h.grid.height) (names.write h.names) (to_be_bytes w64 h.world_length))

pub returns-clause-legal : goal.returns-clause-legal
returns-clause-legal c = λ g. header_of c.args.header.now (search (rules, arith)) g c.in_ok-put_names.ensures.legal (search (rules, arith))
