use Rattle.std.proofs.Common.{None, length, get_or, ◌-◌, sym, ap, arith}
use Rattle.std.proofs.lemmas.List.{get_or_default}
use Rattle.tks_lines.specs.Ranges.{is_behind}
use Rattle.tks_spelling.proofs.Loop.{last_at}
use Rattle.tks_codec_windows.proofs.range_list.may_begin.Goals as goal

pub returns-in-len1-up : goal.returns-in-len1-up
returns-in-len1-up c =
    let xs = c.args.ranges.now in
    let i = length xs - 1 in
    let x = get_or xs i (record { first = 0; last = 0 }) in
    let some = c.in-len1-up.len_at_least in
    ap (λ o. is_behind o c.args.first) (sym (last_at None xs x some (get_or_default xs i (record { first = 0; last = 0 }) x (omega (arith, some)))))
