use Rattle.std.proofs.Common.{None, refl}
use Rattle.tks_spelling.proofs.Loop.{last_at}
use Rattle.tks_spelling.proofs.names.is_behind.Goals as goal

pub returns-in-len1-up : goal.returns-in-len1-up
returns-in-len1-up c =
    let last = last_at None c.args.names.now c.last-item.result c.in-len1-up.len_at_least c.last-item.is in
    rw (last, c.is_lt.ensures, c.cmp.ensures, c.as_bytes.ensures.value, c.as_bytes-in-len1-up.ensures.value) refl
