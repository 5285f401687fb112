use Rattle.std.proofs.Common.{rules, ◌≡◌, ◌-◌, Some, length, slice_get, refl, arith}
use Rattle.tks_bind.proofs.Noting.{clean, none_in_clean, last_told}
use Rattle.tks_bind.proofs.search.last_row.Goals as goal

pub returns : goal.returns
returns c =
    let history = c.args.history.now in
    let size : length clean ≡ 32 = refl in
    let stands : slice_get history (length history - 1) ≡ Some c.at.result.now = search rules in
    rw c.len-last.ensures.value (last_told clean c.args.pattern.now history c.at.result.now c.fits.result (omega (arith, size, c.requires, c.len-last.ensures.within)) c.requires stands c.fits.ensures none_in_clean)
