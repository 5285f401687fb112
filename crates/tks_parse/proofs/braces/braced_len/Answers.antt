use Rattle.std.proofs.Common.{◌≡◌, ◌<◌, false, length, get_or, arith}
use Rattle.tks_parse.specs.Braces.{ends_braces}
use Rattle.tks_parse.proofs.Scans.{braces_go}
use Rattle.tks_parse.proofs.braces.braced_len.Goals as goal

pub braces-preserved : goal.braces-preserved
braces-preserved c =
    let h = c.braces.held in
    let q = c.braces.quoted in
    let i = c.braces.c-index in
    let e : ends_braces h q (get_or c.args.text.now i 0) ≡ false = cc in
    let lt : i < length c.args.text.now = omega arith in
    let s = braces_go c.args.text.now i h q lt e in
    record {
      index = omega arith;
      few = omega (arith, c.held_behind-held.ensures.bound, c.braces.invariant.few);
      so_far = rw (c.held_behind-held.ensures.value, c.quotes-quoted.ensures) (omega (arith, s, c.braces.invariant.so_far));
    }
