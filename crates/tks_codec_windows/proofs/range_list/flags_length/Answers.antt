use Rattle.std.proofs.Common.{◌≡◌, None, length, ap, arith}
use Rattle.tks_lines.specs.Ranges.{ranges_of}
use Rattle.tks_codec_windows.proofs.Sizes.{ranges_size}
use Rattle.tks_codec_windows.proofs.range_list.flags_length.Goals as goal

pub returns : goal.returns
returns c =
    let on = c.args.flags.now in
    let count : length c.ranges-2.result.now ≡ length (ranges_of on) = ap length c.ranges-2.ensures.value in
    omega (arith, count, ranges_size (length on) None (ranges_of on), c.ranges-2.ensures.short)
