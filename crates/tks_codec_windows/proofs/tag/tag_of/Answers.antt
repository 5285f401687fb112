use Rattle.std.proofs.Common.{None, sym, subst, arith}
use Rattle.tks_lines.specs.Ranges.{AreRanges}
use Rattle.tks_codec_windows.specs.Lines.{ranges_at}
use Rattle.tks_codec_windows.proofs.OfLines.{read_ranges}
use Rattle.tks_codec_windows.proofs.tag.tag_of.Goals as goal

pub of_ranges-requires : goal.of_ranges-requires
unfolding ranges_at
of_ranges-requires c =
    (c.requires, subst (AreRanges c.args.len None) (sym c.as_slice.ensures.value) (read_ranges c.args.len c.args.bytes.now c.in_ok-name.name c.in_ok-name.rest.now c.in_ok-ranges.ranges c.in_ok-ranges.rest.now (λ i. omega (arith, c.type_inv.bytes i)) c.in_ok-name.ensures c.in_ok-ranges.ensures))
