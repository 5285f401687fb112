use Rattle.std.proofs.Common.{arith}
use Rattle.std.specs.Prelude.{map}
use Rattle.std.proofs.lemmas.List.{length-map}
use Rattle.tks_pack.specs.declared.packing.Content.{Content}
use Rattle.tks_codec_windows.proofs.Sizes.{numbers_size}
use Rattle.tks_codec_windows.proofs.contents.contents_length.Goals as goal

pub returns : goal.returns
returns c =
    let window = λ (c : Content). c.window in
    let cs = c.args.packing.now.contents in
    omega (arith, numbers_size (map window cs), length-map cs window, c.len.ensures.value, c.len.ensures.short)
