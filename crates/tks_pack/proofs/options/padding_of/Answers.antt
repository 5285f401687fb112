use Rattle.std.proofs.Common.{sym}
use Rattle.tks_pack.specs.Padding.{max_padding}
use Rattle.tks_pack.proofs.Padded.{within}
use Rattle.tks_pack.proofs.options.padding_of.Goals as goal

pub of-requires : goal.of-requires
of-requires c = within 0 max_padding c.args.value.now c.in-Some.cells (sym c.in-Some.ensures)
