use Rattle.tks_pack.proofs.Sized.{have_sizes}
use Rattle.tks_pack.proofs.laws.windows_have_their_sizes.Goals as goal

pub returns : goal.returns
returns c = have_sizes
