use Rattle.tks_pack.proofs.Fitting.{most_that_fits}
use Rattle.tks_pack.proofs.laws.share_is_the_most_that_fits.Goals as goal

pub returns : goal.returns
returns c = most_that_fits
