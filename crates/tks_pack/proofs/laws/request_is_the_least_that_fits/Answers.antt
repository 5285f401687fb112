use Rattle.tks_pack.proofs.Sized.{least_that_fits}
use Rattle.tks_pack.proofs.laws.request_is_the_least_that_fits.Goals as goal

pub returns : goal.returns
returns c = least_that_fits
