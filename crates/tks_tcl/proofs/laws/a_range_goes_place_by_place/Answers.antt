use Rattle.tks_tcl.proofs.Listing.{by_place}
use Rattle.tks_tcl.proofs.laws.a_range_goes_place_by_place.Goals as goal

pub returns : goal.returns
returns c = by_place
