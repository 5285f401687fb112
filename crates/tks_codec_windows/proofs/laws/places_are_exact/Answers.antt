use Rattle.tks_codec_windows.proofs.OfPlaces.{placed_again, placed_from}
use Rattle.tks_codec_windows.proofs.laws.places_are_exact.Goals as goal

pub returns-clause-again : goal.returns-clause-again
returns-clause-again c = placed_again

pub returns-clause-only : goal.returns-clause-only
returns-clause-only c = placed_from
