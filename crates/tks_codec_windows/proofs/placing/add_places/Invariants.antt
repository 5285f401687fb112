use Rattle.std.proofs.Common.{◌≡◌, drop}
use Rattle.tks_codec_windows.specs.Places.{with_places}
use Rattle.tks_codec_windows.proofs.placing.add_places.Given as goal

-- the others decide
abbrev pub invariant-loop-place : goal.invariant-loop-place
invariant-loop-place l = with_places l.tree (drop l.place-index l.places) ≡ with_places l.fn.tree l.fn.places
