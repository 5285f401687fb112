use Rattle.std.proofs.Common.{◌≡◌, map, take}
use Rattle.tks_codec_windows.specs.Places.{packed_by}
use Rattle.tks_codec_windows.proofs.placing.packings_in.Given as goal

-- those of the places so far
abbrev pub invariant-loop-place : goal.invariant-loop-place
invariant-loop-place l = l.packings.items ≡ map (packed_by l.settings) (take l.place-index l.places)
