use Rattle.std.proofs.Common.{◌≡◌, drop}
use Rattle.tks_codec_windows.specs.Places.{are_packed}
use Rattle.tks_codec_windows.proofs.placing.are_packed.Given as goal

-- the others decide
abbrev pub invariant-loop-place : goal.invariant-loop-place
invariant-loop-place l = are_packed l.packings (drop l.place-index l.places) ≡ are_packed l.fn.packings l.fn.places
