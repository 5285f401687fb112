use Rattle.std.proofs.Common.{◌≡◌, map, take}
use Rattle.tks_codec_windows.specs.Places.{content_by}
use Rattle.tks_codec_windows.proofs.placing.packed_in.Given as goal

-- the windows so far
abbrev pub invariant-loop-number : goal.invariant-loop-number
invariant-loop-number l = l.contents.items ≡ map (content_by l.settings) (take l.number-index l.place.contents)
