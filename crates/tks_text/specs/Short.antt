-- Lengths (this project's own rule): in a world's bytes a length has four, so no text and no list that is kept is longer.
use Rattle.std.specs.Prelude.{◌<◌, ◌^◌, List, length}

abbrev pub IsShort : {T : Type 0} → List T → Type 0
IsShort xs = length xs < 2 ^ 32
