use Rattle.std.proofs.Common.{◌≡◌, ℕ, drop}
use Rattle.std.specs.BTreeMap.{get}
use Rattle.std.specs.Ordering.{nat_cmp}
use Rattle.tks_codec_windows.specs.Places.{settings_of}
use Rattle.tks_codec_windows.proofs.ByNumber.{or_said}
use Rattle.tks_codec_windows.proofs.packed.settings_by_number.Given as goal

-- those so far, and then the others
abbrev pub invariant-loop-place : goal.invariant-loop-place
invariant-loop-place l = (n : ℕ) → or_said (get nat_cmp l.settings n) (settings_of (drop l.place-index l.places) n) ≡ settings_of l.fn.places n
