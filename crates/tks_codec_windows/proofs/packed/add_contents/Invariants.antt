use Rattle.std.proofs.Common.{◌≡◌, ℕ}
use Rattle.std.specs.BTreeMap.{get}
use Rattle.std.specs.Ordering.{nat_cmp}
use Rattle.tks_codec_windows.specs.Places.{or_else, settings_in}
use Rattle.tks_codec_windows.proofs.packed.add_contents.Given as goal

-- those so far, and then the others
abbrev pub invariant-loop-content : goal.invariant-loop-content
invariant-loop-content l = (n : ℕ) → or_else (get nat_cmp l.packed n) (settings_in l.content-iterator n) ≡ or_else (get nat_cmp l.fn.packed n) (settings_in l.fn.contents n)
