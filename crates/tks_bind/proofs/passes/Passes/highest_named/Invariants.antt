use Rattle.std.proofs.Common.{◌≡◌}
use Rattle.std.specs.FinMap as map
use Rattle.tks_bind.specs.Choosing.{scene_of}
use Rattle.tks_bind.specs.Passes.{trial_in, trials_through, highest}
use Rattle.tks_bind.specs.Tagged.{all_listed}
use Rattle.tks_bind.proofs.passes.Passes.highest_named.Given as goal

-- the highest of those so far and those further on is that of all
abbrev pub invariant-loop-name : goal.invariant-loop-name
invariant-loop-name l =
    highest (scene_of l.self.scene) (trial_in l.highest) (trials_through (scene_of l.self.scene) (all_listed l._name-iterator))
    ≡ highest (scene_of l.self.scene) (trial_in l.top) (trials_through (scene_of l.self.scene) (all_listed (map.entries l.lists)))
