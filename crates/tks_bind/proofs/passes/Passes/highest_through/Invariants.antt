use Rattle.std.proofs.Common.{◌≡◌, drop}
use Rattle.tks_bind.specs.Choosing.{scene_of}
use Rattle.tks_bind.specs.Passes.{trial_in, trials_through, highest}
use Rattle.tks_bind.proofs.passes.Passes.highest_through.Given as goal

-- the highest of those so far and those further on is that of all
abbrev pub invariant-loop-held : goal.invariant-loop-held
invariant-loop-held l =
    highest (scene_of l.self.scene) (trial_in l.highest) (trials_through (scene_of l.self.scene) (drop l.held-index l.sequences))
    ≡ highest (scene_of l.self.scene) (trial_in l.top) (trials_through (scene_of l.self.scene) l.sequences)
