use Rattle.std.proofs.Common.{◌≡◌, drop, option_copied}
use Rattle.tks_bind.specs.Choosing.{scene_of}
use Rattle.tks_bind.specs.Passes.{trial_in, trials_by, highest}
use Rattle.tks_bind.proofs.passes.Passes.highest_by.Given as goal

-- the highest of those so far and those further on is that of all
abbrev pub invariant-loop-binding : goal.invariant-loop-binding
invariant-loop-binding l =
    highest (scene_of l.self.scene) (trial_in l.highest) (trials_by (option_copied l.through) (drop l.binding-index l.bindings))
    ≡ highest (scene_of l.self.scene) (trial_in l.top) (trials_by (option_copied l.through) l.bindings)
