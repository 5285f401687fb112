use Rattle.std.proofs.Common.{◌≡◌, drop}
use Rattle.tks_bind.specs.Choosing.{scene_of}
use Rattle.tks_bind.specs.Passes.{trial_of, trials_through, latest}
use Rattle.tks_bind.specs.Tried.{all_tried}
use Rattle.tks_bind.proofs.passes.Passes.latest_through.Given as goal

-- the latest of those so far and those further on is that of all
abbrev pub invariant-loop-held : goal.invariant-loop-held
invariant-loop-held l =
    latest (scene_of l.self.scene) (all_tried l.self) (trial_of l.top) (trial_of l.latest) (trials_through (scene_of l.self.scene) (drop l.held-index l.sequences))
    ≡ latest (scene_of l.self.scene) (all_tried l.self) (trial_of l.top) (trial_of l.best) (trials_through (scene_of l.self.scene) l.sequences)
