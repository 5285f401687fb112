use Rattle.std.proofs.Common.{◌≡◌, drop, option_copied}
use Rattle.tks_bind.specs.Choosing.{scene_of}
use Rattle.tks_bind.specs.Passes.{trial_of, trials_by, latest}
use Rattle.tks_bind.specs.Tried.{all_tried}
use Rattle.tks_bind.proofs.passes.Passes.latest_by.Given as goal

-- the latest of those so far and those further on is that of all
abbrev pub invariant-loop-binding : goal.invariant-loop-binding
invariant-loop-binding l =
    latest (scene_of l.self.scene) (all_tried l.self) (trial_of l.top) (trial_of l.latest) (trials_by (option_copied l.through) (drop l.binding-index l.bindings))
    ≡ latest (scene_of l.self.scene) (all_tried l.self) (trial_of l.top) (trial_of l.best) (trials_by (option_copied l.through) l.bindings)
