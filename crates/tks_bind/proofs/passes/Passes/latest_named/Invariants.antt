use Rattle.std.proofs.Common.{◌≡◌}
use Rattle.std.specs.FinMap as map
use Rattle.tks_bind.specs.Choosing.{scene_of}
use Rattle.tks_bind.specs.Passes.{trial_of, trials_through, latest}
use Rattle.tks_bind.specs.Tried.{all_tried}
use Rattle.tks_bind.specs.Tagged.{all_listed}
use Rattle.tks_bind.proofs.passes.Passes.latest_named.Given as goal

-- the latest of those so far and those further on is that of all
abbrev pub invariant-loop-name : goal.invariant-loop-name
invariant-loop-name l =
    latest (scene_of l.self.scene) (all_tried l.self) (trial_of l.top) (trial_of l.latest) (trials_through (scene_of l.self.scene) (all_listed l._name-iterator))
    ≡ latest (scene_of l.self.scene) (all_tried l.self) (trial_of l.top) (trial_of l.best) (trials_through (scene_of l.self.scene) (all_listed (map.entries l.lists)))
