-- How the code finds the chosen binding: one pass finds a way that none beats, and a second one looks among those that were
-- set later, and that this way doesn't beat.
use Rattle.std.specs.Prelude.{◌&&◌, not, nat_lt, Bool, true, false, if◌then◌else◌, List, [], ◌∷◌, ◌++◌, Option, Some, None}
use Rattle.std.specs.List.{filter}
use Rattle.tks_event.specs.declared.pattern.Pattern.{Pattern}
use Rattle.tks_bind.specs.declared.binding.Binding.{Binding}
use Rattle.tks_bind.specs.declared.through.Through.{Through}
use Rattle.tks_bind.specs.declared.trial.Trial.{Trial as Held}
use Rattle.tks_bind.specs.Choice.{Way}
use Rattle.tks_bind.specs.Beating.{beats}
use Rattle.tks_bind.specs.Ways.{way_of}
use Rattle.tks_bind.specs.Chosen.{Scene}
use Rattle.tks_bind.specs.Choosing.{meets, way}
use Rattle.tks_bind.specs.Endings.{named, is_under}
use Rattle.tks_bind.specs.Ends.{Ends}

-- a binding, and a way to meet it that is tried
pub record Trial : Type 0 where
  pub binding : Binding
  pub way : Way

-- what contracts see of the code's trials
abbrev pub trial_of : Held → Trial
trial_of t = record { binding = t.binding.now; way = way_of t.way }

abbrev pub trial_in : Option Held → Option Trial
trial_in None = None
trial_in (Some t) = Some (trial_of t)

-- ---- what is tried

-- a binding by its own sequence, or through one of a virtual event
abbrev pub trial_by : Option (List Pattern) → Binding → Trial
trial_by None b = record { binding = b; way = way false b.sequence }
trial_by (Some sequence) b = record { binding = b; way = way true sequence }

abbrev pub trials_by : Option (List Pattern) → List Binding → List Trial
trials_by through [] = []
trials_by through (b ∷ bs) = trial_by through b ∷ trials_by through bs

-- the bindings of the tag for virtual events, each through a sequence
abbrev pub trials_through : Scene → List Through → List Trial
trials_through s [] = []
trials_through s (t ∷ ts) = trials_by (Some t.sequence) (filter (is_under s.tag (named t.name)) s.bindings) ++ trials_through s ts

abbrev pub trials_at : Scene → Ends → List Trial
trials_at s e = trials_by None e.bindings ++ trials_through s e.sequences

-- all that ends in the event, with its detail and without one
abbrev pub trials : Scene → Ends → Ends → List Trial
trials s full bare = trials_at s full ++ trials_at s bare

-- ---- the first pass

abbrev pub beats_top : Option Trial → Trial → Bool
beats_top None t = true
beats_top (Some top) t = beats t.way top.way

-- whether one that is tried is met, and beats the one that none so far beats
abbrev pub is_higher : Scene → Option Trial → Trial → Bool
is_higher s top t = beats_top top t && meets s t.way.sequence

-- one that none beats, of those that are met, and of one more that may be there
abbrev pub highest : Scene → Option Trial → List Trial → Option Trial
highest s top [] = top
highest s top (t ∷ ts) = highest s (if is_higher s top t then Some t else top) ts

-- ---- the second pass

abbrev pub isnt_beaten_by : Option Trial → Trial → Bool
isnt_beaten_by None t = true
isnt_beaten_by (Some top) t = not (beats top.way t.way)

-- whether none of all that is tried is met and beats it
abbrev pub is_unbeaten : Scene → List Trial → Trial → Bool
is_unbeaten s all t = isnt_beaten_by (highest s (Some t) all) t

-- whether one that is tried was set later than the latest so far, and none beats it
abbrev pub is_later : Scene → List Trial → Trial → Trial → Trial → Bool
is_later s all top best t =
    nat_lt best.binding.number t.binding.number && (not (beats top.way t.way) && (meets s t.way.sequence && is_unbeaten s all t))

-- the latest of those that none beats, of the best one and those that are still to be tried
abbrev pub latest : Scene → List Trial → Trial → Trial → List Trial → Trial
latest s all top best [] = best
latest s all top best (t ∷ ts) = latest s all top (if is_later s all top best t then t else best) ts

-- ---- both

abbrev pub latest_from : Scene → List Trial → Option Trial → Option Binding
latest_from s all None = None
latest_from s all (Some top) = Some (latest s all top top all).binding

abbrev pub found : Scene → List Trial → Option Binding
found s all = latest_from s all (highest s None all)
