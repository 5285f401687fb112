-- The scripts of tags, front by front.
use Rattle.std.proofs.Common.{◌≡◌, ℕ, List, [], ◌∷◌, ◌++◌, append_assoc, append-nil, Result, Ok, Err, refl, sym, ap, ◌∙◌}
use Rattle.tks_text.specs.declared.limits.Limits.{Limits}
use Rattle.tks_tcl.specs.Cause.{Cause, after}
use Rattle.tks_tcl.specs.declared.stop.Stop.{Stop}
use Rattle.tks_tcl.specs.declared.stop.Stop.TheVariants as stop
use Rattle.tks_event.specs.Event.{Event}
use Rattle.tks_state.specs.World.{World}
use Rattle.tks_cmd.specs.Dispatch.{with_more, tag_script, tag_scripts}
use Rattle.tks_cmd.specs.Meets.{StopsSo}

-- nothing is in front
pub begins : (r : Result (List (List ℕ)) Cause) → with_more [] r ≡ r
begins (Ok more) = refl
begins (Err cause) = refl

-- nothing comes behind
pub none_more : (front : List (List ℕ)) → with_more front (Ok []) ≡ Ok front
none_more front = ap {B = Result (List (List ℕ)) Cause} Ok (append-nil front)

-- more, and more behind that
twice : (front one : List (List ℕ)) (r : Result (List (List ℕ)) Cause) → with_more front (with_more one r) ≡ with_more (front ++ one) r
twice front one (Ok more) = ap {B = Result (List (List ℕ)) Cause} Ok (sym (append_assoc front one more))
twice front one (Err cause) = refl

abbrev list_in : List (List ℕ) → Result (List (List ℕ)) Cause → List (List ℕ)
list_in none (Ok scripts) = scripts
list_in none (Err cause) = none

behind_first : (front behind : List (List ℕ)) (r rest : Result (List (List ℕ)) Cause) → with_more front r ≡ Ok behind
    → with_more front (after r (λ one. with_more one rest)) ≡ with_more behind rest
behind_first front behind (Ok one) rest e = twice front one rest ∙ ap (λ s. with_more s rest) (ap (list_in behind) e)
behind_first front behind (Err cause) rest e = absurd cc

module _ (limits : Limits) (w : World) (e : Event) (path : List ℕ) where
  -- the scripts of a tag more in front
  pub goes : (front behind : List (List ℕ)) (tag : List ℕ) (tags : List (List ℕ)) → with_more front (tag_script limits w e path tag) ≡ Ok behind
      → with_more front (tag_scripts limits w e path (tag ∷ tags)) ≡ with_more behind (tag_scripts limits w e path tags)
  goes front behind tag tags h = behind_first front behind (tag_script limits w e path tag) (tag_scripts limits w e path tags) h

  -- a tag whose script passes a limit
  pub fails : (front : List (List ℕ)) (tag : List ℕ) (tags : List (List ℕ)) (why : Stop) → StopsSo why (with_more front (tag_script limits w e path tag))
      → StopsSo why (with_more front (tag_scripts limits w e path (tag ∷ tags)))
  fails front tag tags why h = by (tag_script limits w e path tag) why h
    where
      by : (r : Result (List (List ℕ)) Cause) (why : Stop) → StopsSo why (with_more front r)
          → StopsSo why (with_more front (after r (λ one. with_more one (tag_scripts limits w e path tags))))
      by r stop.NoMemory h = tt
      by r stop.Budget h = absurd h
      by r stop.Depth h = absurd h
      by (Ok one) stop.TooLarge h = absurd cc
      by (Err cause) stop.TooLarge h = h
