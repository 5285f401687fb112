-- A window's widget to which something is done.
use Rattle.std.proofs.Common.{◌≡◌, ℕ, Bool, true, false, cond, if◌then◌else◌, List, [], ◌∷◌, Option, Some, None, position, Result, Ok, Err, refl, sym, ap, subst, ◌∙◌}
use Rattle.std.specs.Prelude.{map, OnErr, IfSome}
use Rattle.tks_text.specs.Fault.{Gives}
use Rattle.tks_text.specs.declared.fault.ScriptFault.{ScriptFault}
use Rattle.tks_text.specs.declared.fault.Failure.{Failure}
use Rattle.tks_text.specs.declared.fault.Failure.TheVariants as failure
use Rattle.tks_opt.specs.Options.{after}
use Rattle.tks_opt.specs.declared.said.Said.{Said}
use Rattle.tks_opt.specs.declared.said.Said.TheVariants.{Text}
use Rattle.tks_share.specs.Lists.{IsChangedAt}
use Rattle.tks_state.specs.Windows.{kept_of, on_kept, replaced, with_widget, with_widget_at, done_at}
use Rattle.tks_state.specs.Windows as windows
use Rattle.tks_state.specs.Windows.{Windows}
use Rattle.tks_state.specs.World as worlds
use Rattle.tks_state.specs.World.{World, windows_of, with_windows}
use Rattle.tks_tree.specs.Windows as tree
use Rattle.tks_state.specs.WellFormed.{mark_of, AllPackChildren}
use Rattle.tks_state.specs.Asking.{AsksSo, changed, changed_at}
use Rattle.tks_state.specs.Calling.{IsDone}
use Rattle.tks_state.specs.declared.asking.Asked.{Asked}
use Rattle.tks_state.specs.declared.asking.Asked.TheVariants as asked
use Rattle.tks_state.specs.declared.kept.Kept.{Kept}
use Rattle.tks_state.specs.declared.widget.Widget.{Widget}
use Rattle.tks_state.proofs.Children.{widget_packs}
use Rattle.tks_state.proofs.Places.{is, got, put_there, same_marks}

-- what is kept of a window in its own place
replaced_by_itself : (window : ℕ) (k : Kept) (kept : List Kept) → kept_of kept window ≡ Some k → replaced window k kept ≡ kept
replaced_by_itself window k [] there = refl
replaced_by_itself window k (first ∷ kept) there = by (is window first) there (replaced_by_itself window k kept)
  where
    with_first : Option Kept → List Kept
    with_first None = k ∷ kept
    with_first (Some x) = x ∷ kept

    by : (b : Bool) → cond b (Some first) (kept_of kept window) ≡ Some k → (kept_of kept window ≡ Some k → replaced window k kept ≡ kept)
        → (if b then k ∷ kept else first ∷ replaced window k kept) ≡ first ∷ kept
    by true there rest = sym (ap with_first there)
    by false there rest = ap (λ ks. first ∷ ks) (rest there)

-- where no window has the number, nothing is said
pub done_nowhere : (window : ℕ) (does : Widget → Result (Said × Widget) ScriptFault) (kept : List Kept) → kept_of kept window ≡ None → done_at kept window does ≡ Ok (Text [], kept)
done_nowhere window does kept none = ap (λ o. on_kept o (Ok (Text [], kept)) (λ k. after (does k.widget) (λ x. Ok (x.0, with_widget_at kept window x.1)))) none

-- what its widget is asked, of all that is kept
pub asked_of_all : (window : ℕ) (does : Widget → Result (Said × Widget) ScriptFault) (kept : List Kept) (k : Kept) → kept_of kept window ≡ Some k → (answer : Result Asked Failure)
    → AsksSo (λ c. changed c k.widget) answer (does k.widget) k.widget → AsksSo (changed_at kept window) answer (done_at kept window does) kept
asked_of_all window does kept k there answer g = by answer g
  where
    next : Said × Widget → Result (Said × List Kept) ScriptFault
    next x = Ok (x.0, with_widget_at kept window x.1)

    was : (d : Widget → Result (Said × Widget) ScriptFault) → done_at kept window d ≡ after (d k.widget) next
    was d = ap (λ o. on_kept o (Ok (Text [], kept)) (λ j. after (d j.widget) next)) there

    same : with_widget_at kept window k.widget ≡ kept
    same = ap (λ o. on_kept o kept (λ j. replaced window (with_widget j k.widget) kept)) there ∙ replaced_by_itself window k kept there

    by : (a : Result Asked Failure) → AsksSo (λ c. changed c k.widget) a (does k.widget) k.widget → AsksSo (changed_at kept window) a (done_at kept window does) kept
    by (Ok (asked.Said said)) e = was does ∙ ap (λ r. after r next) e ∙ ap (λ ks. Ok (said, ks)) same
    by (Ok (asked.Changes c)) e = was does ∙ ap (λ r. after r next) e ∙ sym (was (changed c))
    by (Err (failure.Script fault)) e = was does ∙ ap (λ r. after r next) e
    by (Err failure.NoMemory) e = tt

module _ (window : ℕ) (does : Widget → Result (Said × Widget) ScriptFault) (old new : List Kept) (place : ℕ) (answer : Result Said Failure)
    (there : Some place ≡ position (is window) old) (c : IsChangedAt (IsDone does) place old new answer) where
  kept_before : kept_of old window ≡ Some c.before
  kept_before = sym (got window old place there) ∙ c.found

  now : new ≡ replaced window c.after old
  now = c.now ∙ put_there window c.after old place there

  pub done_there : Gives (λ said. (said, new)) answer (done_at old window does)
  done_there = by answer c.given.value
    where
      Rest : Kept → Result (Said × List Kept) ScriptFault
      Rest k = after (does k.widget) (λ x. Ok (x.0, with_widget_at old window x.1))

      was : (r : Result (Said × Widget) ScriptFault) → does c.before.widget ≡ r → done_at old window does ≡ after r (λ x. Ok (x.0, with_widget_at old window x.1))
      was r e = ap (λ o. on_kept o (Ok (Text [], old)) Rest) kept_before ∙ ap (λ s. after s (λ x. Ok (x.0, with_widget_at old window x.1))) e

      changed : with_widget_at old window c.after.widget ≡ new
      changed =
          ap (λ o. on_kept o old (λ k. replaced window (with_widget k c.after.widget) old)) kept_before
          ∙ ap (λ k. replaced window k old) (sym c.given.others)
          ∙ sym now

      by : (a : Result Said Failure) → Gives (λ said. (said, c.after.widget)) a (does c.before.widget) → Gives (λ said. (said, new)) a (done_at old window does)
      by (Ok said) e = was _ e ∙ ap (λ ks. Ok (said, ks)) changed
      by (Err (failure.Script fault)) e = was _ e
      by (Err failure.NoMemory) e = tt

  pub marks_stay : map mark_of new ≡ map mark_of old
  marks_stay =
      ap (map mark_of) now
      ∙ same_marks window c.after old (subst (λ o. IfSome o (λ k. mark_of c.after ≡ mark_of k)) (sym kept_before) same)
    where
      same : mark_of c.after ≡ mark_of c.before
      same i = (ap (λ (k : Kept). k.window) c.given.others i, c.given.class i)

  pub undone : OnErr answer (new ≡ old)
  undone = by answer c.given.err
    where
      by : (a : Result Said Failure) → OnErr a (c.after ≡ c.before) → OnErr a (new ≡ old)
      by (Ok said) e = tt
      by (Err why) e = now ∙ ap (λ k. replaced window k old) e ∙ replaced_by_itself window c.before old kept_before

-- what is packed stands as it stood
pub done_packs : (t : tree.Windows) (window : ℕ) (does : Widget → Result (Said × Widget) ScriptFault) (said : Said) (old new : List Kept) → done_at old window does ≡ Ok (said, new)
    → AllPackChildren t old → AllPackChildren t new
done_packs t window does said old new was all = by (kept_of old window) was
  where
    Rest : Kept → Result (Said × List Kept) ScriptFault
    Rest k = after (does k.widget) (λ x. Ok (x.0, with_widget_at old window x.1))

    new_of : Result (Said × List Kept) ScriptFault → List Kept
    new_of (Ok x) = x.1
    new_of (Err fault) = old

    done_by : (r : Result (Said × Widget) ScriptFault) → after {Y = Said × List Kept} r (λ x. Ok (x.0, with_widget_at old window x.1)) ≡ Ok (said, new) → AllPackChildren t new
    done_by (Ok x) e = subst (AllPackChildren t) (ap new_of e) (widget_packs t old window x.1 all)
    done_by (Err fault) e = absurd cc

    by : (o : Option Kept) → on_kept o (Ok (Text [], old)) Rest ≡ Ok (said, new) → AllPackChildren t new
    by None e = subst (AllPackChildren t) (ap new_of e) all
    by (Some k) e = done_by (does k.widget) e

-- what is said of all windows is said of the world
pub called_in_world : (v w : World) (window : ℕ) (words : List (List ℕ)) (said : Said) (new : Windows) → v ≡ w → windows.called (windows_of v) window words ≡ Ok (said, new)
    → worlds.called w window words ≡ Ok (said, with_windows v new)
called_in_world v w window words said new same made = ap (λ (u : World). worlds.called u window words) (sym same) ∙ ap (λ r. after r (λ (x : Said × Windows). Ok (x.0, with_windows v x.1))) made
