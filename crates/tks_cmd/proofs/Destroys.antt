-- Destroying the window of a path other than that of `.` is no error.
use Rattle.std.proofs.Common.{◌≡◌, ℕ, ◌==◌, Bool, true, false, not, if◌then◌else◌, List, Option, Some, None, Ok, Err, refl, sym, ap, ◌∙◌, true≢false}
use Rattle.tks_text.specs.Text.{same_text}
use Rattle.tks_text.specs.declared.fault.ErrorNumber.TheVariants.{NotAllowedOnRoot}
use Rattle.tks_opt.specs.Options.{after}
use Rattle.tks_tree.specs.Path.{root_path}
use Rattle.tks_tree.specs.Windows.{Window, of_path, on_window}
use Rattle.tks_tree.specs.Windows as tree
use Rattle.tks_tree.specs.WellFormed.{WellFormed}
use Rattle.tks_tree.proofs.Parents.{not_first}
use Rattle.tks_state.specs.Windows as windows
use Rattle.tks_state.specs.World.{World, windows_of, with_left, without, destroyed}
use Rattle.tks_cmd.specs.Windows.{is_other, without_path}

other_text : (path : List ℕ) → is_other path ≡ true → same_text path root_path ≡ false
other_text path h = by (same_text path root_path) h
  where
    by : (b : Bool) → not b ≡ true → b ≡ false
    by false h = refl
    by true h = absurd (true≢false (sym h))

-- a window other than the first is destroyed
not_refused : (w : World) (number : ℕ) → (number == 0) ≡ false → destroyed w number ≡ Ok (without w number)
not_refused w number other =
    ap (λ (b : Bool). after (after (if b then Err (record { number = NotAllowedOnRoot; subject = None }) else Ok (tree.without w.tree number)) (λ _. Ok (windows.without (windows_of w) number))) (λ x. Ok (with_left w x))) other

pub gone : (w : World) (path : List ℕ) (v : Window) → WellFormed w.tree → is_other path ≡ true → of_path w.tree.windows path ≡ Some v → destroyed w v.number ≡ Ok (without_path w path)
gone w path v formed other e =
    not_refused w v.number (not_first w.tree path v formed e (other_text path other)) ∙ ap Ok (sym (ap (λ (o : Option Window). on_window o w (λ u. without w u.number)) e))
