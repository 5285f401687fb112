-- What turns a checkbutton on or off.
use Rattle.std.proofs.Common.{◌≡◌, ℕ, Bool, true, false, not, ◌&&◌, nat_eq, List, [], ◌∷◌, Option, Some, None, is_some, Ok, refl, sym, ap, ◌∙◌, true≢false, rules}
use Rattle.tks_text.specs.Text.{same_text}
use Rattle.tks_opt.specs.Options.{Options}
use Rattle.tks_opt.specs.declared.said.Said.{Said}
use Rattle.tks_opt.specs.declared.said.Said.TheVariants.{Text}
use Rattle.tks_button.specs.Action.{action_of, invoked}
use Rattle.tks_button.specs.Checkbutton.{is_on, value_when, turned_by, turned, answered, called}
use Rattle.tks_button.specs.Laws.{TellsOnFromOff, after_words, toggling}
use Rattle.tks_button.specs.declared.action.Action.{Action}
use Rattle.tks_button.specs.declared.action.Action.TheVariants as action

same_itself : (text : List ℕ) → same_text text text ≡ true
same_itself [] = refl
same_itself (c ∷ text) = let same : nat_eq c c ≡ true = search rules in ap (λ b. b && same_text text text) same ∙ same_itself text

pub tells : (t : Options) (on : Bool) → TellsOnFromOff t → is_on t (Some (value_when t on)) ≡ on
tells t true differ = same_itself (value_when t true)
tells t false differ = differ

not_not : (t : Options) (on : Bool) → value_when t (not (not on)) ≡ value_when t on
not_not t true = refl
not_not t false = refl

pub toggled_twice : (t : Options) (path : List ℕ) (on : Bool) → TellsOnFromOff t → after_words t (toggling path) (after_words t (toggling path) (value_when t on)) ≡ value_when t on
toggled_twice t path on differ =
    ap (λ b. after_words t (toggling path) (value_when t (not b))) (tells t on differ) ∙ ap (λ b. value_when t (not b)) (tells t (not on) differ) ∙ not_not t on

pub no_error : (t : Options) (words : List (List ℕ)) (on then_on : Bool) → turned t words on ≡ Some then_on → (said : Said) × (called t words ≡ Ok (said, t))
no_error t words on then_on h = by (action_of words) h
  where
    by : (a : Option Action) → turned_by t on a ≡ Some then_on → (said : Said) × (answered t words a ≡ Ok (said, t))
    by None h = absurd (true≢false (ap is_some (sym h)))
    by (Some action.Invoke) h = (invoked t, refl)
    by (Some action.Select) h = (Text [], refl)
    by (Some action.Deselect) h = (Text [], refl)
    by (Some action.Toggle) h = (Text [], refl)
